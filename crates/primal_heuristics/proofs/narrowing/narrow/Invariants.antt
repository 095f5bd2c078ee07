use Rattle.bp_theory.specs.Trees.{IsZone}
use Rattle.primal_heuristics.proofs.narrowing.narrow.Given as goal

abbrev pub invariant-loop-span : goal.invariant-loop-span
invariant-loop-span l = IsZone l.b.named.program.spans l.narrow
