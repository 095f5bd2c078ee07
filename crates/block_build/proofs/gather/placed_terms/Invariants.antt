use Rattle.std.proofs.Common.{◌≡◌, take, map}
use Rattle.bp_theory.specs.Decomposition.{term_with_place}
use Rattle.block_build.proofs.gather.placed_terms.Given as goal

abbrev pub invariant-loop-term : goal.invariant-loop-term
invariant-loop-term l = l.placed.items ≡ map (term_with_place l.vars) (take l.term-index l.terms)
