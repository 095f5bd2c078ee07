use Rattle.std.proofs.Common.{◌≤◌, drop}
use Rattle.bp_theory.specs.Classes.{prefixes}
use Rattle.state_graph.proofs.beginnings.has_beginnings.Given as goal

abbrev pub invariant-loop-k : goal.invariant-loop-k
invariant-loop-k l = l.prefixes ≤ prefixes (drop l.k l.spans)
