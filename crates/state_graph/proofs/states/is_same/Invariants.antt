use Rattle.std.proofs.Common.{◌≡◌, ◌<◌, ℕ}
use Rattle.bp_theory.specs.Program.{span_at}
use Rattle.state_graph.proofs.states.is_same.Given as goal

abbrev pub invariant-loop-row : goal.invariant-loop-row
invariant-loop-row l = (k : ℕ) → k < l.row → span_at l.a k ≡ span_at l.b k
