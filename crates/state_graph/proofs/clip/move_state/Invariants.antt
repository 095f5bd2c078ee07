use Rattle.std.proofs.Common.{◌≡◌, ◌<◌, ℕ, length, vec_len}
use Rattle.bp_theory.specs.Program.{span_at}
use Rattle.state_graph.specs.Windows.{left_of, IsEmpty}
use Rattle.state_graph.proofs.clip.move_state.Given as goal

abbrev pub invariant-loop-row : goal.invariant-loop-row
invariant-loop-row l = record {
  room : vec_len l.moved ≡ length l.state;
  windows : (row : ℕ) → row < l.row → span_at l.moved.items row ≡ left_of l.column l.hulls l.state l.number row;
  filled : (row : ℕ) → row < l.row → IsEmpty (span_at l.moved.items row) → ⊥;
}
