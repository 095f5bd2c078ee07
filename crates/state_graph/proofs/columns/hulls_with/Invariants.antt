use Rattle.std.proofs.Common.{◌≡◌, ◌<◌, ℕ, vec_len}
use Rattle.bp_theory.specs.Program.{span_at}
use Rattle.state_graph.specs.Windows.{coef_of}
use Rattle.state_graph.specs.Columns.{hull_with}
use Rattle.state_graph.proofs.columns.hulls_with.Given as goal

abbrev pub invariant-loop-row : goal.invariant-loop-row
invariant-loop-row l = record {
  each : vec_len l.wider ≡ l.row;
  hulls_are : (k : ℕ) → k < l.row → span_at l.wider.items k ≡ hull_with (span_at l.hulls k) (coef_of l.column k) l.span;
}
