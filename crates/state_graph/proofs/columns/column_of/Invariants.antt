use Rattle.std.proofs.Common.{◌≡◌, ◌<◌, ℕ, [], get_or, vec_len}
use Rattle.state_graph.specs.Windows.{coef_of}
use Rattle.state_graph.proofs.columns.column_of.Given as goal

abbrev pub invariant-loop-row : goal.invariant-loop-row
invariant-loop-row l = record {
  each : vec_len l.column ≡ l.row;
  coefs_are : (k : ℕ) → k < l.row → coef_of l.column.items k ≡ coef_of (get_or l.dense k []) l.var;
}
