use Rattle.std.proofs.Common.{◌≡◌, ◌<◌, ℕ, [], get_or, length}
use Rattle.bp_theory.specs.declared.Row.{Row}
use Rattle.state_graph.specs.Columns.{AreCoefs}
use Rattle.state_graph.proofs.columns.dense_rows.Given as goal

abbrev pub invariant-loop-row : goal.invariant-loop-row
invariant-loop-row l = record {
  many : length l.dense ≡ l.row-index;
  each : (k : ℕ) (d : Row) → k < l.row-index → AreCoefs (get_or l.rows k d).terms l.count (get_or l.dense k []);
}
