use Rattle.std.proofs.Common.{◌≡◌, ◌<◌, ℕ, vec_len}
use Rattle.state_graph.specs.Windows.{twin_at}
use Rattle.state_graph.specs.Columns.{IsTwin}
use Rattle.state_graph.proofs.twins.refined.Given as goal

abbrev pub invariant-loop-row : goal.invariant-loop-row
invariant-loop-row l = record {
  table : 0 < vec_len l.table;
  each : vec_len l.finer ≡ l.row;
  twins_are : (k : ℕ) → k < l.row → IsTwin l.twins l.column k (twin_at l.finer.items k);
}
