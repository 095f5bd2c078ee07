use Rattle.std.proofs.Common.{◌≡◌, ◌<◌, ℕ, get_or, vec_len}
use Rattle.bp_theory.specs.Program.{span_at}
use Rattle.bp_theory.specs.declared.Row.{Row}
use Rattle.state_graph.specs.Layers.{window_in}
use Rattle.state_graph.proofs.root.root_of.Given as goal

abbrev pub invariant-loop-k : goal.invariant-loop-k
invariant-loop-k l = record {
  each : vec_len l.windows ≡ l.k;
  windows_are : (k : ℕ) (d : Row) → k < l.k → span_at l.windows.items k ≡ window_in (get_or l.rows k d) (span_at l.hulls k);
}
