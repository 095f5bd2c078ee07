use Rattle.std.proofs.Common.{◌≤◌, ◌<◌, ℕ}
use Rattle.layer_graph.specs.Graphs.{arc_at, IsArcSafe}
use Rattle.state_graph.proofs.merge.wide_with.Given as goal

abbrev pub invariant-loop-arc : goal.invariant-loop-arc
invariant-loop-arc l = record {
  least : l.fn.least ≤ l.wide;
  safe : (j : ℕ) → j < l.arc-index → IsArcSafe l.wide (arc_at l.arcs j);
}
