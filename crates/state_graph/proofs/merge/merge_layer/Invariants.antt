use Rattle.std.proofs.Common.{◌≡◌, ◌<◌, ◌≤◌, ℕ, length, vec_len}
use Rattle.layer_graph.specs.Graphs.{arc_at, AreOrdered}
use Rattle.state_graph.specs.Merges.{IsMergedTo}
use Rattle.state_graph.proofs.merge.merge_layer.Given as goal

abbrev pub invariant-loop-from : goal.invariant-loop-from
invariant-loop-from l = record {
  start : l.fans.start ≡ vec_len l.fans.arcs;
  ahead : AreOrdered l.arcs → (j : ℕ) → l.place ≤ j → j < length l.arcs → l.from ≤ (arc_at l.arcs j).from;
  merged : IsMergedTo l.arcs l.behind l.place l.from (length l.fans.list.items) l.fans.arcs.items l.nodes.items;
}
