use Rattle.std.proofs.Common.{◌≡◌}
use Rattle.state_graph.specs.Merges.{IsCopied}
use Rattle.state_graph.proofs.merge.copy_node.Given as goal

abbrev pub invariant-loop-place : goal.invariant-loop-place
invariant-loop-place l = record {
  list : l.fans.list.items ≡ l.fn.fans.list.items;
  start : l.fans.start ≡ l.fn.fans.start;
  copied : IsCopied l.arcs l.behind l.from l.fn.first l.place l.fn.fans.arcs.items l.fans.arcs.items;
}
