use Rattle.std.proofs.Common.{◌∙◌, arith, vec_len}
use Rattle.state_graph.proofs.MergeLaws.{copied_more}
use Rattle.state_graph.proofs.merge.copy_node.Goals as goal

pub loop-place-preserved : goal.loop-place-preserved
loop-place-preserved c = record {
  list = c.copy_arc.ensures.list ∙ c.loop-place.invariant.list;
  start = c.copy_arc.ensures.start ∙ c.loop-place.invariant.start;
  copied = copied_more c.args.arcs.now c.args.behind.now c.args.from c.args.first c.loop-place.place (vec_len c.loop-place.fans.list) c.args.fans.now.arcs.items c.loop-place.fans.arcs.items
      c.copy_arc.new.fans.arcs.items c.loop-place-test.true (omega (arith, c.if-arcs-place.false)) c.in_ok-copy_arc.ensures.arcs c.loop-place.invariant.copied;
}
