use Rattle.std.proofs.Common.{arith}
use Rattle.std.proofs.Math.IntN.{pos}
use Rattle.std.proofs.lemmas.Int.{ints}
use Rattle.shortest_path.proofs.ShortLaws.{cells_set, zero_more}
use Rattle.shortest_path.proofs.short.zero.Goals as goal

pub loop-node-preserved : goal.loop-node-preserved
loop-node-preserved c = record {
  cells = cells_set c.args.nodes c.loop-node.node c.loop-node.cells.items (pos 0) c.loop-node.invariant.cells c.loop-node-test.true (omega (arith, ints));
  zeros = zero_more c.args.nodes c.loop-node.node c.loop-node.cells.items c.loop-node.invariant.cells c.loop-node-test.true c.loop-node.invariant.zeros;
}
