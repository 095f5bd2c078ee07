use Rattle.std.proofs.Common.{arith}
use Rattle.std.proofs.lemmas.Int.{ints}
use Rattle.shortest_path.specs.Short.{far}
use Rattle.shortest_path.proofs.ShortLaws.{cells_set, far_more, none_at}
use Rattle.shortest_path.proofs.short.clear.Goals as goal

pub loop-node-preserved : goal.loop-node-preserved
loop-node-preserved c = record {
  cells = cells_set c.args.nodes c.loop-node.node c.loop-node.cells.items far c.loop-node.invariant.cells c.loop-node-test.true (omega (arith, ints));
  none = far_more c.args.nodes c.loop-node.node c.loop-node.cells.items c.loop-node.invariant.cells c.loop-node-test.true c.loop-node.invariant.none;
}

pub returns-clause-none : goal.returns-clause-none
returns-clause-none c = λ k l.
    none_at c.loop-node.cells.items k (omega (arith, l, c.loop-node.invariant.cells.each)) (c.loop-node.invariant.none k (omega (arith, l, c.loop-node-test.false)))
