use Rattle.std.proofs.Common.{refl}
use Rattle.open_nodes.specs.Trees.{tree_of}
use Rattle.open_nodes.specs.Queues.{queue_of}
use Rattle.branch_tree.proofs.Adopting.{adopt_whole, adopt_numbered}
use Rattle.branch_tree.proofs.grove.Grove.adopt.Goals as goal

pub invariant_of-result : goal.invariant_of-result
invariant_of-result c =
    adopt_whole c.args.b.now c.in_ok-root.root (tree_of c.args.tree) c.in_ok-queue.queue c.in_ok-queue.live c.in_ok-count.count
    c.in_ok-depth.depth c.in_ok-root.ensures.spans c.in_ok-root.ensures.zone c.requires.kept c.requires.deep c.requires.few
    c.in_ok-queue.ensures.filled c.in_ok-queue.ensures.live c.in_ok-count.ensures c.in_ok-depth.ensures

pub returns-clause-adopted : goal.returns-clause-adopted
returns-clause-adopted c = record {
  tree = refl;
  root = c.in_ok-root.ensures.spans;
  numbered = adopt_numbered (tree_of c.args.tree) (queue_of c.in_ok-queue.queue) c.in_ok-queue.ensures.filled;
}

pub returns-clause-standing : goal.returns-clause-standing
returns-clause-standing c = (invariant_of-result c).0
