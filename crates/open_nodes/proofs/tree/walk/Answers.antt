use Rattle.std.proofs.Common.{ap, drop}
use Rattle.open_nodes.specs.Trees.{tree_of}
use Rattle.open_nodes.proofs.Walks.{ends_at_shut, ends_with_path}
use Rattle.open_nodes.proofs.tree.walk.Goals as goal

pub returns-in-Shut-clause-zone : goal.returns-in-Shut-clause-zone
returns-in-Shut-clause-zone c =
    (ends_at_shut (tree_of c.args.tree.now) c.args.root c.args.path.now (tree_of c.loop-side.node.now) _ c.loop-side.zone
    (drop c.loop-side.side-index c.args.path.now) (ap tree_of c.in-Shut.is) c.loop-side.invariant).zone_is

pub returns-clause-leaf : goal.returns-clause-leaf
returns-clause-leaf c =
    (ends_with_path (tree_of c.args.tree.now) c.args.root c.args.path.now (tree_of c.loop-side.node.now) c.loop-side.zone
    c.loop-side.side-index c.loop-side-test.false c.loop-side.invariant).leaf
