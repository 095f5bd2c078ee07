use Rattle.std.proofs.Common.{drop}
use Rattle.open_nodes.specs.Trees.{tree_of}
use Rattle.open_nodes.proofs.Walks.{IsWalk}
use Rattle.open_nodes.proofs.tree.walk.Given as goal

abbrev pub invariant-loop-side : goal.invariant-loop-side
invariant-loop-side l = IsWalk (tree_of l.tree) l.fn.root l.path (tree_of l.node) l.zone (drop l.side-index l.path)
