use Rattle.open_nodes.specs.Trees.{tree_of}
use Rattle.open_nodes.proofs.Turned.{IsTurnedTo}
use Rattle.open_nodes.proofs.place.go_down.Given as goal

abbrev pub invariant-loop-side : goal.invariant-loop-side
invariant-loop-side l = IsTurnedTo (tree_of l.fn.node) l.path l.side-index l.depth (tree_of l.node) (tree_of l.above)
