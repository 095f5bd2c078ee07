use Rattle.std.proofs.Common.{◌≡◌, length, reverse}
use Rattle.open_nodes.specs.Trees.{tree_of}
use Rattle.open_nodes.specs.Turned.{whole}
use Rattle.open_nodes.proofs.place.go_up.Given as goal

abbrev pub invariant-loop-side : goal.invariant-loop-side
invariant-loop-side l = whole (reverse l.left) (tree_of l.node) (tree_of l.above) ≡ whole (reverse l.fn.path) (tree_of l.fn.node) (tree_of l.fn.above)

abbrev pub decreases-loop-side : goal.decreases-loop-side
decreases-loop-side l = length l.left
