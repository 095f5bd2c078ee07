use Rattle.std.proofs.Common.{◌≡◌, ◌-◌, reverse, slice_get}
use Rattle.cert_format.specs.Sketch.{tree_of}
use Rattle.search_start.specs.Leaves.{open_paths, paths_at, nodes_at}
use Rattle.search_start.proofs.leaf.open_path.Given as goal

abbrev pub invariant-loop-here : goal.invariant-loop-here
invariant-loop-here l = slice_get (paths_at l.here (reverse l.above.items)) l.left ≡ slice_get (open_paths (tree_of l.tree)) (l.number - 1)

abbrev pub decreases-loop-here : goal.decreases-loop-here
decreases-loop-here l = nodes_at l.here (reverse l.above.items)
