use Rattle.std.proofs.Common.{◌≡◌, ◌++◌, length, reverse}
use Rattle.open_nodes.specs.Paths.{sides_of}
use Rattle.open_nodes.proofs.path.sides_up.Given as goal

abbrev pub invariant-loop-side : goal.invariant-loop-side
invariant-loop-side l = sides_of l.steps ≡ sides_of l.here ++ reverse l.sides.items

abbrev pub decreases-loop-side : goal.decreases-loop-side
decreases-loop-side l = length (sides_of l.here)
