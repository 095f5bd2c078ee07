use Rattle.std.proofs.Common.{◌≡◌, ◌↔◌, length}
use Rattle.open_nodes.specs.Paths.{sides_of}
use Rattle.open_nodes.proofs.path.are_sides.Given as goal

abbrev pub invariant-loop-side : goal.invariant-loop-side
invariant-loop-side l = (sides_of l.steps ≡ l.path) ↔ (sides_of l.here ≡ l.left)

abbrev pub decreases-loop-side : goal.decreases-loop-side
decreases-loop-side l = length l.left
