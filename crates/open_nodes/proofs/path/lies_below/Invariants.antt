use Rattle.std.proofs.Common.{length}
use Rattle.open_nodes.specs.Paths.{sides_of}
use Rattle.open_nodes.proofs.Paths.{AreBeside}
use Rattle.open_nodes.proofs.path.lies_below.Given as goal

abbrev pub invariant-loop-next : goal.invariant-loop-next
invariant-loop-next l = AreBeside l.steps l.here l.ahead (length l.above)

abbrev pub decreases-loop-next : goal.decreases-loop-next
decreases-loop-next l = length (sides_of l.ahead)
