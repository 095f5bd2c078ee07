use Rattle.std.proofs.Common.{reverse}
use Rattle.open_nodes.specs.Trees.{tree_of}
use Rattle.open_nodes.specs.Queues.{queue_of}
use Rattle.open_nodes.proofs.Ahead.{IsFilling, nodes_ahead}
use Rattle.open_nodes.proofs.filling.filled_queue.Given as goal

abbrev pub invariant-loop-here : goal.invariant-loop-here
invariant-loop-here l = IsFilling (tree_of l.tree) (reverse l.ahead.items) (queue_of l.queue) l.next

abbrev pub decreases-loop-here : goal.decreases-loop-here
decreases-loop-here l = nodes_ahead (reverse l.ahead.items)
