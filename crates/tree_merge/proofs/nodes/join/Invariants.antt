use Rattle.std.proofs.Common.{◌≡◌, ◌++◌, length}
use Rattle.open_nodes.specs.Trees.{tree_of}
use Rattle.open_nodes.specs.Nodes.{growing_nodes}
use Rattle.tree_merge.specs.Merging.{merged, shut_by}
use Rattle.tree_merge.specs.Coming.{nodes_coming}
use Rattle.tree_merge.proofs.nodes.join.Given as goal

abbrev pub invariant-loop-here : goal.invariant-loop-here
invariant-loop-here l = l.nodes.items ++ nodes_coming l.cost l.ahead.items ≡ growing_nodes (shut_by l.cost (merged (tree_of l.first) (tree_of l.second)))

abbrev pub decreases-loop-here : goal.decreases-loop-here
decreases-loop-here l = length (nodes_coming l.cost l.ahead.items)
