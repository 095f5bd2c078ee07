use Rattle.std.proofs.Common.{◌≡◌, reverse}
use Rattle.search_laws.specs.Verdicts.{cheaper_cost}
use Rattle.open_nodes.specs.Trees.{tree_of}
use Rattle.open_nodes.proofs.Ahead.{trees_ahead}
use Rattle.tree_merge.specs.Merging.{least_live}
use Rattle.tree_merge.proofs.ComingProof.{least_ahead}
use Rattle.tree_merge.proofs.nodes.least_live.Given as goal

abbrev pub invariant-loop-node : goal.invariant-loop-node
invariant-loop-node l = cheaper_cost l.least (least_ahead (reverse l.ahead.items)) ≡ least_live (tree_of l.tree)

abbrev pub decreases-loop-node : goal.decreases-loop-node
decreases-loop-node l = trees_ahead (reverse l.ahead.items)
