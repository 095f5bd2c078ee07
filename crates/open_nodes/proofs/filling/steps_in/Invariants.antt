use Rattle.std.proofs.Common.{◌≡◌, ◌+◌, reverse}
use Rattle.bp_theory.specs.Trees.{steps}
use Rattle.search_laws.specs.Grove.{certificate_tree}
use Rattle.open_nodes.specs.Trees.{tree_of}
use Rattle.open_nodes.proofs.Ahead.{steps_ahead, trees_ahead}
use Rattle.open_nodes.proofs.filling.steps_in.Given as goal

abbrev pub invariant-loop-node : goal.invariant-loop-node
invariant-loop-node l = l.count + steps_ahead (reverse l.ahead.items) ≡ steps (certificate_tree (tree_of l.tree))

abbrev pub decreases-loop-node : goal.decreases-loop-node
decreases-loop-node l = trees_ahead (reverse l.ahead.items)
