use Rattle.open_nodes.specs.Trees.{tree_of, weight}
use Rattle.open_nodes.proofs.tree.Tree.drop.Given as goal

abbrev pub decreases-loop-self : goal.decreases-loop-self
decreases-loop-self l = weight (tree_of l.self)
