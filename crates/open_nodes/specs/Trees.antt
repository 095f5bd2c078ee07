-- Trees of a search as growing trees.
use Rattle.std.specs.Prelude.{ℕ, ◌+◌}
use Rattle.search_laws.specs.Grove.{GrowingTree, live, shut, fork}
use Rattle.open_nodes.specs.declared.tree.Tree.{Tree}
use Rattle.open_nodes.specs.declared.tree.Tree.TheVariants.{Live, Shut, Fork'}

-- a tree as a growing tree
abbrev pub tree_of : Tree → GrowingTree
tree_of (Live proof bound) = live proof bound
tree_of (Shut proof) = shut proof
tree_of (Fork' v at p low q high) = fork v at (tree_of low) (tree_of high)

-- a tree is a leaf
abbrev pub IsLeaf : GrowingTree → Type 0
IsLeaf (live proof bound) = Unit {0}
IsLeaf (shut proof) = Unit {0}
IsLeaf (fork v at low high) = ⊥

-- what falls with each node that goes, and with each turn of a fork about its low part, a fork itself
abbrev pub weight : GrowingTree → ℕ
weight (live proof bound) = 0
weight (shut proof) = 0
weight (fork v at low high) = 1 + (weight low + weight low) + weight high
