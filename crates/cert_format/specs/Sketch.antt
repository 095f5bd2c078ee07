-- The branch tree that a sketch stands for.
use Rattle.std.specs.Prelude.{ℕ, ◌+◌}
use Rattle.bp_theory.specs.Trees.{Tree, shut_leaf, open_leaf, split}
use Rattle.cert_format.specs.declared.sketch.Sketch.{Sketch}
use Rattle.cert_format.specs.declared.sketch.Sketch.TheVariants.{Leaf, Open, Fork'}

-- a sketch as a branch tree
abbrev pub tree_of : Sketch → Tree
tree_of (Leaf proof) = shut_leaf proof
tree_of (Open proof) = open_leaf proof
tree_of (Fork' v at p low q high) = split v at (tree_of low) (tree_of high)

-- a tree is a leaf
abbrev pub IsLeaf : Tree → Type 0
IsLeaf (shut_leaf proof) = Unit {0}
IsLeaf (open_leaf proof) = Unit {0}
IsLeaf (split v at low high) = ⊥

-- what falls with each node that goes, and with each turn of a split about its low part, a split itself
abbrev pub weight : Tree → ℕ
weight (shut_leaf proof) = 0
weight (open_leaf proof) = 0
weight (split v at low high) = 1 + (weight low + weight low) + weight high
