-- The nodes of a growing tree in preorder, and how they make the tree.
use Rattle.std.specs.Prelude.{◌≡◌, ℕ, ◌+◌, List, [], ◌∷◌, ◌++◌, map, reverse}
use Rattle.search_laws.specs.Grove.{GrowingTree, live, shut, fork}
use Rattle.open_nodes.specs.Trees.{tree_of}
use Rattle.open_nodes.specs.declared.tree.Tree.{Tree}
use Rattle.open_nodes.specs.declared.nodes.GrowingNode.{GrowingNode}
use Rattle.open_nodes.specs.declared.nodes.GrowingNode.TheVariants.{Live, Shut, Split}

-- how many nodes a tree has
abbrev pub nodes_in : GrowingTree → ℕ
nodes_in (live proof bound) = 1
nodes_in (shut proof) = 1
nodes_in (fork v at low high) = 1 + nodes_in low + nodes_in high

-- the nodes of a tree in preorder
abbrev pub growing_nodes : GrowingTree → List GrowingNode
growing_nodes (live proof bound) = Live proof bound ∷ []
growing_nodes (shut proof) = Shut proof ∷ []
growing_nodes (fork v at low high) = Split v at ∷ (growing_nodes low ++ growing_nodes high)

-- the trees that are left where nodes are taken from the last to the first: a leaf is one more, and a split takes the first two as its parts
abbrev pub built : List GrowingNode → List GrowingTree → List GrowingTree
built [] made = made
built (Live proof bound ∷ nodes) made = built nodes (live proof bound ∷ made)
built (Shut proof ∷ nodes) made = built nodes (shut proof ∷ made)
built (Split v at ∷ nodes) [] = []
built (Split v at ∷ nodes) (low ∷ []) = []
built (Split v at ∷ nodes) (low ∷ high ∷ made) = built nodes (fork v at low high ∷ made)

-- trees that were put one behind another, the last first
abbrev pub last_first : List Tree → List GrowingTree
last_first made = reverse (map tree_of made)

-- a node can be taken, the nodes before it too, and one tree is left
pub record CanTake (node : GrowingNode) (made : List GrowingTree) : Type 0 where
  pub nodes : List GrowingNode
  pub tree : GrowingTree
  pub one : built (node ∷ nodes) made ≡ tree ∷ []
