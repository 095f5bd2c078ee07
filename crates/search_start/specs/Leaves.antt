-- The open leaves of a certificate's tree by their numbers.
use Rattle.std.specs.Prelude.{◌≡◌, ℕ, zero, suc, ◌+◌, List, [], ◌∷◌, ◌++◌, map, Option, Some, None, slice_get}
use Rattle.std.specs.Borrow.{Bor}
use Rattle.bp_theory.specs.Trees.{Tree, shut_leaf, open_leaf, split}
use Rattle.search_laws.specs.declared.Side.{Side}
use Rattle.search_laws.specs.declared.Side.TheVariants.{Low, High}
use Rattle.cert_format.specs.Nodes.{nodes}
use Rattle.cert_format.specs.Sketch.{tree_of}
use Rattle.cert_format.specs.Written.{written_tree}
use Rattle.cert_format.specs.declared.sketch.Sketch.{Sketch}
use Rattle.search_start.specs.declared.leaf.Above.{Above}
use Rattle.search_start.specs.declared.leaf.Above.TheVariants as a

-- the paths of a tree's open leaves, in the order of their lines
abbrev pub open_paths : Tree → List (List Side)
open_paths (shut_leaf proof) = []
open_paths (open_leaf proof) = [] ∷ []
open_paths (split v at low high) = map (λ path. Low ∷ path) (open_paths low) ++ map (λ path. High ∷ path) (open_paths high)

-- the path of an open leaf by its number from 1, if there are so many
abbrev pub open_path : Tree → ℕ → Option (List Side)
open_path tree zero = None
open_path tree (suc before) = slice_get (open_paths tree) before

-- where in a certificate's tree a search works: everywhere, or at the open leaf of a number and below it alone
abbrev pub IsWorkedOn : Tree → (leaf : Option ℕ) → (below : Option (List Side)) → Type 0
IsWorkedOn tree None below = below ≡ None
IsWorkedOn tree (Some number) below = (path : List Side) × (below ≡ Some path) × (open_path tree number ≡ Some path)

-- ---- the forks above a node, the nearest first

-- the part of a fork in which the node stands
abbrev pub side_of : Above → Side
side_of (a.Low high) = Low
side_of a.High = High

-- the paths of the open leaves of a node, and behind them those of the high parts that are still to come, from the root
abbrev pub paths_above : List Above → List (List Side) → List (List Side)
paths_above [] paths = paths
paths_above (a.Low high ∷ above) paths = paths_above above (map (λ path. Low ∷ path) paths ++ map (λ path. High ∷ path) (open_paths (tree_of high.now)))
paths_above (a.High ∷ above) paths = paths_above above (map (λ path. High ∷ path) paths)

-- those at a node, and none where no node is left
abbrev pub paths_at : Option (Bor Sketch) → List Above → List (List Side)
paths_at None above = []
paths_at (Some node) above = paths_above above (open_paths (tree_of node.now))

-- how many nodes the high parts have that are still to come
abbrev pub nodes_above : List Above → ℕ
nodes_above [] = 0
nodes_above (a.Low high ∷ above) = nodes (written_tree (tree_of high.now)) + nodes_above above
nodes_above (a.High ∷ above) = nodes_above above

-- those, and the nodes of the node at hand
abbrev pub nodes_at : Option (Bor Sketch) → List Above → ℕ
nodes_at None above = 0
nodes_at (Some node) above = nodes (written_tree (tree_of node.now)) + nodes_above above
