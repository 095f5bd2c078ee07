-- The lines that are still to come where a walk over a search's tree stands.
use Rattle.std.specs.Prelude.{List, [], ◌∷◌, ◌++◌, reverse, Option, Some, None}
use Rattle.std.specs.Borrow.{Bor}
use Rattle.bp_theory.specs.Trees.{Tree, shut_leaf, open_leaf, split}
use Rattle.search_laws.specs.Grove.{certificate_tree}
use Rattle.open_nodes.specs.Trees.{tree_of}
use Rattle.open_nodes.specs.declared.tree.Tree.{Tree as SearchTree}
use Rattle.cert_format.specs.Preorder.{Line, node_lines}
use Rattle.cert_text.specs.declared.lines.AtHand.{AtHand}
use Rattle.cert_text.specs.declared.lines.AtHand.TheVariants as at
use Rattle.cert_text.specs.declared.lines.TreeLines.{TreeLines}

-- the lines of nodes, one behind another
abbrev pub lines_of : List (Bor SearchTree) → List Line
lines_of [] = []
lines_of (node ∷ rest) = node_lines (certificate_tree (tree_of node.now)) ++ lines_of rest

-- the tree below the node at hand; none where no node is at hand
abbrev pub tree_at : AtHand → Option Tree
tree_at at.Behind = None
tree_at (at.Open proof) = Some (open_leaf proof)
tree_at (at.Leaf proof) = Some (shut_leaf proof)
tree_at (at.Split var n low high) = Some (split var n (certificate_tree (tree_of low.now)) (certificate_tree (tree_of high.now)))

-- the tree below the node that comes next
abbrev pub next_tree : Option (Bor SearchTree) → Option Tree
next_tree None = None
next_tree (Some node) = Some (certificate_tree (tree_of node.now))

-- those of the tree at hand, and behind it of the nodes that are still to come, the last of the list first; none where no tree is at hand
abbrev pub lines_at : Option Tree → List (Bor SearchTree) → List Line
lines_at None ahead = []
lines_at (Some t) ahead = node_lines t ++ lines_of (reverse ahead)

abbrev pub tree_lines : TreeLines → List Line
tree_lines walk = lines_at (tree_at walk.here) walk.ahead.items
