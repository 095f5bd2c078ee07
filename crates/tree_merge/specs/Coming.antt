-- What is still to come of a merged tree.
use Rattle.std.specs.Prelude.{List, [], ◌∷◌, ◌++◌, reverse, Option, ℤ}
use Rattle.search_laws.specs.Grove.{GrowingTree, live, shut, fork}
use Rattle.open_nodes.specs.Trees.{tree_of}
use Rattle.open_nodes.specs.Nodes.{growing_nodes}
use Rattle.open_nodes.specs.declared.nodes.GrowingNode.{GrowingNode}
use Rattle.tree_merge.specs.Merging.{raised, merged, shut_by}
use Rattle.tree_merge.specs.declared.nodes.Ahead.{Ahead}
use Rattle.tree_merge.specs.declared.nodes.Ahead.TheVariants.{Both, Raised, Whole}
use Rattle.tree_merge.specs.declared.nodes.Opened.{Opened}
use Rattle.tree_merge.specs.declared.nodes.Opened.TheVariants.{Live, Shut, Split}

-- the tree that a node still to come is, with all below it
abbrev pub coming : Ahead → GrowingTree
coming (Both first second) = merged (tree_of first.now) (tree_of second.now)
coming (Raised tree proof bound) = raised (tree_of tree.now) proof.now bound
coming (Whole tree) = tree_of tree.now

-- the tree of a node whose parts are still to come
abbrev pub opened_tree : Opened → GrowingTree
opened_tree (Live proof bound) = live proof.now bound
opened_tree (Shut proof) = shut proof.now
opened_tree (Split v at low high) = fork v at (coming low) (coming high)

-- the nodes of a merged tree that are still to come, in preorder, where the best cost shuts live leaves
abbrev pub nodes_ahead : Option ℤ → List Ahead → List GrowingNode
nodes_ahead cost [] = []
nodes_ahead cost (here ∷ rest) = growing_nodes (shut_by cost (coming here)) ++ nodes_ahead cost rest

-- the same of a list that has the next one last
abbrev pub nodes_coming : Option ℤ → List Ahead → List GrowingNode
nodes_coming cost ahead = nodes_ahead cost (reverse ahead)
