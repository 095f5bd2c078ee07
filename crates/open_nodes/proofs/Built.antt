-- The tree that nodes in preorder make.
use Rattle.std.proofs.Common.{◌≡◌, ◌∙◌, ℕ, List, [], ◌∷◌, ◌++◌, reverse, ℤ, sym, ap, refl, append_assoc, append-nil}
use Rattle.std.proofs.lemmas.List.{reverse-append}
use Rattle.search_laws.specs.Grove.{GrowingTree, live, shut, fork}
use Rattle.open_nodes.specs.Nodes.{growing_nodes, built, last_first}
use Rattle.open_nodes.specs.declared.tree.Tree.{Tree}
use Rattle.open_nodes.specs.declared.nodes.GrowingNode.{GrowingNode}
use Rattle.open_nodes.specs.declared.nodes.GrowingNode.TheVariants.{Split}

-- the nodes of a tree, from the last to the first, make the tree
pub builds : (t : GrowingTree) (nodes : List GrowingNode) (made : List GrowingTree) → built (reverse (growing_nodes t) ++ nodes) made ≡ built nodes (t ∷ made)
builds (live proof bound) nodes made = refl
builds (shut proof) nodes made = refl
builds (fork v at low high) nodes made =
    ap (λ (l : List GrowingNode). built l made) (turned v at (growing_nodes low) (growing_nodes high) nodes)
    ∙ builds high (reverse (growing_nodes low) ++ Split v at ∷ nodes) made
    ∙ builds low (Split v at ∷ nodes) (high ∷ made)
  where
    turned : (v : ℕ) (at : ℤ) (a b nodes : List GrowingNode)
        → reverse (Split v at ∷ (a ++ b)) ++ nodes ≡ reverse b ++ (reverse a ++ Split v at ∷ nodes)
    turned v at a b nodes =
        ap (λ (l : List GrowingNode). l ++ nodes) (reverse-append (Split v at ∷ []) (a ++ b))
        ∙ append_assoc (reverse (a ++ b)) (Split v at ∷ []) nodes
        ∙ ap (λ (l : List GrowingNode). l ++ Split v at ∷ nodes) (reverse-append a b)
        ∙ append_assoc (reverse b) (reverse a) (Split v at ∷ nodes)

-- the same where no further nodes are left
pub builds_all : (t : GrowingTree) → built (reverse (growing_nodes t)) [] ≡ t ∷ []
builds_all t = ap (λ (l : List GrowingNode). built l []) (sym (append-nil (reverse (growing_nodes t)))) ∙ builds t [] []

-- what is built before a node is taken
pub grown_begins : (t : GrowingTree) (left : List GrowingNode) (made : List Tree) → left ≡ growing_nodes t → made ≡ [] → built (reverse left) (last_first made) ≡ t ∷ []
grown_begins t left made left_is made_is =
    ap (λ (l : List GrowingNode). built (reverse l) (last_first made)) left_is ∙ ap (λ (m : List Tree). built (reverse (growing_nodes t)) (last_first m)) made_is ∙ builds_all t
