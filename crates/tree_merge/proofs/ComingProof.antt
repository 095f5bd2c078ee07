-- What is still to come of a merged tree, and the least bound of trees that are still to come.
use Rattle.std.proofs.Common.{◌≡◌, ◌∙◌, refl, ℕ, suc, ◌<◌, List, [], ◌∷◌, ◌++◌, length, reverse, Option, Some, None, sym, ap, arith, append_assoc, append-nil, Bor}
use Rattle.std.proofs.Math.IntN.{ℤ}
use Rattle.search_laws.specs.Grove.{GrowingTree, fork}
use Rattle.search_laws.specs.Verdicts.{cheaper_cost}
use Rattle.open_nodes.specs.Trees.{tree_of}
use Rattle.open_nodes.specs.Nodes.{growing_nodes}
use Rattle.open_nodes.specs.declared.tree.Tree.{Tree}
use Rattle.open_nodes.specs.declared.nodes.GrowingNode.{GrowingNode}
use Rattle.open_nodes.specs.declared.nodes.GrowingNode.TheVariants.{Split}
use Rattle.open_nodes.proofs.Ahead.{first_ahead, next_ahead, two_ahead}
use Rattle.tree_merge.specs.Merging.{least_live, shut_by}
use Rattle.tree_merge.specs.Coming.{coming, nodes_ahead, nodes_coming}
use Rattle.tree_merge.specs.declared.nodes.Ahead.{Ahead}
use Rattle.tree_merge.proofs.TestFacts.{cheaper_assoc}

-- ---- nodes

coming_last : (cost : Option ℤ) (all rest : List Ahead) (here : Ahead) → all ≡ rest ++ here ∷ []
    → nodes_coming cost all ≡ growing_nodes (shut_by cost (coming here)) ++ nodes_coming cost rest
coming_last cost all rest here is = ap (nodes_ahead cost) (next_ahead all rest here is)

pub coming_begins : (cost : Option ℤ) (none all : List Ahead) (nodes : List GrowingNode) (here : Ahead) → none ≡ [] → all ≡ none ++ here ∷ [] → nodes ≡ []
    → nodes ++ nodes_coming cost all ≡ growing_nodes (shut_by cost (coming here))
coming_begins cost none all nodes here none_is all_is nodes_is =
    ap (λ (l : List GrowingNode). l ++ nodes_coming cost all) nodes_is
    ∙ ap (nodes_ahead cost) (first_ahead none all here none_is all_is)
    ∙ append-nil (growing_nodes (shut_by cost (coming here)))

-- one node is taken
pub coming_on : (cost : Option ℤ) (all rest now : List Ahead) (here : Ahead) (nodes after whole : List GrowingNode) (node : GrowingNode)
    → nodes ++ nodes_coming cost all ≡ whole → all ≡ rest ++ here ∷ []
    → node ∷ nodes_coming cost now ≡ growing_nodes (shut_by cost (coming here)) ++ nodes_coming cost rest → after ≡ nodes ++ node ∷ []
    → after ++ nodes_coming cost now ≡ whole
coming_on cost all rest now here nodes after whole node before is step after_is =
    ap (λ (l : List GrowingNode). l ++ nodes_coming cost now) after_is
    ∙ append_assoc nodes (node ∷ []) (nodes_coming cost now)
    ∙ ap (λ (l : List GrowingNode). nodes ++ l) (step ∙ sym (coming_last cost all rest here is))
    ∙ before

pub fewer_coming : (cost : Option ℤ) (all rest now : List Ahead) (here : Ahead) (node : GrowingNode) → all ≡ rest ++ here ∷ []
    → node ∷ nodes_coming cost now ≡ growing_nodes (shut_by cost (coming here)) ++ nodes_coming cost rest
    → length (nodes_coming cost now) < length (nodes_coming cost all)
fewer_coming cost all rest now here node is step =
    let one : suc (length (nodes_coming cost now)) ≡ length (nodes_coming cost all) = ap length (step ∙ sym (coming_last cost all rest here is)) in
    omega (arith, one)

pub all_came : (cost : Option ℤ) (ahead : List Ahead) (nodes whole : List GrowingNode) → ahead ≡ [] → nodes ++ nodes_coming cost ahead ≡ whole → nodes ≡ whole
all_came cost ahead nodes whole none is =
    sym (append-nil nodes) ∙ ap (λ (l : List Ahead). nodes ++ nodes_coming cost l) (sym none) ∙ is

-- a leaf comes
pub leaf_comes : (cost : Option ℤ) (rest : List GrowingNode) (t u : GrowingTree) (node : GrowingNode) → t ≡ u → node ∷ [] ≡ growing_nodes (shut_by cost t)
    → node ∷ rest ≡ growing_nodes (shut_by cost u) ++ rest
leaf_comes cost rest t u node same is =
    ap (λ (l : List GrowingNode). l ++ rest) (is ∙ ap (λ (x : GrowingTree). growing_nodes (shut_by cost x)) same)

-- a split comes, and its parts are still to come
pub split_comes : (cost : Option ℤ) (rest one two : List Ahead) (low high : Ahead) (v : ℕ) (at : ℤ) (t u : GrowingTree) → t ≡ u → t ≡ fork v at (coming low) (coming high)
    → one ≡ rest ++ high ∷ [] → two ≡ one ++ low ∷ []
    → Split v at ∷ nodes_coming cost two ≡ growing_nodes (shut_by cost u) ++ nodes_coming cost rest
split_comes cost rest one two low high v at t u same is one_is two_is =
    let L : List GrowingNode = growing_nodes (shut_by cost (coming low)) in
    let H : List GrowingNode = growing_nodes (shut_by cost (coming high)) in
    ap (λ (l : List Ahead). Split v at ∷ nodes_ahead cost l) (two_ahead rest one two high low one_is two_is)
    ∙ ap (λ (l : List GrowingNode). Split v at ∷ l) (sym (append_assoc L H (nodes_coming cost rest)))
    ∙ ap (λ (x : GrowingTree). growing_nodes (shut_by cost x) ++ nodes_coming cost rest) (sym is ∙ same)

-- ---- the least bound

-- the least bound of the live leaves of trees
abbrev pub least_ahead : List (Bor Tree) → Option ℤ
least_ahead [] = None
least_ahead (t ∷ rest) = cheaper_cost (least_live (tree_of t.now)) (least_ahead rest)

none_else : (x : Option ℤ) → cheaper_cost x None ≡ x
none_else None = refl
none_else (Some x) = refl

pub least_begins : (least : Option ℤ) (none all : List (Bor Tree)) (t : Bor Tree) → none ≡ [] → all ≡ none ++ t ∷ [] → least ≡ None
    → cheaper_cost least (least_ahead (reverse all)) ≡ least_live (tree_of t.now)
least_begins least none all t none_is all_is least_is =
    ap (λ (x : Option ℤ). cheaper_cost x (least_ahead (reverse all))) least_is
    ∙ ap least_ahead (first_ahead none all t none_is all_is)
    ∙ none_else (least_live (tree_of t.now))

-- a leaf with this least bound is taken
pub least_leaf : (least now own whole : Option ℤ) (all rest : List (Bor Tree)) (t : Bor Tree) → cheaper_cost least (least_ahead (reverse all)) ≡ whole
    → all ≡ rest ++ t ∷ [] → least_live (tree_of t.now) ≡ own → now ≡ cheaper_cost least own → cheaper_cost now (least_ahead (reverse rest)) ≡ whole
least_leaf least now own whole all rest t before is own_is now_is =
    ap (λ (x : Option ℤ). cheaper_cost x (least_ahead (reverse rest))) now_is
    ∙ cheaper_assoc least own (least_ahead (reverse rest))
    ∙ ap (λ (x : Option ℤ). cheaper_cost least (cheaper_cost x (least_ahead (reverse rest)))) (sym own_is)
    ∙ ap (λ (l : List (Bor Tree)). cheaper_cost least (least_ahead l)) (sym (next_ahead all rest t is))
    ∙ before

pub least_fork : (least whole : Option ℤ) (all rest one two : List (Bor Tree)) (t low high : Bor Tree) (v : ℕ) (at : ℤ)
    → cheaper_cost least (least_ahead (reverse all)) ≡ whole → all ≡ rest ++ t ∷ [] → tree_of t.now ≡ fork v at (tree_of low.now) (tree_of high.now)
    → one ≡ rest ++ high ∷ [] → two ≡ one ++ low ∷ [] → cheaper_cost least (least_ahead (reverse two)) ≡ whole
least_fork least whole all rest one two t low high v at before is fork_is one_is two_is =
    let L : Option ℤ = least_live (tree_of low.now) in
    let H : Option ℤ = least_live (tree_of high.now) in
    let R : Option ℤ = least_ahead (reverse rest) in
    ap (λ (l : List (Bor Tree)). cheaper_cost least (least_ahead l)) (two_ahead rest one two high low one_is two_is)
    ∙ ap (λ (x : Option ℤ). cheaper_cost least x) (sym (cheaper_assoc L H R))
    ∙ ap (λ (x : GrowingTree). cheaper_cost least (cheaper_cost (least_live x) R)) (sym fork_is)
    ∙ ap (λ (l : List (Bor Tree)). cheaper_cost least (least_ahead l)) (sym (next_ahead all rest t is))
    ∙ before

pub least_came : (least whole : Option ℤ) (ahead : List (Bor Tree)) → ahead ≡ [] → cheaper_cost least (least_ahead (reverse ahead)) ≡ whole → least ≡ whole
least_came least whole ahead none is =
    sym (none_else least) ∙ ap (λ (l : List (Bor Tree)). cheaper_cost least (least_ahead (reverse l))) (sym none) ∙ is
