-- Walks over a tree with a list of the nodes that are still to come, the next one last.
use Rattle.std.proofs.Common.{◌≡◌, ◌∙◌, ℕ, ◌+◌, max, List, [], ◌∷◌, ◌++◌, reverse, None, sym, ap, subst, refl, arith, add_assoc, ℤ, Bor}
use Rattle.std.proofs.lemmas.List.{reverse-append}
use Rattle.bp_theory.specs.Trees.{steps, depth}
use Rattle.search_laws.specs.declared.Side.{Side}
use Rattle.search_laws.specs.declared.Side.TheVariants.{Low, High}
use Rattle.search_laws.specs.Grove.{GrowingTree, fork, live_count, certificate_tree}
use Rattle.search_laws.specs.Queue.{Queue}
use Rattle.open_nodes.specs.Trees.{tree_of}
use Rattle.open_nodes.specs.Nodes.{nodes_in}
use Rattle.open_nodes.specs.Filled.{IsFilled, IsFreeFrom}
use Rattle.open_nodes.specs.declared.tree.Tree.{Tree}
use Rattle.open_nodes.specs.declared.filling.Ahead.{Ahead}
use Rattle.open_nodes.specs.declared.filling.AtDepth.{AtDepth}
use Rattle.open_nodes.proofs.Preorder.{filled_fork}

-- what is put at the end comes first in the other direction
pub last_ahead : {X : Type 0} (xs : List X) (x : X) → reverse (xs ++ x ∷ []) ≡ x ∷ reverse xs
last_ahead xs x = reverse-append xs (x ∷ [])

-- ---- the queue

-- how many nodes are still to come
abbrev pub nodes_ahead : List Ahead → ℕ
nodes_ahead [] = 0
nodes_ahead (a ∷ rest) = nodes_in (tree_of a.node.now) + nodes_ahead rest

-- how many live leaves are still to come
abbrev pub lives_ahead : List Ahead → ℕ
lives_ahead [] = 0
lives_ahead (a ∷ rest) = live_count (tree_of a.node.now) + lives_ahead rest

-- the leaves of all nodes that are still to come are put into a queue
abbrev pub FillsAll : Queue → List Ahead → ℕ → Queue → Type 0
FillsAll before [] first after = after ≡ before
FillsAll before (a ∷ rest) first after =
    (middle : Queue) × IsFilled before (tree_of a.node.now) a.path first middle × FillsAll middle rest (first + live_count (tree_of a.node.now)) after

-- how far a queue is filled
pub record IsFilling (tree : GrowingTree) (ahead : List Ahead) (queue : Queue) (next : ℕ) : Type 0 where
  pub fills : (after : Queue) → FillsAll queue ahead next after → IsFilled (λ _ _. None) tree [] 0 after
  pub free : IsFreeFrom next queue
  pub lives : next + lives_ahead ahead ≡ live_count tree

-- a queue where the root is still to come
pub filling_begins : (a : Ahead) (tree : GrowingTree) (queue : Queue) → tree_of a.node.now ≡ tree → a.path ≡ [] → IsFreeFrom 0 queue
    → (alone : (after : Queue) → IsFilled queue tree [] 0 after → IsFilled (λ _ _. None) tree [] 0 after)
    → IsFilling tree (a ∷ []) queue 0
filling_begins a tree queue is top free alone = record {
  fills = λ after fills. alone after (
      subst (λ (u : GrowingTree). IsFilled queue u [] 0 after) is (
      subst (λ (p : List Side). IsFilled queue (tree_of a.node.now) p 0 after) top (
      subst (λ (q : Queue). IsFilled queue (tree_of a.node.now) a.path 0 q) (sym fills.2) fills.1)));
  free = free;
  lives = let same : live_count (tree_of a.node.now) ≡ live_count tree = ap live_count is in omega (arith, same);
}

-- a leaf is put into the queue, or none where it is shut
pub filling_leaf : (tree : GrowingTree) (a : Ahead) (rest : List Ahead) (queue after : Queue) (next behind : ℕ) → IsFilling tree (a ∷ rest) queue next
    → IsFilled queue (tree_of a.node.now) a.path next after → IsFreeFrom behind after → behind ≡ next + live_count (tree_of a.node.now)
    → IsFilling tree rest after behind
filling_leaf tree a rest queue after next behind filling filled free behind_is = record {
  fills = λ last fills. filling.fills last (after, filled, subst (λ (n : ℕ). FillsAll after rest n last) behind_is fills);
  free = free;
  lives =
      ap (λ n. n + lives_ahead rest) behind_is ∙ add_assoc next (live_count (tree_of a.node.now)) (lives_ahead rest) ∙ filling.lives;
}

-- the parts of a fork come in its place
pub filling_fork : (tree : GrowingTree) (a low high : Ahead) (rest : List Ahead) (queue : Queue) (next : ℕ) (v : ℕ) (at : ℤ) → IsFilling tree (a ∷ rest) queue next
    → tree_of a.node.now ≡ fork v at (tree_of low.node.now) (tree_of high.node.now) → low.path ≡ a.path ++ Low ∷ [] → high.path ≡ a.path ++ High ∷ []
    → IsFilling tree (low ∷ high ∷ rest) queue next
filling_fork tree a low high rest queue next v at filling is low_path high_path = record {
  fills = λ last fills. filling.fills last (
    fills.2.0,
    subst (λ (u : GrowingTree). IsFilled queue u a.path next fills.2.0) (sym is)
        (filled_fork queue fills.0 fills.2.0 v at (tree_of low.node.now) (tree_of high.node.now) a.path next (next + live_count (tree_of low.node.now))
        (subst (λ (p : List Side). IsFilled queue (tree_of low.node.now) p next fills.0) low_path fills.1) refl
        (subst (λ (p : List Side). IsFilled fills.0 (tree_of high.node.now) p (next + live_count (tree_of low.node.now)) fills.2.0) high_path fills.2.1)),
    subst (λ (n : ℕ). FillsAll fills.2.0 rest n last) count fills.2.2,
  );
  free = filling.free;
  lives = lives_are;
}
  where
    count : next + live_count (tree_of low.node.now) + live_count (tree_of high.node.now) ≡ next + live_count (tree_of a.node.now)
    count = add_assoc next (live_count (tree_of low.node.now)) (live_count (tree_of high.node.now)) ∙ ap (λ (u : GrowingTree). next + live_count u) (sym is)

    lives_are : next + (live_count (tree_of low.node.now) + (live_count (tree_of high.node.now) + lives_ahead rest)) ≡ live_count tree
    lives_are =
        ap (λ n. next + n) (sym (add_assoc (live_count (tree_of low.node.now)) (live_count (tree_of high.node.now)) (lives_ahead rest)))
        ∙ ap (λ (u : GrowingTree). next + (live_count u + lives_ahead rest)) (sym is) ∙ filling.lives

-- ---- steps

-- the splits and shut leaves of nodes
abbrev pub steps_ahead : List (Bor Tree) → ℕ
steps_ahead [] = 0
steps_ahead (t ∷ rest) = steps (certificate_tree (tree_of t.now)) + steps_ahead rest

-- how many nodes are still to come
abbrev pub trees_ahead : List (Bor Tree) → ℕ
trees_ahead [] = 0
trees_ahead (t ∷ rest) = nodes_in (tree_of t.now) + trees_ahead rest

-- ---- depth

-- the greatest depth of nodes
abbrev pub deepest_ahead : List AtDepth → ℕ
deepest_ahead [] = 0
deepest_ahead (d ∷ rest) = max (d.depth + depth (certificate_tree (tree_of d.node.now))) (deepest_ahead rest)

-- how many nodes are still to come
abbrev pub deep_ahead : List AtDepth → ℕ
deep_ahead [] = 0
deep_ahead (d ∷ rest) = nodes_in (tree_of d.node.now) + deep_ahead rest

-- ---- what is taken and put

pub first_ahead : {X : Type 0} (xs ys : List X) (x : X) → xs ≡ [] → ys ≡ xs ++ x ∷ [] → reverse ys ≡ x ∷ []
first_ahead xs ys x none one = ap reverse (one ∙ ap (λ l. l ++ x ∷ []) none)

pub next_ahead : {X : Type 0} (xs ys : List X) (x : X) → xs ≡ ys ++ x ∷ [] → reverse xs ≡ x ∷ reverse ys
next_ahead xs ys x one = ap reverse one ∙ last_ahead ys x

pub two_ahead : {X : Type 0} (xs ys zs : List X) (high low : X) → ys ≡ xs ++ high ∷ [] → zs ≡ ys ++ low ∷ [] → reverse zs ≡ low ∷ high ∷ reverse xs
two_ahead xs ys zs high low one two =
    ap reverse two ∙ last_ahead ys low ∙ ap (λ l. low ∷ reverse l) one ∙ ap (λ l. low ∷ l) (last_ahead xs high)
