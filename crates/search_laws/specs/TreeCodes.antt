-- How the logic stores trees, so that a type's value may hold one.
use Rattle.std.proofs.Common.{◌≡◌, ◌≢◌, ℕ, List, Option, refl, ap, arith}
use Rattle.std.proofs.Math.IntN.{ℤ}
use Rattle.std.specs.Coded.{Coded, code_by, coded×, coded_list, coded_option, coded_ℕ}
use base.Stored.{Gv, gnil, gnum, gcons, coded_ℤ}
use Rattle.bp_theory.specs.contracts.Proof as proof_type
use Rattle.bp_theory.specs.Trees.{Tree, shut_leaf, open_leaf, split}
use Rattle.search_laws.specs.declared.Holding.{Holding}
use Rattle.search_laws.specs.contracts.Holding as holding_type
use Rattle.search_laws.specs.Crew.{Crew}
use Rattle.search_laws.specs.Grove.{GrowingTree, live, shut, fork}

abbrev head : Gv → Gv
head gnil = gnil
head (gnum n) = gnil
head (gcons a b) = a

abbrev tail : Gv → Gv
tail gnil = gnil
tail (gnum n) = gnil
tail (gcons a b) = b

apart : (m n : ℕ) {a b : Gv} → gcons (gnum m) a ≡ gcons (gnum n) b → m ≢ n → ⊥
apart m n p other = other (cc)

-- the code of a growing tree
abbrev pub growing_code : GrowingTree → Gv
growing_code (live proof bound) = gcons (gnum 0) (gcons (proof_type.the_row.coded.code proof) (coded_ℤ.code bound))
growing_code (shut proof) = gcons (gnum 1) (proof_type.the_row.coded.code proof)
growing_code (fork v at low high) = gcons (gnum 2) (gcons (coded_ℕ.code v) (gcons (coded_ℤ.code at) (gcons (growing_code low) (growing_code high))))

-- trees of one code are one
pub growing_inj : (x y : GrowingTree) → growing_code x ≡ growing_code y → x ≡ y
growing_inj (live p z) (live q w) e =
    λ i. live (proof_type.the_row.coded.inj p q (ap (λ g. head (tail g)) e) i) (coded_ℤ.inj z w (ap (λ g. tail (tail g)) e) i)
growing_inj (live p z) (shut q) e = absurd (apart 0 1 e (omega arith))
growing_inj (live p z) (fork w b c d) e = absurd (apart 0 2 e (omega arith))
growing_inj (shut p) (live q w) e = absurd (apart 1 0 e (omega arith))
growing_inj (shut p) (shut q) e = λ i. shut (proof_type.the_row.coded.inj p q (ap (λ g. tail g) e) i)
growing_inj (shut p) (fork w b c d) e = absurd (apart 1 2 e (omega arith))
growing_inj (fork v a l h) (live q w) e = absurd (apart 2 0 e (omega arith))
growing_inj (fork v a l h) (shut q) e = absurd (apart 2 1 e (omega arith))
growing_inj (fork v a l h) (fork w b c d) e =
    λ i. fork (coded_ℕ.inj v w (ap (λ g. head (tail g)) e) i) (coded_ℤ.inj a b (ap (λ g. head (tail (tail g))) e) i)
    (growing_inj l c (ap (λ g. head (tail (tail (tail g)))) e) i) (growing_inj h d (ap (λ g. tail (tail (tail (tail g)))) e) i)

abbrev pub coded_growing : Coded GrowingTree
coded_growing = record { code = growing_code; inj = growing_inj }

-- the code of a certificate's tree
abbrev pub tree_code : Tree → Gv
tree_code (shut_leaf proof) = gcons (gnum 0) (proof_type.the_row.coded.code proof)
tree_code (open_leaf proof) = gcons (gnum 1) (proof_type.the_row.coded.code proof)
tree_code (split v at low high) = gcons (gnum 2) (gcons (coded_ℕ.code v) (gcons (coded_ℤ.code at) (gcons (tree_code low) (tree_code high))))

pub tree_inj : (x y : Tree) → tree_code x ≡ tree_code y → x ≡ y
tree_inj (shut_leaf p) (shut_leaf q) e = λ i. shut_leaf (proof_type.the_row.coded.inj p q (ap (λ g. tail g) e) i)
tree_inj (shut_leaf p) (open_leaf q) e = absurd (apart 0 1 e (omega arith))
tree_inj (shut_leaf p) (split w b c d) e = absurd (apart 0 2 e (omega arith))
tree_inj (open_leaf p) (shut_leaf q) e = absurd (apart 1 0 e (omega arith))
tree_inj (open_leaf p) (open_leaf q) e = λ i. open_leaf (proof_type.the_row.coded.inj p q (ap (λ g. tail g) e) i)
tree_inj (open_leaf p) (split w b c d) e = absurd (apart 1 2 e (omega arith))
tree_inj (split v a l h) (shut_leaf q) e = absurd (apart 2 0 e (omega arith))
tree_inj (split v a l h) (open_leaf q) e = absurd (apart 2 1 e (omega arith))
tree_inj (split v a l h) (split w b c d) e =
    λ i. split (coded_ℕ.inj v w (ap (λ g. head (tail g)) e) i) (coded_ℤ.inj a b (ap (λ g. head (tail (tail g))) e) i)
    (tree_inj l c (ap (λ g. head (tail (tail (tail g)))) e) i) (tree_inj h d (ap (λ g. tail (tail (tail (tail g)))) e) i)

abbrev pub coded_tree : Coded Tree
coded_tree = record { code = tree_code; inj = tree_inj }

-- the code of a crew
abbrev pub coded_crew : Coded Crew
coded_crew =
    code_by (GrowingTree × (Option (List ℤ) × List (Option Holding)))
    (coded× coded_growing (coded× (coded_option (coded_list coded_ℤ)) (coded_list (coded_option holding_type.the_row.coded))))
    (λ c. (c.tree, (c.best, c.held))) (λ p. record { tree = p.0; best = p.1.0; held = p.1.1 }) (λ _. refl)
