-- Tests, choices and costs.
use Rattle.std.proofs.Common.{◌≡◌, refl, ap, ◌∙◌, ℕ, Bool, true, false, ◌&&◌, Option, Some, None, arith}
use Rattle.std.proofs.Math.IntN.{ℤ}
use Rattle.std.specs.Prelude.{◌≤ℤ◌, ◌<ℤ◌, ◌==◌, int_lt, if◌then◌else◌}
use Rattle.std.specs.Int.{int_min}
use Rattle.std.specs.Ordering.{int_eq}
use Rattle.std.specs.Cmp.{signed_Decides}
use Rattle.std.proofs.lemmas.Int.{ints, clamps}
use Rattle.std.proofs.lemmas.Bool.{eqb-true, eq-eqb}
use Rattle.search_laws.specs.GroveFacts.{IsNoDearer}
use Rattle.search_laws.specs.Verdicts.{cheaper_cost}
use Rattle.tree_merge.specs.Merging.{same_split}

-- what holds of both that a test chooses between holds of what it chooses
pub choose : {A : Type 0} (P : A → Type 0) (t : Bool) (x y : A) → (t ≡ true → P x) → (t ≡ false → P y) → P (if t then x else y)
choose P true x y f g = f refl
choose P false x y f g = g refl

pub less_by_test : (a b : ℤ) → int_lt a b ≡ true → a <ℤ b
less_by_test a b h = grind (arith, ints)

pub no_less_by_test : (a b : ℤ) → int_lt a b ≡ false → b ≤ℤ a
no_less_by_test a b h = grind (arith, ints)

-- equal splits have one variable and one number
pub split_same : (v w : ℕ) (a b : ℤ) → same_split v a w b ≡ true → (v ≡ w) × (a ≡ b)
split_same v w a b h = by (v == w) (int_eq a b) refl refl h
  where
    by : (s t : Bool) → (v == w) ≡ s → int_eq a b ≡ t → (s && t) ≡ true → (v ≡ w) × (a ≡ b)
    by true true p q h = (eqb-true v w p, (signed_Decides a b).0 q)
    by true false p q h = absurd (cc)
    by false t p q h = absurd (cc)

pub same_by : (v w : ℕ) (a b : ℤ) → v ≡ w → a ≡ b → same_split v a w b ≡ true
same_by v w a b p q = ap (λ (s : Bool). s && int_eq a b) (eq-eqb v w p) ∙ (signed_Decides a b).1 q

-- the cheaper of two costs is no dearer than either
pub cheaper_first : (x y : Option ℤ) → IsNoDearer (cheaper_cost x y) x
cheaper_first None y = tt
cheaper_first (Some x) None = omega (arith, ints)
cheaper_first (Some x) (Some y) = omega (arith, ints, clamps)

pub cheaper_second : (x y : Option ℤ) → IsNoDearer (cheaper_cost x y) y
cheaper_second x None = tt
cheaper_second None (Some y) = omega (arith, ints)
cheaper_second (Some x) (Some y) = omega (arith, ints, clamps)

pub cheaper_comm : (x y : Option ℤ) → cheaper_cost x y ≡ cheaper_cost y x
cheaper_comm None None = refl
cheaper_comm None (Some y) = refl
cheaper_comm (Some x) None = refl
cheaper_comm (Some x) (Some y) = ap Some (least x y)
  where
    least : (x y : ℤ) → int_min x y ≡ int_min y x
    least x y = omega (arith, ints, clamps)

pub cheaper_assoc : (x y z : Option ℤ) → cheaper_cost (cheaper_cost x y) z ≡ cheaper_cost x (cheaper_cost y z)
cheaper_assoc None y z = refl
cheaper_assoc (Some x) None z = refl
cheaper_assoc (Some x) (Some y) None = refl
cheaper_assoc (Some x) (Some y) (Some z) = ap Some (least x y z)
  where
    least : (x y z : ℤ) → int_min (int_min x y) z ≡ int_min x (int_min y z)
    least x y z = omega (arith, ints, clamps)
