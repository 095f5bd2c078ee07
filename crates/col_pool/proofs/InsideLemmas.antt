-- The test for points inside a zone is right, and which numbers are left.
use Rattle.std.proofs.Common.{◌≡◌, refl, sym, ap, ◌∙◌, ℕ, suc, ◌+◌, Bool, true, false, List, [], ◌∷◌, arith}
use Rattle.std.specs.Prelude.{ℤ, ◌≤ℤ◌, int_le, ◌&&◌, if◌then◌else◌}
use Rattle.std.proofs.lemmas.Int.{ints}
use Rattle.bp_theory.specs.Program.{IsWithin, IsInside}
use Rattle.bp_theory.specs.declared.Span.{Span}
use Rattle.col_pool.specs.declared.column.Column.{Column}
use Rattle.col_pool.specs.Inside.{is_within, is_inside, numbers_inside}

within_true : (s : Span) (v : ℤ) → IsWithin s v → is_within s v ≡ true
within_true s v h = both (int_le s.lo v) (int_le v s.hi) (low s.lo v h.above) (low v s.hi h.below)
  where
    low : (a b : ℤ) → a ≤ℤ b → int_le a b ≡ true
    low a b l = grind (arith, ints)

    both : (p q : Bool) → p ≡ true → q ≡ true → (p && q) ≡ true
    both true q e f = f
    both false q e f = e

within_from : (s : Span) (v : ℤ) → is_within s v ≡ true → IsWithin s v
within_from s v e = record {
  above = low s.lo v (first (int_le s.lo v) (int_le v s.hi) e);
  below = low v s.hi (second (int_le s.lo v) (int_le v s.hi) e);
}
  where
    low : (a b : ℤ) → int_le a b ≡ true → a ≤ℤ b
    low a b l = grind (arith, ints)

    first : (p q : Bool) → (p && q) ≡ true → p ≡ true
    first true q e = refl
    first false q e = e

    second : (p q : Bool) → (p && q) ≡ true → q ≡ true
    second true q e = e
    second false q e = absurd (cc)

-- a point inside a zone passes, and no other
pub inside_true : (zone : List Span) (y : List ℤ) → IsInside zone y → is_inside zone y ≡ true
inside_true [] [] h = refl
inside_true [] (v ∷ vs) h = absurd h
inside_true (s ∷ ss) [] h = absurd h
inside_true (s ∷ ss) (v ∷ vs) h = ap (λ b. b && is_inside ss vs) (within_true s v h.0) ∙ inside_true ss vs h.1

pub inside_from : (zone : List Span) (y : List ℤ) → is_inside zone y ≡ true → IsInside zone y
inside_from [] [] e = tt
inside_from [] (v ∷ vs) e = absurd (cc)
inside_from (s ∷ ss) [] e = absurd (cc)
inside_from (s ∷ ss) (v ∷ vs) e = by (is_within s v) refl e (λ rest. inside_from ss vs rest)
  where
    by : (b : Bool) → is_within s v ≡ b → (b && is_inside ss vs) ≡ true → (is_inside ss vs ≡ true → IsInside ss vs) → IsInside (s ∷ ss) (v ∷ vs)
    by true is rest later = (within_from s v is, later rest)
    by false is rest later = absurd (cc)

pub outside_false : (zone : List Span) (y : List ℤ) → (IsInside zone y → ⊥) → is_inside zone y ≡ false
outside_false zone y h = by (is_inside zone y) refl
  where
    by : (b : Bool) → is_inside zone y ≡ b → b ≡ false
    by true is = absurd (h (inside_from zone y is))
    by false is = refl

-- the first column is inside or it isn't
pub first_inside : (zone : List Span) (c : Column) (cs : List Column) (n : ℕ) → IsInside zone c.point
    → numbers_inside zone (c ∷ cs) n ≡ n ∷ numbers_inside zone cs (n + 1)
first_inside zone c cs n h =
    ap (λ b. if b then n ∷ numbers_inside zone cs (suc n) else numbers_inside zone cs (suc n)) (inside_true zone c.point h)
    ∙ ap (λ m. n ∷ numbers_inside zone cs m) (sym (one n))
  where
    one : (n : ℕ) → n + 1 ≡ suc n
    one n = omega arith

pub first_outside : (zone : List Span) (c : Column) (cs : List Column) (n : ℕ) → (IsInside zone c.point → ⊥)
    → numbers_inside zone (c ∷ cs) n ≡ numbers_inside zone cs (n + 1)
first_outside zone c cs n h =
    ap (λ b. if b then n ∷ numbers_inside zone cs (suc n) else numbers_inside zone cs (suc n)) (outside_false zone c.point h)
    ∙ ap (λ m. numbers_inside zone cs m) (sym (one n))
  where
    one : (n : ℕ) → n + 1 ≡ suc n
    one n = omega arith
