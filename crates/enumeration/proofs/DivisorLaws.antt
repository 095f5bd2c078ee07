-- Laws of common divisors of coefficients, and of their multiples.
use Rattle.std.proofs.Common.{◌≡◌, refl, sym, ap, ◌∙◌, subst, ℕ, zero, suc, ◌*◌, ◌/◌, ◌+◌, ◌<◌, ◌≤◌, Bool, true, false, not, List, [], ◌∷◌, get_or, length, arith, ⊎_elim}
use Rattle.std.proofs.Math.IntN.{ℤ, pos, negsuc, ◌+ℤ◌, ◌-ℤ◌, ◌*ℤ◌}
use Rattle.std.specs.Int.{◌∣◌, IsGcd, int_rem_euclid}
use Rattle.std.specs.Prelude.{◌≤ℤ◌, ◌<ℤ◌, ◌⊎◌, ◌↔◌, unsigned_abs, IsTrue}
use Rattle.std.proofs.Math.Nat.{div-add-mod, mod-lt, mul-suc}
use Rattle.std.proofs.lemmas.Nat.Gcd.{dvd_trans, mod-eq-zero_of_dvd}
use Rattle.std.proofs.lemmas.Int.{ints, by_lt_z}
use Rattle.std.proofs.lemmas.Bool.{cases_lt}
use Rattle.std.proofs.lemmas.List.{get_or_default}
use Rattle.std.proofs.lemmas.List.Elements.{All-head, All-tail, All-weaker}
use Rattle.bp_theory.specs.Program.{activity, value_at, Meets, MeetsRow}
use Rattle.bp_theory.specs.declared.Span.{Span}
use Rattle.bp_theory.specs.declared.Term.{Term}
use Rattle.bp_theory.specs.declared.Sense.{Sense}
use Rattle.bp_theory.specs.declared.Sense.TheVariants.{Le, Ge, Eq, In}
use Rattle.bp_theory.specs.declared.Row.{Row}
use Rattle.bp_theory.proofs.Whole.{mul-add, mul_assoc, le-mul_pos}
use Rattle.pricing_problem.specs.Priced.{HasNoPoint}
use Rattle.enumeration.specs.Divisors.{IsCommonDivisor, IsGreatestDivisor, HasMultiple, AllowsMultiples, RowAllowsMultiples, LackMultiples}

-- a divisor times the quotient
pub quotient_is : (d n : ℕ) → d ∣ n → n ≡ d * (n / d)
quotient_is d n h = omega (arith, div-add-mod n d, mod-eq-zero_of_dvd d h)

-- a whole number that a number divides is a multiple of it
pub divided : (d : ℕ) (z : ℤ) → d ∣ unsigned_abs z → (k : ℤ) × (z ≡ pos d *ℤ k)
divided d (pos n) h = (pos (n / d), omega (arith, ints, quotient_is d n h))
divided d (negsuc n) h = by (suc n / d) (quotient_is d (suc n) h)
  where
    by : (q : ℕ) → suc n ≡ d * q → (k : ℤ) × (negsuc n ≡ pos d *ℤ k)
    by zero e = absurd (omega (arith, e))
    by (suc m) e = (negsuc m, omega (arith, ints, e))

-- a number that divides each coefficient divides the terms' sum at each point
pub activity_divided : (d : ℕ) (terms : List Term) (y : List ℤ) → IsCommonDivisor d terms → (k : ℤ) × (activity terms y ≡ pos d *ℤ k)
activity_divided d [] y h = (pos 0, omega (arith, ints))
activity_divided d (t ∷ ts) y h =
    let a : (k : ℤ) × (t.coef ≡ pos d *ℤ k) = divided d t.coef (All-head (λ (s : Term). d ∣ unsigned_abs s.coef) t ts h) in
    let b : (k : ℤ) × (activity ts y ≡ pos d *ℤ k) = activity_divided d ts y (All-tail (λ (s : Term). d ∣ unsigned_abs s.coef) t ts h) in (
      a.0 *ℤ value_at y t.var +ℤ b.0,
      ap (λ z. z *ℤ value_at y t.var +ℤ activity ts y) a.1
          ∙ ap (λ z. (pos d *ℤ a.0) *ℤ value_at y t.var +ℤ z) b.1
          ∙ ap (λ z. z +ℤ pos d *ℤ b.0) (sym (mul_assoc (pos d) a.0 (value_at y t.var)))
          ∙ sym (mul-add (pos d) (a.0 *ℤ value_at y t.var) b.0),
    )

-- a row that a point meets allows multiples
pub met_allows : (y : List ℤ) (row : Row) → MeetsRow y row → RowAllowsMultiples row
met_allows y row meets = by row.sense row.low row.rhs meets
  where
    some : (low rhs : ℤ) → low ≤ℤ activity row.terms y → activity row.terms y ≤ℤ rhs → (d : ℕ) → IsCommonDivisor d row.terms → HasMultiple d low rhs
    some low rhs l h d common =
        let m : (k : ℤ) × (activity row.terms y ≡ pos d *ℤ k) = activity_divided d row.terms y common in
        record { factor = m.0; above = subst (λ z. low ≤ℤ z) m.1 l; below = subst (λ z. z ≤ℤ rhs) m.1 h }

    by : (s : Sense) (low rhs : ℤ) → Meets s low rhs (activity row.terms y) → AllowsMultiples s row.terms low rhs
    by Le low rhs m = tt
    by Ge low rhs m = tt
    by Eq low rhs m = some low rhs m.0 m.1
    by In low rhs m = some low rhs m.0 m.1

-- the first multiple at most a side is at least another side where any multiple lies between
pub multiple_reaches : (g : ℕ) (low rhs m k : ℤ) → m ≡ pos g *ℤ k → rhs <ℤ (m +ℤ pos g) → HasMultiple g low rhs → low ≤ℤ m
multiple_reaches g low rhs m k is close h = by_lt_z k h.factor
    (λ later. absurd (past (pos g *ℤ (k +ℤ pos 1)) (pos g *ℤ h.factor) (le-mul_pos g (k +ℤ pos 1) h.factor (next k h.factor later)) (next_product k is) h.below))
    (λ early. omega (arith, ints, h.above, le-mul_pos g h.factor k early, is))
  where
    next : (a b : ℤ) → a <ℤ b → (a +ℤ pos 1) ≤ℤ b
    next a b l = omega (arith, ints, l)

    next_product : (k : ℤ) → m ≡ pos g *ℤ k → pos g *ℤ (k +ℤ pos 1) ≡ m +ℤ pos g
    next_product k e = mul-add (pos g) k (pos 1) ∙ omega (arith, ints, e)

    past : (a b : ℤ) → a ≤ℤ b → a ≡ m +ℤ pos g → b ≤ℤ rhs → ⊥
    past a b l e below = omega (arith, ints, l, e, close, below)

-- a divisor of a number has a multiple wherever that number has one
pub multiple_of_divisor : (d g : ℕ) (low rhs : ℤ) → d ∣ g → HasMultiple g low rhs → HasMultiple d low rhs
multiple_of_divisor d g low rhs div h = record {
  factor = pos (g / d) *ℤ h.factor;
  above = subst (λ z. low ≤ℤ z) same h.above;
  below = subst (λ z. z ≤ℤ rhs) same h.below;
}
  where
    split : pos g ≡ pos d *ℤ pos (g / d)
    split = omega (arith, ints, quotient_is d g div)

    same : pos g *ℤ h.factor ≡ pos d *ℤ (pos (g / d) *ℤ h.factor)
    same = ap (λ z. z *ℤ h.factor) split ∙ sym (mul_assoc (pos d) (pos (g / d)) h.factor)

-- a test of the greatest common divisor tells of each
pub greatest_tells : (terms : List Term) (g : ℕ) (low rhs : ℤ) (b : Bool) → IsGreatestDivisor terms g → (IsTrue b ↔ HasMultiple g low rhs)
    → IsTrue b ↔ ((d : ℕ) → IsCommonDivisor d terms → HasMultiple d low rhs)
greatest_tells terms g low rhs b is tells = (
  λ yes' d common. multiple_of_divisor d g low rhs (is.greatest d common) (tells.0 yes'),
  λ all'. tells.1 (all' g is.common),
)

-- the test of 0 tells of the multiples of 0
pub zero_tells : (d : ℕ) (low rhs : ℤ) (b : Bool) → d ≡ 0 → (IsTrue b ↔ ((low ≤ℤ pos 0) × (pos 0 ≤ℤ rhs))) → IsTrue b ↔ HasMultiple d low rhs
zero_tells d low rhs b none tells = (
  λ yes'. record {
    factor = pos 0;
    above = subst (λ z. low ≤ℤ z) (sym (product (pos 0))) (tells.0 yes').0;
    below = subst (λ z. z ≤ℤ rhs) (sym (product (pos 0))) (tells.0 yes').1;
  },
  λ h. tells.1 (subst (λ z. low ≤ℤ z) (product h.factor) h.above, subst (λ z. z ≤ℤ rhs) (product h.factor) h.below),
)
  where
    nothing : (k : ℤ) → pos 0 *ℤ k ≡ pos 0
    nothing k = omega (arith, ints)

    product : (k : ℤ) → pos d *ℤ k ≡ pos 0
    product k = ap (λ n. pos n *ℤ k) none ∙ nothing k

-- the test of the greatest multiple that is at most a side tells of each
pub multiple_tells : (g : ℕ) (low rhs m v : ℤ) (b : Bool) → ((k : ℤ) × (m ≡ pos g *ℤ k)) → m ≤ℤ rhs → rhs <ℤ (m +ℤ pos g) → v ≡ m → (IsTrue b ↔ (low ≤ℤ v))
    → IsTrue b ↔ HasMultiple g low rhs
multiple_tells g low rhs m v b k below close same tells = (
  λ yes'. record {
    factor = k.0;
    above = subst (λ z. low ≤ℤ z) (same ∙ k.1) (tells.0 yes');
    below = subst (λ z. z ≤ℤ rhs) k.1 below;
  },
  λ h. tells.1 (subst (λ z. low ≤ℤ z) (sym same) (multiple_reaches g low rhs m k.0 k.1 close h)),
)

-- what a remainder leaves is a multiple
pub remainder_leaves : (z : ℤ) (n : ℕ) → 0 < n → (k : ℤ) × (z -ℤ int_rem_euclid z (pos n) ≡ pos n *ℤ k)
remainder_leaves (pos a) n some = (pos (a / n), omega (arith, ints, div-add-mod a n))
remainder_leaves (negsuc a) n some = (negsuc (a / n), omega (arith, ints, div-add-mod a n, mod-lt a some, mul-suc n (a / n)))

pub multiple_left : (z w v r d : ℤ) (n : ℕ) → 0 < n → w ≡ z → v ≡ z → d ≡ pos n → r ≡ int_rem_euclid v d → (k : ℤ) × (w -ℤ r ≡ pos n *ℤ k)
multiple_left z w v r d n some is is' divisor rest =
    let m : (k : ℤ) × (z -ℤ int_rem_euclid z (pos n) ≡ pos n *ℤ k) = remainder_leaves z n some in
    let e : r ≡ int_rem_euclid z (pos n) = rest ∙ ap (int_rem_euclid v) divisor ∙ ap (λ u. int_rem_euclid u (pos n)) is' in
    (m.0, ap (λ u. u -ℤ r) is ∙ ap (λ u. z -ℤ u) e ∙ m.1)

-- a row of two sides allows multiples where each common divisor has one between them
pub two_sides_tell : (row : Row) (b : Bool) → (row.sense ≡ Eq) ⊎ (row.sense ≡ In)
    → (IsTrue b ↔ ((d : ℕ) → IsCommonDivisor d row.terms → HasMultiple d row.low row.rhs)) → IsTrue b ↔ RowAllowsMultiples row
two_sides_tell row b two tells = ⊎_elim
    (λ is. subst (λ s. IsTrue b ↔ AllowsMultiples s row.terms row.low row.rhs) (sym is) tells)
    (λ is. subst (λ s. IsTrue b ↔ AllowsMultiples s row.terms row.low row.rhs) (sym is) tells)
    two

-- a number divides the first so many coefficients
abbrev pub DividesFirst : ℕ → List Term → ℕ → Type 0
DividesFirst e terms i = (k : ℕ) (d : Term) → k < i → e ∣ unsigned_abs (get_or terms k d).coef

-- the greatest common divisor of the first so many coefficients
abbrev pub IsDivisorOfFirst : List Term → ℕ → ℕ → Type 0
IsDivisorOfFirst terms i g = DividesFirst g terms i × ((e : ℕ) → DividesFirst e terms i → e ∣ g)

-- with one more coefficient
pub divisor_more : (terms : List Term) (i g h : ℕ) → i < length terms
    → IsGcd g (unsigned_abs (get_or terms i (record { var = 0; coef = pos 0 })).coef) h
    → IsDivisorOfFirst terms i g → IsDivisorOfFirst terms (i + 1) h
divisor_more terms i g h l is before = (
  λ k d m. ⊎_elim
      (λ less. dvd_trans h is.0 (before.0 k d less))
      (λ more. subst (λ n. h ∣ unsigned_abs (get_or terms n d).coef) (last k m more)
      (subst (λ (t : Term). h ∣ unsigned_abs t.coef) (get_or_default terms i (record { var = 0; coef = pos 0 }) d l) is.1))
      (cases_lt k i),
  λ e all'. is.2 e (before.1 e (λ k d m. all' k d (omega (arith, m)))) (all' i (record { var = 0; coef = pos 0 }) (omega arith)),
)
  where
    last : (k : ℕ) → k < i + 1 → i ≤ k → i ≡ k
    last k m n = omega (arith, m, n)

-- rows that lack multiples have no point in a zone
pub unallowed : (rows : List Row) (zone : List Span) → LackMultiples rows → HasNoPoint rows zone
unallowed rows zone none y point = none (All-weaker (MeetsRow y) RowAllowsMultiples (met_allows y) rows point.meets)

-- what a test tells, its negation denies
pub denied : (b : Bool) (A : Type 0) → (IsTrue b ↔ A) → IsTrue (not b) ↔ (A → ⊥)
denied true A tells = (λ no. absurd (apart no), λ no. absurd (no (tells.0 refl)))
  where
    apart : IsTrue false → ⊥
    apart e = cc
denied false A tells = (λ yes' a. apart (tells.1 a), λ no. refl)
  where
    apart : IsTrue false → ⊥
    apart e = cc
