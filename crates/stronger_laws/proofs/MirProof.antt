-- Mixed-integer rounding cuts are met.
use Rattle.std.proofs.Common.{◌≡◌, refl, sym, ap, subst, ◌∙◌, ℕ, suc, ◌<◌, ◌≤◌, Bool, true, false, not, List, [], ◌∷◌, ◌++◌, map, length, Option, Some, None, arith}
use Rattle.std.proofs.Math.IntN.{ℤ, pos, negsuc, neg_ℤ, ◌+ℤ◌, ◌-ℤ◌, ◌*ℤ◌, *ℤ_comm, zero-*ℤ, *ℤ-zero}
use Rattle.std.proofs.Math.Nat.{mul-le-mul_left}
use Rattle.std.specs.Prelude.{◌≤ℤ◌, ◌<ℤ◌, if◌then◌else◌, unsigned_abs}
use Rattle.std.specs.List.{AllByRecursion, range_with_len}
use Rattle.std.specs.Int.{int_min, int_div_euclid, int_rem_euclid}
use Rattle.std.specs.Ordering.{int_eq}
use Rattle.std.proofs.lemmas.Bool.Decides.{Decides-int_eq}
use Rattle.std.proofs.lemmas.Int.{ints, clamps, by_lt_z}
use Rattle.std.proofs.lemmas.List.Elements.{recursion_from_All}
use Rattle.bp_theory.specs.Sums.{sum_of}
use Rattle.bp_theory.specs.Program.{Program, value_at, activity, span_at, IsWithin, IsInside, Meets, MeetsRow}
use Rattle.bp_theory.specs.Decomposition.{ProofRow, whole_row, link_row, no_row}
use Rattle.bp_theory.specs.Cuts.{row_coefficient, terms_of, term_at}
use Rattle.bp_theory.specs.declared.Term.{Term}
use Rattle.bp_theory.specs.declared.Sense.{Sense}
use Rattle.bp_theory.specs.declared.Sense.TheVariants.{Le, Ge, Eq, In}
use Rattle.bp_theory.proofs.Whole.{mul-add, add-mul, mul-sub, sub-mul, mul_assoc, le-mul_pos}
use Rattle.bp_theory.proofs.SumLaws.{sum_of-same, sum_of-add, sum_of-sub, sum_of-zero, sum_of-map, sum_of-filter, mul-sum_of}
use Rattle.bp_theory.proofs.ZipLaws.{AllZip_at}
use Rattle.bp_theory.proofs.KeyLaws.{sum_of-by_key}
use Rattle.bp_theory.proofs.CutProof.{row_activity}
use Rattle.bp_theory.proofs.DecompositionProof.{below_range, kept_at}
use Rattle.stronger_laws.specs.WideRows.{HasKnownVariables, IsMet}
use Rattle.stronger_laws.specs.Mir.{mir_function, slack_side, put_back, HasOneSide, IsCombinable, named_side, named_put_back, row_of, weighted_coefficient, weighted_side, summed, is_upper, end_of, at_ends, summed_side, full_remainder, lowered_to, remainder_of, rounded_by, rounded_coefficient, slack_weight, mir_coefficient, mir_row, IsLowered, IsFittingMir}
use Rattle.stronger_laws.specs.Laws.{MirShrinks, MirIsMet}
use Rattle.stronger_laws.specs.declared.MirCut.{MirCut}

-- ---- quotient and rest

-- a number is divisor times quotient and the rest
pub euclid : (a : ℤ) (d : ℕ) → 0 < d → a ≡ pos d *ℤ int_div_euclid a (pos d) +ℤ int_rem_euclid a (pos d)
euclid (pos n) d h = omega (arith, ints)
euclid (negsuc n) d h = omega (arith, ints)

pub rest_low : (a : ℤ) (d : ℕ) → 0 < d → pos 0 ≤ℤ int_rem_euclid a (pos d)
rest_low (pos n) d h = omega (arith, ints)
rest_low (negsuc n) d h = omega (arith, ints)

pub rest_high : (a : ℤ) (d : ℕ) → 0 < d → int_rem_euclid a (pos d) <ℤ pos d
rest_high (pos n) d h = omega (arith, ints)
rest_high (negsuc n) d h = omega (arith, ints)

-- ---- sums that are split into a whole part and a rest

-- a sum is at most divisor times a whole number and a rest, and what is gained is remainder times that number and the rest
pub record IsSplit (d r : ℕ) (total gained : ℤ) : Type 0 where
  pub whole : ℤ
  pub rest : ℤ
  pub least : pos 0 ≤ℤ rest
  pub covers : total ≤ℤ (pos d *ℤ whole +ℤ rest)
  pub gives : gained ≡ pos r *ℤ whole +ℤ rest

no_split : (d r : ℕ) → IsSplit d r (pos 0) (pos 0)
no_split d r = record {
  whole = pos 0;
  rest = pos 0;
  least = omega (arith, ints);
  covers = omega (arith, ints, *ℤ-zero (pos d));
  gives = omega (arith, ints, *ℤ-zero (pos r));
}

add_splits : (d r : ℕ) (s t g h : ℤ) → IsSplit d r s g → IsSplit d r t h → IsSplit d r (s +ℤ t) (g +ℤ h)
add_splits d r s t g h a b = record {
  whole = a.whole +ℤ b.whole;
  rest = a.rest +ℤ b.rest;
  least = omega (arith, ints, a.least, b.least);
  covers = omega (arith, ints, a.covers, b.covers, mul-add (pos d) a.whole b.whole);
  gives = omega (arith, ints, a.gives, b.gives, mul-add (pos r) a.whole b.whole);
}

sum_splits : {X : Type 0} (d r : ℕ) (f g : X → ℤ) (xs : List X) → AllByRecursion (λ x. IsSplit d r (f x) (g x)) xs
    → IsSplit d r (sum_of f xs) (sum_of g xs)
sum_splits d r f g [] all = no_split d r
sum_splits d r f g (x ∷ xs) all = add_splits d r (f x) (sum_of f xs) (g x) (sum_of g xs) all.0 (sum_splits d r f g xs all.1)

-- a factor that isn't negative keeps an order
le-mul_nonneg : (a b y : ℤ) → pos 0 ≤ℤ y → a ≤ℤ b → (a *ℤ y) ≤ℤ (b *ℤ y)
le-mul_nonneg a b (pos n) h l = omega (arith, ints, *ℤ_comm a (pos n), *ℤ_comm b (pos n), le-mul_pos n a b l)
le-mul_nonneg a b (negsuc n) h l = absurd (omega (arith, ints))

-- a coefficient times a number that isn't negative
one_split : (d r : ℕ) (a t : ℤ) → 0 < d → pos 0 ≤ℤ t → IsSplit d r (a *ℤ t) (mir_function d r a *ℤ t)
one_split d r a t h l =
    by (int_div_euclid a (pos d)) (int_rem_euclid a (pos d)) (euclid a d h) (rest_low a d h) (rest_high a d h)
  where
    nonneg : (e y : ℤ) → pos 0 ≤ℤ e → pos 0 ≤ℤ y → pos 0 ≤ℤ (e *ℤ y)
    nonneg e y le ly = omega (arith, ints, le-mul_nonneg (pos 0) e y ly le, zero-*ℤ y)

    by : (f e : ℤ) → a ≡ pos d *ℤ f +ℤ e → pos 0 ≤ℤ e → e <ℤ pos d → IsSplit d r (a *ℤ t) ((pos r *ℤ f +ℤ int_min e (pos r)) *ℤ t)
    by f e same low high = by_lt_z e (pos r)
        (λ less. record {
          whole = f *ℤ t;
          rest = e *ℤ t;
          least = nonneg e t low l;
          covers = omega (arith, ints, ap (λ z. z *ℤ t) same, add-mul (pos d *ℤ f) e t, mul_assoc (pos d) f t);
          gives =
              let least : int_min e (pos r) ≡ e = omega (arith, ints, clamps, less) in
              omega (arith, ints, ap (λ z. (pos r *ℤ f +ℤ z) *ℤ t) least, add-mul (pos r *ℤ f) e t, mul_assoc (pos r) f t);
        })
        (λ more. record {
          whole = (f +ℤ pos 1) *ℤ t;
          rest = pos 0;
          least = omega (arith, ints);
          covers =
              let below : a ≤ℤ (pos d *ℤ (f +ℤ pos 1)) = omega (arith, ints, same, high, mul-add (pos d) f (pos 1)) in
              omega (arith, ints, le-mul_nonneg a (pos d *ℤ (f +ℤ pos 1)) t l below, mul_assoc (pos d) (f +ℤ pos 1) t);
          gives =
              let least : int_min e (pos r) ≡ pos r = omega (arith, ints, clamps, more) in
              let one : pos r *ℤ (f +ℤ pos 1) ≡ pos r *ℤ f +ℤ pos r = omega (arith, ints, mul-add (pos r) f (pos 1)) in
              omega (arith, ints, ap (λ z. (pos r *ℤ f +ℤ z) *ℤ t) least, ap (λ z. z *ℤ t) one, mul_assoc (pos r) (f +ℤ pos 1) t);
        })

-- what is gained of a sum is at least the sum's side, rounded
gained_above : (d r : ℕ) (side gained : ℤ) → 0 < d → pos r ≤ℤ int_rem_euclid side (pos d) → IsSplit d r side gained
    → mir_function d r side ≤ℤ gained
gained_above d r side gained h enough split =
    by (int_div_euclid side (pos d)) (int_rem_euclid side (pos d)) (euclid side d h) (rest_high side d h) enough
  where
    step : (k : ℕ) → r ≤ d → (pos r *ℤ pos k) ≤ℤ (pos d *ℤ pos k)
    step k l = omega (arith, ints, mul-le-mul_left k l)

    short : (f w e z : ℤ) → w ≤ℤ f → side ≡ pos d *ℤ f +ℤ e → e <ℤ pos d → pos r ≤ℤ e → side ≤ℤ (pos d *ℤ w +ℤ z)
        → (pos r *ℤ f +ℤ pos r) ≤ℤ (pos r *ℤ w +ℤ z)
    short f w e z below same high low covers = gap (f -ℤ w) refl
      where
        gap : (j : ℤ) → f -ℤ w ≡ j → (pos r *ℤ f +ℤ pos r) ≤ℤ (pos r *ℤ w +ℤ z)
        gap (pos k) is =
            let split_d : pos d *ℤ f ≡ pos d *ℤ w +ℤ pos d *ℤ pos k =
            ap (λ y. pos d *ℤ y) (back f w (pos k) is) ∙ mul-add (pos d) w (pos k) in
            let split_r : pos r *ℤ f ≡ pos r *ℤ w +ℤ pos r *ℤ pos k =
            ap (λ y. pos r *ℤ y) (back f w (pos k) is) ∙ mul-add (pos r) w (pos k) in
            omega (arith, ints, same, low, covers, split_d, split_r, step k (omega (arith, ints, low, high)))
          where
            back : (f w j : ℤ) → f -ℤ w ≡ j → f ≡ w +ℤ j
            back f w j e = omega (arith, ints, e)
        gap (negsuc k) is = absurd (omega (arith, ints, below, is))

    by : (f e : ℤ) → side ≡ pos d *ℤ f +ℤ e → e <ℤ pos d → pos r ≤ℤ e → (pos r *ℤ f +ℤ int_min e (pos r)) ≤ℤ gained
    by f e same high low =
        let least : int_min e (pos r) ≡ pos r = omega (arith, ints, clamps, low) in
        by_lt_z f split.whole
        (λ more.
        omega (
          arith,
          ints,
          least,
          split.gives,
          split.least,
          mul-add (pos r) f (pos 1),
          le-mul_pos r (f +ℤ pos 1) split.whole (omega (arith, ints, more)),
        ))
        (λ less. omega (arith, ints, least, split.gives, short f split.whole e split.rest less same high low split.covers))

-- ---- the rounding function shrinks

pub mir_shrinks_lem : MirShrinks
mir_shrinks_lem d r a l =
    by (int_div_euclid a (pos d)) (int_rem_euclid a (pos d)) (euclid a d (omega (arith, l))) (rest_low a d (omega (arith, l))) (rest_high a d (omega (arith, l)))
  where
    by : (f e : ℤ) → a ≡ pos d *ℤ f +ℤ e → pos 0 ≤ℤ e → e <ℤ pos d → unsigned_abs (pos r *ℤ f +ℤ int_min e (pos r)) ≤ unsigned_abs a
    by (pos n) e same low high = omega (arith, ints, clamps, same, low, high, mul-le-mul_left n l)
    by (negsuc n) e same low high = omega (arith, ints, clamps, same, low, high, mul-le-mul_left n l, mul-le-mul_left (suc n) l)

-- ---- sums over lists

-- a fact about each of two lists
pub join : {X : Type 0} (P : X → Type 0) (xs ys : List X) → AllByRecursion P xs → AllByRecursion P ys → AllByRecursion P (xs ++ ys)
join P [] ys h g = g
join P (x ∷ xs) ys h g = (h.0, join P xs ys h.1 g)

-- terms that agree at each element
pub same_at_each : {X : Type 0} (f g : X → ℤ) (xs : List X) → AllByRecursion (λ x. f x ≡ g x) xs → sum_of f xs ≡ sum_of g xs
same_at_each f g [] h = refl
same_at_each f g (x ∷ xs) h = omega (arith, ints, h.0, same_at_each f g xs h.1)

-- the activity of the terms of given coefficients
pub activity-terms_of : (p : Program) (f : ℕ → ℤ) (x : List ℤ)
    → activity (terms_of p f) x ≡ sum_of (λ v. f v *ℤ value_at x v) (range_with_len 0 (length p.spans))
activity-terms_of p f x =
    let vs : List ℕ = range_with_len 0 (length p.spans) in
    sum_of-filter (λ t. t.coef *ℤ value_at x t.var) (λ t. not (int_eq t.coef (pos 0))) (map (term_at f) vs)
    ∙ sum_of-same (λ (t : Term). if not (int_eq t.coef (pos 0)) then t.coef *ℤ value_at x t.var else pos 0) (λ t. t.coef *ℤ value_at x t.var)
    (λ t. zero_left_out t.coef (value_at x t.var)) (map (term_at f) vs)
    ∙ sum_of-map (λ (t : Term). t.coef *ℤ value_at x t.var) (term_at f) vs
  where
    zero_left_out : (z y : ℤ) → (if not (int_eq z (pos 0)) then z *ℤ y else pos 0) ≡ z *ℤ y
    zero_left_out z y = by (int_eq z (pos 0)) refl
      where
        by : (t : Bool) → int_eq z (pos 0) ≡ t → (if not t then z *ℤ y else pos 0) ≡ z *ℤ y
        by true e = sym (ap (λ w. w *ℤ y) ((Decides-int_eq z (pos 0)).0 e) ∙ zero-*ℤ y)
        by false e = refl

-- a sum of nothing
no_sum : (x : List ℤ) (vs : List ℕ) → pos 0 ≡ sum_of (λ v. pos 0 *ℤ value_at x v) vs
no_sum x vs = sym (sum_of-same (λ v. pos 0 *ℤ value_at x v) (λ v. pos 0) (λ v. zero-*ℤ (value_at x v)) vs ∙ sum_of-zero vs)

-- the activity of a row, variable by variable
activity_by_variable : (p : Program) (x : List ℤ) (row : ProofRow) → HasKnownVariables p row
    → row_activity x row ≡ sum_of (λ v. row_coefficient row v *ℤ value_at x v) (range_with_len 0 (length p.spans))
activity_by_variable p x (whole_row row) known =
    sum_of-by_key (λ t. t.var) (λ t. t.coef) (value_at x) (length p.spans) row.terms (recursion_from_All (λ t. t.var < length p.spans) row.terms known)
activity_by_variable p x (link_row w k) known = no_sum x (range_with_len 0 (length p.spans))
activity_by_variable p x no_row known = no_sum x (range_with_len 0 (length p.spans))

-- the activity of weighted rows, variable by variable
weighted_activity : (p : Program) (x : List ℤ) (rows : List ProofRow) → AllByRecursion (HasKnownVariables p) rows
    → (w : ℕ × ℤ → ℤ) (ms : List (ℕ × ℤ))
    → sum_of (λ m. w m *ℤ row_activity x (row_of rows m)) ms
    ≡ sum_of (λ v. weighted_coefficient rows w ms v *ℤ value_at x v) (range_with_len 0 (length p.spans))
weighted_activity p x rows known w [] = no_sum x (range_with_len 0 (length p.spans))
weighted_activity p x rows known w (m ∷ ms) =
    let vs : List ℕ = range_with_len 0 (length p.spans) in
    let row : ProofRow = row_of rows m in
    let rest : ℕ → ℤ = weighted_coefficient rows w ms in
    omega (
      arith,
      ints,
      weighted_activity p x rows known w ms,
      ap (λ z. w m *ℤ z) (activity_by_variable p x row (kept_at (HasKnownVariables p) rows no_row known tt m.0)),
      mul-sum_of (w m) (λ v. row_coefficient row v *ℤ value_at x v) vs,
      sum_of-same (λ v. w m *ℤ (row_coefficient row v *ℤ value_at x v)) (λ v. (w m *ℤ row_coefficient row v) *ℤ value_at x v)
          (λ v. mul_assoc (w m) (row_coefficient row v) (value_at x v)) vs,
      sum_of-same (λ v. (w m *ℤ row_coefficient row v +ℤ rest v) *ℤ value_at x v)
          (λ v. (w m *ℤ row_coefficient row v) *ℤ value_at x v +ℤ rest v *ℤ value_at x v)
          (λ v. add-mul (w m *ℤ row_coefficient row v) (rest v) (value_at x v)) vs,
      sum_of-add (λ v. (w m *ℤ row_coefficient row v) *ℤ value_at x v) (λ v. rest v *ℤ value_at x v) vs,
    )

-- ---- variables measured from their ends

moved_split : (d r : ℕ) (s t g h : ℤ) → s ≡ t → g ≡ h → IsSplit d r s g → IsSplit d r t h
moved_split d r s t g h e f a = record {
  whole = a.whole;
  rest = a.rest;
  least = a.least;
  covers = subst (λ z. z ≤ℤ (pos d *ℤ a.whole +ℤ a.rest)) e a.covers;
  gives = sym f ∙ a.gives;
}

-- a negative factor
neg-mul : (a z : ℤ) → neg_ℤ a *ℤ z ≡ neg_ℤ (a *ℤ z)
neg-mul a z =
    let e : neg_ℤ a ≡ pos 0 -ℤ a = omega (arith, ints) in
    omega (arith, ints, ap (λ w. w *ℤ z) e, sub-mul (pos 0) a z, zero-*ℤ z)

-- a negative factor of a difference turns it round
flip : (a h y : ℤ) → neg_ℤ a *ℤ (h -ℤ y) ≡ a *ℤ y -ℤ a *ℤ h
flip a h y = omega (arith, ints, neg-mul a (h -ℤ y), mul-sub a h y)

unflip : (g h y : ℤ) → g *ℤ (h -ℤ y) ≡ neg_ℤ g *ℤ y -ℤ neg_ℤ g *ℤ h
unflip g h y = omega (arith, ints, mul-sub g h y, neg-mul g y, neg-mul g h)

-- one variable, from either end
variable_split : (d r : ℕ) (upper : Bool) (lo hi y a : ℤ) → 0 < d → lo ≤ℤ y → y ≤ℤ hi
    → IsSplit d r (a *ℤ y -ℤ a *ℤ (if upper then hi else lo))
    (rounded_by d r upper a *ℤ y -ℤ rounded_by d r upper a *ℤ (if upper then hi else lo))
variable_split d r true lo hi y a h low high =
    moved_split d r (neg_ℤ a *ℤ (hi -ℤ y)) (a *ℤ y -ℤ a *ℤ hi) (mir_function d r (neg_ℤ a) *ℤ (hi -ℤ y))
    (neg_ℤ (mir_function d r (neg_ℤ a)) *ℤ y -ℤ neg_ℤ (mir_function d r (neg_ℤ a)) *ℤ hi)
    (flip a hi y) (unflip (mir_function d r (neg_ℤ a)) hi y)
    (one_split d r (neg_ℤ a) (hi -ℤ y) h (omega (arith, ints, high)))
variable_split d r false lo hi y a h low high =
    moved_split d r (a *ℤ (y -ℤ lo)) (a *ℤ y -ℤ a *ℤ lo) (mir_function d r a *ℤ (y -ℤ lo))
    (mir_function d r a *ℤ y -ℤ mir_function d r a *ℤ lo)
    (mul-sub a y lo) (mul-sub (mir_function d r a) y lo)
    (one_split d r a (y -ℤ lo) h (omega (arith, ints, low)))

-- what a variable takes of a sum, and what it gives
abbrev taken : Program → MirCut → List ℤ → (ℕ → ℤ) → ℕ → ℤ
taken p cut x f v = f v *ℤ value_at x v -ℤ f v *ℤ end_of p cut v

variable_splits : (p : Program) (cut : MirCut) (x : List ℤ) (d r : ℕ) (f : ℕ → ℤ) → 0 < d → IsInside p.spans x → (vs : List ℕ)
    → AllByRecursion (λ v. v < length p.spans) vs
    → AllByRecursion (λ v. IsSplit d r (taken p cut x f v) (taken p cut x (λ u. rounded_by d r (is_upper cut u) (f u)) v)) vs
variable_splits p cut x d r f h inside [] below = tt
variable_splits p cut x d r f h inside (v ∷ vs) below =
    let within = AllZip_at IsWithin p.spans x inside v (record { lo = pos 0; hi = pos 0 }) (pos 0) below.0 in (
      variable_split d r (is_upper cut v) (span_at p.spans v).lo (span_at p.spans v).hi (value_at x v) (f v) h within.above within.below,
      variable_splits p cut x d r f h inside vs below.1,
    )

-- ---- slacks

-- a slack below an upper side, and one above a lower side
from_upper : (d r : ℕ) (rhs u a : ℤ) → 0 < d → a ≤ℤ rhs
    → IsSplit d r (u *ℤ rhs -ℤ u *ℤ a) (neg_ℤ (mir_function d r u) *ℤ a -ℤ neg_ℤ (mir_function d r u) *ℤ rhs)
from_upper d r rhs u a h l =
    moved_split d r (u *ℤ (rhs -ℤ a)) (u *ℤ rhs -ℤ u *ℤ a) (mir_function d r u *ℤ (rhs -ℤ a))
    (neg_ℤ (mir_function d r u) *ℤ a -ℤ neg_ℤ (mir_function d r u) *ℤ rhs)
    (mul-sub u rhs a) (unflip (mir_function d r u) rhs a) (one_split d r u (rhs -ℤ a) h (omega (arith, ints, l)))

from_lower : (d r : ℕ) (low u a : ℤ) → 0 < d → low ≤ℤ a
    → IsSplit d r (u *ℤ low -ℤ u *ℤ a) (mir_function d r (neg_ℤ u) *ℤ a -ℤ mir_function d r (neg_ℤ u) *ℤ low)
from_lower d r low u a h l =
    moved_split d r (neg_ℤ u *ℤ (a -ℤ low)) (u *ℤ low -ℤ u *ℤ a) (mir_function d r (neg_ℤ u) *ℤ (a -ℤ low))
    (mir_function d r (neg_ℤ u) *ℤ a -ℤ mir_function d r (neg_ℤ u) *ℤ low)
    (flip u a low) (mul-sub (mir_function d r (neg_ℤ u)) a low) (one_split d r (neg_ℤ u) (a -ℤ low) h (omega (arith, ints, l)))

-- the slack of a row that is met
slack_split : (d r : ℕ) (s : Sense) (low rhs u a : ℤ) → 0 < d → HasOneSide s low rhs → Meets s low rhs a
    → IsSplit d r (u *ℤ slack_side s low rhs u -ℤ u *ℤ a) (put_back d r s u *ℤ a -ℤ put_back d r s u *ℤ slack_side s low rhs u)
slack_split d r Le low rhs u a h one met = from_upper d r rhs u a h met
slack_split d r Ge low rhs u a h one met = from_lower d r low u a h met
slack_split d r Eq low rhs u a h one met =
    let same : a ≡ low = omega (arith, ints, one, met.0, met.1) in
    moved_split d r (pos 0) (u *ℤ low -ℤ u *ℤ a) (pos 0) (pos 0 *ℤ a -ℤ pos 0 *ℤ low)
    (omega (arith, ints, ap (λ z. u *ℤ z) same)) (omega (arith, ints, zero-*ℤ a, zero-*ℤ low)) (no_split d r)
slack_split d r In low rhs (pos n) a h one met = from_lower d r low (pos n) a h met.0
slack_split d r In low rhs (negsuc n) a h one met = from_upper d r rhs (negsuc n) a h met.1

row_split : (d r : ℕ) (x : List ℤ) (row : ProofRow) (u : ℤ) → 0 < d → IsCombinable row → IsMet x row
    → IsSplit d r (u *ℤ named_side row u -ℤ u *ℤ row_activity x row)
    (named_put_back d r row u *ℤ row_activity x row -ℤ named_put_back d r row u *ℤ named_side row u)
row_split d r x (whole_row row) u h one met = slack_split d r row.sense row.low row.rhs u (activity row.terms x) h one met
row_split d r x (link_row w k) u h one met = absurd one
row_split d r x no_row u h one met = absurd one

row_splits : (d r : ℕ) (x : List ℤ) (rows : List ProofRow) → 0 < d → AllByRecursion (IsMet x) rows → (ms : List (ℕ × ℤ))
    → AllByRecursion (λ m. IsCombinable (row_of rows m)) ms
    → AllByRecursion (λ m. IsSplit d r (m.1 *ℤ named_side (row_of rows m) m.1 -ℤ m.1 *ℤ row_activity x (row_of rows m))
    (named_put_back d r (row_of rows m) m.1 *ℤ row_activity x (row_of rows m)
    -ℤ named_put_back d r (row_of rows m) m.1 *ℤ named_side (row_of rows m) m.1)) ms
row_splits d r x rows h met [] one = tt
row_splits d r x rows h met (m ∷ ms) one = (
  row_split d r x (row_of rows m) m.1 h one.0 (kept_at (IsMet x) rows no_row met tt m.0),
  row_splits d r x rows h met ms one.1,
)

-- ---- the cut's row

-- a remainder that isn't above the full one
pub below_full : (o : Option ℕ) (full : ℕ) → IsLowered o full → lowered_to o full ≤ full
below_full None full h = omega arith
below_full (Some r) full h = omega (arith, h)

enough_left : (p : Program) (rows : List ProofRow) (cut : MirCut) → IsFittingMir p rows cut
    → pos (remainder_of p rows cut) ≤ℤ int_rem_euclid (summed_side p rows cut) (pos cut.divisor)
enough_left p rows cut fits =
    by (remainder_of p rows cut) (int_rem_euclid (summed_side p rows cut) (pos cut.divisor))
    (rest_low (summed_side p rows cut) cut.divisor (omega (arith, fits.divides)))
    (below_full cut.lowered (full_remainder p rows cut) fits.lowered)
  where
    by : (r : ℕ) (e : ℤ) → pos 0 ≤ℤ e → r ≤ unsigned_abs e → pos r ≤ℤ e
    by r e low l = omega (arith, ints, low, l)

-- what is gained of all variables and slacks
all_gained : (p : Program) (rows : List ProofRow) (cut : MirCut) (x : List ℤ) → AllByRecursion (HasKnownVariables p) rows
    → AllByRecursion (IsMet x) rows → IsFittingMir p rows cut → IsInside p.spans x
    → mir_function cut.divisor (remainder_of p rows cut) (summed_side p rows cut)
    ≤ℤ ((sum_of (λ v. rounded_coefficient p rows cut v *ℤ value_at x v) (range_with_len 0 (length p.spans)) -ℤ at_ends p cut (rounded_coefficient p rows cut))
    +ℤ (sum_of (λ m. slack_weight p rows cut m *ℤ row_activity x (row_of rows m)) cut.rows -ℤ weighted_side rows (slack_weight p rows cut) cut.rows))
all_gained p rows cut x known met fits inside =
    let d : ℕ = cut.divisor in
    let r : ℕ = remainder_of p rows cut in
    let h : 0 < d = omega (arith, fits.divides) in
    let vs : List ℕ = range_with_len 0 (length p.spans) in
    let a : ℕ → ℤ = summed rows cut in
    let g : ℕ → ℤ = rounded_coefficient p rows cut in
    let side : ℕ × ℤ → ℤ = λ m. named_side (row_of rows m) m.1 in
    let act : ℕ × ℤ → ℤ = λ m. row_activity x (row_of rows m) in
    let k : ℕ × ℤ → ℤ = slack_weight p rows cut in
    let variables : IsSplit d r (sum_of (taken p cut x a) vs) (sum_of (taken p cut x g) vs) =
    sum_splits d r (taken p cut x a) (taken p cut x g) vs
    (variable_splits p cut x d r a h inside vs (below_range (length p.spans) 0 (length p.spans) (omega arith))) in
    let slacks : IsSplit d r (sum_of (λ m. m.1 *ℤ side m -ℤ m.1 *ℤ act m) cut.rows) (sum_of (λ m. k m *ℤ act m -ℤ k m *ℤ side m) cut.rows) =
    sum_splits d r (λ m. m.1 *ℤ side m -ℤ m.1 *ℤ act m) (λ m. k m *ℤ act m -ℤ k m *ℤ side m) cut.rows
    (row_splits d r x rows h met cut.rows (recursion_from_All (λ m. IsCombinable (row_of rows m)) cut.rows fits.combines)) in
    gained_above d r (summed_side p rows cut)
    ((sum_of (λ v. g v *ℤ value_at x v) vs -ℤ at_ends p cut g) +ℤ (sum_of (λ m. k m *ℤ act m) cut.rows -ℤ weighted_side rows k cut.rows))
    h (enough_left p rows cut fits)
    (moved_split d r (sum_of (taken p cut x a) vs +ℤ sum_of (λ m. m.1 *ℤ side m -ℤ m.1 *ℤ act m) cut.rows) (summed_side p rows cut)
    (sum_of (taken p cut x g) vs +ℤ sum_of (λ m. k m *ℤ act m -ℤ k m *ℤ side m) cut.rows)
    ((sum_of (λ v. g v *ℤ value_at x v) vs -ℤ at_ends p cut g) +ℤ (sum_of (λ m. k m *ℤ act m) cut.rows -ℤ weighted_side rows k cut.rows))
    (summed_to (sum_of (taken p cut x a) vs) (sum_of (λ m. m.1 *ℤ side m -ℤ m.1 *ℤ act m) cut.rows) (sum_of (λ v. a v *ℤ value_at x v) vs)
    (at_ends p cut a) (weighted_side rows (λ m. m.1) cut.rows) (sum_of (λ m. m.1 *ℤ act m) cut.rows)
    (sum_of-sub (λ v. a v *ℤ value_at x v) (λ v. a v *ℤ end_of p cut v) vs)
    (sum_of-sub (λ m. m.1 *ℤ side m) (λ m. m.1 *ℤ act m) cut.rows)
    (weighted_activity p x rows known (λ m. m.1) cut.rows))
    (both_same (sum_of (taken p cut x g) vs) (sum_of (λ m. k m *ℤ act m -ℤ k m *ℤ side m) cut.rows)
    (sum_of (λ v. g v *ℤ value_at x v) vs -ℤ at_ends p cut g) (sum_of (λ m. k m *ℤ act m) cut.rows -ℤ weighted_side rows k cut.rows)
    (sum_of-sub (λ v. g v *ℤ value_at x v) (λ v. g v *ℤ end_of p cut v) vs)
    (sum_of-sub (λ m. k m *ℤ act m) (λ m. k m *ℤ side m) cut.rows))
    (add_splits d r (sum_of (taken p cut x a) vs) (sum_of (λ m. m.1 *ℤ side m -ℤ m.1 *ℤ act m) cut.rows)
    (sum_of (taken p cut x g) vs) (sum_of (λ m. k m *ℤ act m -ℤ k m *ℤ side m) cut.rows) variables slacks))
  where
    summed_to : (s t ax ends side act : ℤ) → s ≡ ax -ℤ ends → t ≡ side -ℤ act → act ≡ ax → s +ℤ t ≡ side -ℤ ends
    summed_to s t ax ends side act e f g = omega (arith, ints, e, f, g)

    both_same : (s t u w : ℤ) → s ≡ u → t ≡ w → s +ℤ t ≡ u +ℤ w
    both_same s t u w e f = omega (arith, ints, e, f)

pub mir_row_met : (p : Program) (rows : List ProofRow) (cut : MirCut) (x : List ℤ) → AllByRecursion (HasKnownVariables p) rows
    → AllByRecursion (IsMet x) rows → IsFittingMir p rows cut → IsInside p.spans x → MeetsRow x (mir_row p rows cut)
mir_row_met p rows cut x known met fits inside =
    let vs : List ℕ = range_with_len 0 (length p.spans) in
    let g : ℕ → ℤ = rounded_coefficient p rows cut in
    let k : ℕ × ℤ → ℤ = slack_weight p rows cut in
    let c : ℕ → ℤ = weighted_coefficient rows k cut.rows in
    conclude (mir_function cut.divisor (remainder_of p rows cut) (summed_side p rows cut)) (at_ends p cut g) (weighted_side rows k cut.rows)
    (sum_of (λ v. g v *ℤ value_at x v) vs) (sum_of (λ v. c v *ℤ value_at x v) vs) (sum_of (λ m. k m *ℤ row_activity x (row_of rows m)) cut.rows)
    (activity (terms_of p (mir_coefficient p rows cut)) x)
    (all_gained p rows cut x known met fits inside)
    (weighted_activity p x rows known k cut.rows)
    (activity-terms_of p (mir_coefficient p rows cut) x
    ∙ sum_of-same (λ v. (g v +ℤ c v) *ℤ value_at x v) (λ v. g v *ℤ value_at x v +ℤ c v *ℤ value_at x v) (λ v. add-mul (g v) (c v) (value_at x v)) vs
    ∙ sum_of-add (λ v. g v *ℤ value_at x v) (λ v. c v *ℤ value_at x v) vs)
  where
    conclude : (side ends puts gx cx kx all : ℤ) → side ≤ℤ ((gx -ℤ ends) +ℤ (kx -ℤ puts)) → kx ≡ cx → all ≡ gx +ℤ cx
        → ((side +ℤ ends) +ℤ puts) ≤ℤ all
    conclude side ends puts gx cx kx all l e f = omega (arith, ints, l, e, f)

pub mir_is_met_lem : MirIsMet
mir_is_met_lem p rows cut x known met fits inside =
    mir_row_met p rows cut x (recursion_from_All (HasKnownVariables p) rows known) (recursion_from_All (IsMet x) rows met) fits inside
