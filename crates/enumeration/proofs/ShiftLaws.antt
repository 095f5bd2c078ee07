-- Laws of running sums that change by a variable's entries.
use Rattle.std.proofs.Common.{◌≡◌, sym, ap, subst, ◌∙◌, ℕ, ◌+◌, ◌*◌, ◌^◌, ◌<◌, ◌≤◌, List, length, get_or, set, take, arith, inl, inr}
use Rattle.std.proofs.Math.IntN.{ℤ, pos, ◌+ℤ◌, ◌-ℤ◌}
use Rattle.std.specs.Prelude.{◌==◌, if◌then◌else◌, ◌⊎◌, unsigned_abs, FitsSigned}
use Rattle.std.specs.Int.{w128}
use Rattle.std.proofs.lemmas.Int.{ints, fits_signed_from_abs}
use Rattle.std.proofs.lemmas.Bool.{cases_eq}
use Rattle.std.proofs.lemmas.List.{get_or_read, get_or-set_same, get_or-set_other}
use Rattle.bp_theory.specs.Sums.{sum_at}
use Rattle.bp_theory.proofs.SumLaws.{sum_of_more}
use Rattle.bp_theory.proofs.KeyLaws.{if_same, if_other}
use Rattle.enumeration.specs.declared.columns.Entry.{Entry}

-- a difference of two small numbers
pub difference_small : (a b : ℤ) → unsigned_abs a < 2 ^ 62 → unsigned_abs b < 2 ^ 62 → unsigned_abs (a -ℤ b) < 2 ^ 63
difference_small a b h k = omega (arith, ints)

pub difference_fits : (a b : ℤ) → unsigned_abs a < 2 ^ 62 → unsigned_abs b < 2 ^ 62 → FitsSigned w128 (a -ℤ b)
difference_fits a b h k = fits_signed_from_abs w128 (a -ℤ b) (omega (arith, difference_small a b h k))

-- the same, of numbers that were passed
pub passed_difference_fits : (new old a b : ℤ) → new ≡ a → old ≡ b → unsigned_abs a < 2 ^ 62 → unsigned_abs b < 2 ^ 62 → FitsSigned w128 (new -ℤ old)
passed_difference_fits new old a b e f h k =
    difference_fits new old (subst (λ z. unsigned_abs z < 2 ^ 62) (sym e) h) (subst (λ z. unsigned_abs z < 2 ^ 62) (sym f) k)

pub difference_is_small : (result new old a b : ℤ) → result ≡ new -ℤ old → new ≡ a → old ≡ b → unsigned_abs a < 2 ^ 62 → unsigned_abs b < 2 ^ 62
    → unsigned_abs result < 2 ^ 63
difference_is_small result new old a b r e f h k =
    subst (λ z. unsigned_abs z < 2 ^ 63) (sym r)
    (difference_small new old (subst (λ z. unsigned_abs z < 2 ^ 62) (sym e) h) (subst (λ z. unsigned_abs z < 2 ^ 62) (sym f) k))

-- a running sum and one change more
pub step_small : (a b : ℤ) (i : ℕ) → unsigned_abs a ≤ 2 ^ 62 + 2 ^ 63 * i → unsigned_abs b < 2 ^ 63 → unsigned_abs (a +ℤ b) ≤ 2 ^ 62 + 2 ^ 63 * (i + 1)
step_small a b i h k = omega (arith, ints)

pub step_fits : (a b : ℤ) (i : ℕ) → i < 2 ^ 59 → unsigned_abs a ≤ 2 ^ 62 + 2 ^ 63 * i → unsigned_abs b < 2 ^ 63 → FitsSigned w128 (a +ℤ b)
step_fits a b i l h k = fits_signed_from_abs w128 (a +ℤ b) (omega (arith, step_small a b i h k))

-- a loop's step: one entry more
pub shift_more : (weight : Entry → ℤ) (before sums : List ℤ) (column : List Entry) (i : ℕ) (d : Entry) (new : ℤ) → i < length column
    → (get_or column i d).row < length sums
    → new ≡ get_or sums (get_or column i d).row (pos 0) +ℤ weight (get_or column i d)
    → ((q : ℕ) → get_or sums q (pos 0) ≡ get_or before q (pos 0) +ℤ sum_at (λ (e : Entry). e.row) weight (take i column) q)
    → (q : ℕ) → get_or (set sums (get_or column i d).row new) q (pos 0)
    ≡ get_or before q (pos 0) +ℤ sum_at (λ (e : Entry). e.row) weight (take (i + 1) column) q
shift_more weight before sums column i d new l there is had q =
    changed (cases_eq (get_or column i d).row q)
    ∙ ap (λ z. z +ℤ (if (get_or column i d).row == q then weight (get_or column i d) else pos 0)) (had q)
    ∙ grouped (get_or before q (pos 0)) (sum_at (λ (e : Entry). e.row) weight (take i column) q) (if (get_or column i d).row == q then weight (get_or column i d) else pos 0)
    ∙ ap (λ z. get_or before q (pos 0) +ℤ z) (sym (sum_of_more (λ (e : Entry). if e.row == q then weight e else pos 0) column i d l))
  where
    grouped : (a b c : ℤ) → (a +ℤ b) +ℤ c ≡ a +ℤ (b +ℤ c)
    grouped a b c = omega (arith, ints)

    stays : (a : ℤ) → a ≡ a +ℤ pos 0
    stays a = omega (arith, ints)

    changed : ((get_or column i d).row ≡ q) ⊎ ((get_or column i d).row ≡ q → ⊥)
        → get_or (set sums (get_or column i d).row new) q (pos 0)
        ≡ get_or sums q (pos 0) +ℤ (if (get_or column i d).row == q then weight (get_or column i d) else pos 0)
    changed (inl same) =
        ap (λ k. get_or (set sums (get_or column i d).row new) k (pos 0)) (sym same)
        ∙ get_or-set_same sums (get_or column i d).row new (pos 0) there
        ∙ is
        ∙ ap (λ k. get_or sums k (pos 0) +ℤ weight (get_or column i d)) same
        ∙ ap (λ z. get_or sums q (pos 0) +ℤ z) (sym (if_same (get_or column i d).row q (weight (get_or column i d)) (pos 0) same))
    changed (inr other) =
        get_or-set_other sums (get_or column i d).row q new (pos 0) (λ e. other (sym e))
        ∙ stays (get_or sums q (pos 0))
        ∙ ap (λ z. get_or sums q (pos 0) +ℤ z) (sym (if_other (get_or column i d).row q (weight (get_or column i d)) (pos 0) other))

-- and its size
pub shift_small_more : (sums : List ℤ) (i row : ℕ) (change new : ℤ)
    → row < length sums → unsigned_abs change < 2 ^ 63
    → new ≡ get_or sums row (pos 0) +ℤ change
    → ((q : ℕ) → unsigned_abs (get_or sums q (pos 0)) ≤ 2 ^ 62 + 2 ^ 63 * i)
    → (q : ℕ) → unsigned_abs (get_or (set sums row new) q (pos 0)) ≤ 2 ^ 62 + 2 ^ 63 * (i + 1)
shift_small_more sums i row change new there small is had q = by (cases_eq row q)
  where
    by : (row ≡ q) ⊎ (row ≡ q → ⊥) → unsigned_abs (get_or (set sums row new) q (pos 0)) ≤ 2 ^ 62 + 2 ^ 63 * (i + 1)
    by (inl same) =
        subst (λ z. unsigned_abs z ≤ 2 ^ 62 + 2 ^ 63 * (i + 1))
        (sym (ap (λ k. get_or (set sums row new) k (pos 0)) (sym same) ∙ get_or-set_same sums row new (pos 0) there ∙ is))
        (step_small (get_or sums row (pos 0)) change i (had row) small)
    by (inr other) =
        subst (λ z. unsigned_abs z ≤ 2 ^ 62 + 2 ^ 63 * (i + 1))
        (sym (get_or-set_other sums row q new (pos 0) (λ e. other (sym e))))
        (omega (arith, had q))

-- what was written, from what was read
pub written_is : (sums : List ℤ) (row : ℕ) (new result read change passed_change weight : ℤ) → row < length sums → new ≡ result → result ≡ read +ℤ passed_change
    → read ≡ get_or sums row read → passed_change ≡ change → change ≡ weight → new ≡ get_or sums row (pos 0) +ℤ weight
written_is sums row new result read change passed_change weight l e f g h k =
    e ∙ f ∙ ap (λ z. read +ℤ z) (h ∙ k) ∙ ap (λ z. z +ℤ weight) (get_or_read sums row read l g (pos 0))
