-- Totals of weights by class, and when they are whole.
use Rattle.std.proofs.Common.{◌≡◌, sym, ap, subst, ◌∙◌, ℕ, suc, ◌+◌, ◌*◌, ◌<◌, ◌≤◌, ◌^◌, Bool, true, false, List, [], ◌∷◌, length, take, get_or, set, arith, ⊎_elim, if◌then◌else◌, All}
use Rattle.std.proofs.Math.IntN.{ℤ, pos, ◌+ℤ◌}
use Rattle.std.specs.Prelude.{◌==◌, unsigned_abs, ◌≤ℤ◌}
use Rattle.std.specs.Int.{w128, int_wrap}
use Rattle.std.specs.List.{AllByRecursion}
use Rattle.std.proofs.lemmas.Int.{ints, int_wrap-add_left, int_wrap_fits, fits_signed_from_abs, to_z-of_z}
use Rattle.std.proofs.lemmas.Bool.Decides.{eqb_tells}
use Rattle.std.proofs.lemmas.List.{get_or-set_same, get_or-set_other}
use Rattle.std.proofs.lemmas.List.Elements.{recursion_from_All}
use lib.Signed.{mag}
use mir.Val.{SFits, of_z, to_z}
use Rattle.bp_theory.specs.Sums.{sum_at}
use Rattle.bp_theory.proofs.SumLaws.{sum_of_more}
use Rattle.bp_theory.proofs.KeyLaws.{if_same, if_other}
use Rattle.search_laws.specs.declared.UsedColumn.{UsedColumn}
use Rattle.column_assignment.specs.Deals.{HasWeight}

-- a number of 128 bits by its bits
pub passed : (z : ℤ) → mag z < 2 ^ 127 → to_z w128 (of_z w128 z) ≡ z
passed z h = let fits : SFits w128 z = record { sfits = h } in to_z-of_z w128 z fits

-- the weights of a class together
abbrev pub total : List UsedColumn → ℕ → ℤ
total used k = sum_at (λ (u : UsedColumn). u.class) (λ (u : UsedColumn). u.weight) used k

wrap_more : (s t x r : ℤ) → s ≡ int_wrap w128 t → r ≡ int_wrap w128 (s +ℤ x) → r ≡ int_wrap w128 (t +ℤ x)
wrap_more s t x r e f = f ∙ ap (λ z. int_wrap w128 (z +ℤ x)) e ∙ int_wrap-add_left w128 t x

-- one weight more
pub totals_more : (used : List UsedColumn) (i : ℕ) (d : UsedColumn) (now : List ℤ) (class : ℕ) (weight r : ℤ) (k : ℕ) → i < length used
    → class ≡ (get_or used i d).class → weight ≡ (get_or used i d).weight → class < length now → r ≡ int_wrap w128 (get_or now class (pos 0) +ℤ weight)
    → get_or now k (pos 0) ≡ int_wrap w128 (total (take i used) k) → get_or now class (pos 0) ≡ int_wrap w128 (total (take i used) class)
    → get_or (set now class r) k (pos 0) ≡ int_wrap w128 (total (take (i + 1) used) k)
totals_more used i d now class weight r k l class_is weight_is there r_is h own =
    let u : UsedColumn = get_or used i d in
    let more : total (take (i + 1) used) k ≡ total (take i used) k +ℤ (if class == k then weight else pos 0) =
    sum_of_more (λ (u : UsedColumn). if u.class == k then u.weight else pos 0) used i d l
    ∙ ap (λ (c : ℕ). total (take i used) k +ℤ (if c == k then u.weight else pos 0)) (sym class_is)
    ∙ ap (λ (w : ℤ). total (take i used) k +ℤ (if class == k then w else pos 0)) (sym weight_is) in ⊎_elim
    (λ same.
    subst (λ n. get_or (set now class r) n (pos 0) ≡ int_wrap w128 (total (take i used) n +ℤ weight)) same.1
    (get_or-set_same now class r (pos 0) there ∙ wrap_more (get_or now class (pos 0)) (total (take i used) class) weight r own r_is)
    ∙ ap (λ z. int_wrap w128 (total (take i used) k +ℤ z)) (sym (if_same class k weight (pos 0) same.1))
    ∙ ap (int_wrap w128) (sym more))
    (λ other.
    get_or-set_other now class k r (pos 0) (λ e. other.1 (sym e))
    ∙ h
    ∙ ap (int_wrap w128) (none (total (take i used) k) ∙ ap (λ z. total (take i used) k +ℤ z) (sym (if_other class k weight (pos 0) other.1)) ∙ sym more))
    (eqb_tells class k)
  where
    none : (t : ℤ) → t ≡ t +ℤ pos 0
    none t = omega (arith, ints)

-- totals are small
total_low : (used : List UsedColumn) (k : ℕ) → AllByRecursion HasWeight used → unsigned_abs (total used k) ≤ length used * 2 ^ 33
total_low [] k h = omega arith
total_low (u ∷ used) k h = by (u.class == k) (total_low used k h.1)
  where
    one : (w s : ℤ) (n : ℕ) → pos 0 ≤ℤ w → w ≤ℤ pos (2 ^ 33) → unsigned_abs s ≤ n * 2 ^ 33 → unsigned_abs (w +ℤ s) ≤ suc n * 2 ^ 33
    one w s n low high e = omega (arith, ints, low, high, e)

    by : (b : Bool) → unsigned_abs (total used k) ≤ length used * 2 ^ 33
        → unsigned_abs ((if b then u.weight else pos 0) +ℤ total used k) ≤ length (u ∷ used) * 2 ^ 33
    by true e = one u.weight (total used k) (length used) h.0.low h.0.high e
    by false e = one (pos 0) (total used k) (length used) (omega (arith, ints)) (omega (arith, ints)) e

-- and so exact
pub total_exact : (used : List UsedColumn) (k : ℕ) → All HasWeight used → length used < 2 ^ 64 → int_wrap w128 (total used k) ≡ total used k
total_exact used k weights few =
    int_wrap_fits w128 (total used k)
    (fits_signed_from_abs w128 (total used k) (omega (arith, total_low used k (recursion_from_All HasWeight used weights), few)))
