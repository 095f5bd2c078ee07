-- What a sum of rows demands above the lower ends of the spans, row by row.
use Rattle.std.proofs.Common.{◌≡◌, ◌<◌, ℕ, List, [], ◌∷◌, length, get_or, refl, sym, ap, ◌∙◌, arith, Bool, true, false, not, map, if◌then◌else◌}
use Rattle.std.proofs.Math.IntN.{ℤ, pos, ◌+ℤ◌, ◌-ℤ◌, ◌*ℤ◌, zero-*ℤ}
use Rattle.std.specs.List.{AllByRecursion, range_with_len}
use Rattle.std.specs.Ordering.{int_eq}
use Rattle.std.proofs.lemmas.Int.{ints}
use Rattle.std.proofs.lemmas.Bool.Decides.{Decides-int_eq}
use Rattle.std.proofs.lemmas.List.Elements.{recursion_from_All}
use Rattle.bp_theory.specs.Sums.{sum_of}
use Rattle.bp_theory.specs.Program.{Program, span_at}
use Rattle.bp_theory.specs.Decomposition.{ProofRow, whole_row, link_row, no_row}
use Rattle.bp_theory.specs.Cuts.{row_coefficient, row_side, at_lower_ends, term_at, terms_of}
use Rattle.bp_theory.specs.declared.Term.{Term}
use Rattle.bp_theory.proofs.SumLaws.{sum_of-same, sum_of-add, sum_of-zero, sum_of-map, sum_of-filter, mul-sum_of}
use Rattle.bp_theory.proofs.Whole.{mul-sub, add-mul, mul_assoc}
use Rattle.bp_theory.proofs.KeyLaws.{sum_of-by_key}
use Rattle.cut_sums.specs.Rows.{low_activity, row_low, entry_demand, IsBoundedRow, IsBoundedEntry}

-- it adds up variable by variable
low_by_variable : (p : Program) (row : ProofRow) → IsBoundedRow p row → row_low p row ≡ at_lower_ends p (row_coefficient row)
low_by_variable p (whole_row row) h =
    sum_of-by_key (λ t. t.var) (λ t. t.coef) (λ v. (span_at p.spans v).lo) (length p.spans) row.terms (recursion_from_All (λ t. t.var < length p.spans) row.terms h.below)
low_by_variable p (link_row v k) h = absurd h
low_by_variable p no_row h = absurd h

-- rows times multipliers demand what their sum does
pub demands_add_up : (p : Program) (rows : List ProofRow) (ms : List (ℕ × ℤ)) → AllByRecursion (IsBoundedEntry p rows) ms
    → sum_of (entry_demand p rows) ms ≡ sum_of (λ m. m.1 *ℤ row_side (get_or rows m.0 no_row) m.1) ms
    -ℤ at_lower_ends p (λ v. sum_of (λ m. m.1 *ℤ row_coefficient (get_or rows m.0 no_row) v) ms)
demands_add_up p rows [] h =
    let none : at_lower_ends p (λ v. pos 0) ≡ pos 0 =
    sum_of-same (λ v. pos 0 *ℤ (span_at p.spans v).lo) (λ v. pos 0) (λ v. zero-*ℤ ((span_at p.spans v).lo)) (range_with_len 0 (length p.spans))
    ∙ sum_of-zero (range_with_len 0 (length p.spans)) in
    omega (arith, ints, none)
demands_add_up p rows (m ∷ ms) h =
    let vs : List ℕ = range_with_len 0 (length p.spans) in
    let row : ProofRow = get_or rows m.0 no_row in
    let lo : ℕ → ℤ = λ v. (span_at p.spans v).lo in
    let rest : ℕ → ℤ = λ v. sum_of (λ m'. m'.1 *ℤ row_coefficient (get_or rows m'.0 no_row) v) ms in
    omega (
      arith,
      ints,
      demands_add_up p rows ms h.1,
      mul-sub m.1 (row_side row m.1) (row_low p row),
      ap (λ z. m.1 *ℤ z) (low_by_variable p row h.0.row),
      mul-sum_of m.1 (λ v. row_coefficient row v *ℤ lo v) vs,
      sum_of-same (λ v. m.1 *ℤ (row_coefficient row v *ℤ lo v)) (λ v. (m.1 *ℤ row_coefficient row v) *ℤ lo v) (λ v. mul_assoc m.1 (row_coefficient row v) (lo v)) vs,
      sum_of-same (λ v. (m.1 *ℤ row_coefficient row v +ℤ rest v) *ℤ lo v) (λ v. (m.1 *ℤ row_coefficient row v) *ℤ lo v +ℤ rest v *ℤ lo v)
          (λ v. add-mul (m.1 *ℤ row_coefficient row v) (rest v) (lo v)) vs,
      sum_of-add (λ v. (m.1 *ℤ row_coefficient row v) *ℤ lo v) (λ v. rest v *ℤ lo v) vs,
    )

-- the terms of given coefficients at the lower ends
pub low-terms_of : (p : Program) (f : ℕ → ℤ) → low_activity p.spans (terms_of p f) ≡ at_lower_ends p f
low-terms_of p f =
    let vs : List ℕ = range_with_len 0 (length p.spans) in
    let lo : ℕ → ℤ = λ v. (span_at p.spans v).lo in
    sum_of-filter (λ t. t.coef *ℤ lo t.var) (λ t. not (int_eq t.coef (pos 0))) (map (term_at f) vs)
    ∙ sum_of-same (λ (t : Term). if not (int_eq t.coef (pos 0)) then t.coef *ℤ lo t.var else pos 0) (λ t. t.coef *ℤ lo t.var)
    (λ t. zero_left_out t.coef (lo t.var)) (map (term_at f) vs)
    ∙ sum_of-map (λ (t : Term). t.coef *ℤ lo t.var) (term_at f) vs
  where
    zero_left_out : (z y : ℤ) → (if not (int_eq z (pos 0)) then z *ℤ y else pos 0) ≡ z *ℤ y
    zero_left_out z y = by (int_eq z (pos 0)) refl
      where
        by : (t : Bool) → int_eq z (pos 0) ≡ t → (if not t then z *ℤ y else pos 0) ≡ z *ℤ y
        by true e = sym (ap (λ w. w *ℤ y) ((Decides-int_eq z (pos 0)).0 e) ∙ zero-*ℤ y)
        by false e = refl
