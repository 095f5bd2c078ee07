-- Each feasible point meets the row of each cut.
use Rattle.std.proofs.Common.{◌≡◌, refl, sym, ap, subst, ◌∙◌, ℕ, suc, ◌+◌, ◌-◌, ◌*◌, ◌/◌, ◌<◌, Bool, true, false, not, List, [], ◌∷◌, ◌++◌, map, length, get_or, Some, arith, ⊎_elim}
use Rattle.std.proofs.Math.IntN.{ℤ, pos, negsuc, ◌+ℤ◌, ◌-ℤ◌, ◌*ℤ◌, *ℤ_comm, zero-*ℤ, *ℤ-zero}
use Rattle.std.proofs.Math.Nat.{mul-le-mul_left}
use Rattle.std.specs.Prelude.{◌≤ℤ◌, All, if◌then◌else◌}
use Rattle.std.specs.List.{AllByRecursion, range_with_len}
use Rattle.std.specs.Ordering.{int_eq}
use Rattle.std.proofs.lemmas.Bool.{cases_lt}
use Rattle.std.proofs.lemmas.Bool.Decides.{Decides-int_eq}
use Rattle.std.proofs.lemmas.Int.{ints}
use Rattle.std.proofs.lemmas.List.Elements.{recursion_from_All, All-from_recursion, All-filter, All-map, All-push, All-nil}
use borrow.Author.Differences.{neg_is}
use Rattle.bp_theory.specs.Sums.{sum_of, round_up}
use Rattle.bp_theory.specs.Program.{Program, value_at, activity, span_at, IsWithin, IsInside, Meets, MeetsRow, IsFeasible}
use Rattle.bp_theory.specs.Blocking.{sides_of}
use Rattle.bp_theory.specs.Decomposition.{Decomposition, ProofRow, whole_row, link_row, no_row, proof_rows, full_row, blocking_of, HasVariablesBelow, IsClosed}
use Rattle.bp_theory.specs.Cuts.{row_coefficient, row_side, CombinesWell, IsFitting, combined, combined_side, at_lower_ends, rounded, terms_of, term_at, cut_row, cut_rows, AreFitting}
use Rattle.bp_theory.specs.Laws.{CutsAreMet, CertifiedIsTrue}
use Rattle.bp_theory.specs.declared.Term.{Term}
use Rattle.bp_theory.specs.declared.Row.{Row}
use Rattle.bp_theory.specs.declared.MasterRow.{MasterRow}
use Rattle.bp_theory.specs.declared.Cut.{Cut}
use Rattle.bp_theory.proofs.Whole.{mul-add, add-mul, mul-sub, mul_assoc, le-mul_pos}
use Rattle.bp_theory.proofs.SumLaws.{sum_of-same, sum_of-add, sum_of-sub, sum_of-zero, sum_of-map, sum_of-filter, mul-sum_of}
use Rattle.bp_theory.proofs.ZipLaws.{AllZip_at}
use Rattle.bp_theory.proofs.KeyLaws.{sum_of-by_key}
use Rattle.bp_theory.proofs.DualityProof.{multiplier_below}
use Rattle.bp_theory.proofs.TruthProof.{valid_is_true_lem}
use Rattle.bp_theory.proofs.FaithProof.{adding_up_lem}
use Rattle.bp_theory.proofs.DecompositionProof.{IsKept, IsMetBy, kept_all, all_met, kept_at, below_range, decomposition_lem}

-- a quotient rounded up, times the divisor, is no less
pub le-round_up : (z : ℤ) (q : ℕ) → 0 < q → z ≤ℤ (pos q *ℤ round_up z q)
le-round_up (pos n) q h = omega (arith, ints)
le-round_up (negsuc n) q h = omega (arith, ints, ap (λ z. q * z) (neg_is (pos (suc n / q))).0, ap (λ z. q * z) (neg_is (pos (suc n / q))).1)

-- it is the least such number
pub round_up-le : (z s : ℤ) (q : ℕ) → 0 < q → z ≤ℤ (pos q *ℤ s) → round_up z q ≤ℤ s
round_up-le (pos n) (pos m) q h l = ⊎_elim
    (λ less. absurd (omega (arith, ints, l, mul-le-mul_left q less)))
    (λ more. omega (arith, ints))
    (cases_lt m ((n + (q - 1)) / q))
round_up-le (pos n) (negsuc m) q h l = absurd (omega (arith, ints))
round_up-le (negsuc n) (pos m) q h l = omega (arith, ints)
round_up-le (negsuc n) (negsuc m) q h l = ⊎_elim
    (λ less. absurd (omega (arith, ints, l, mul-le-mul_left q less)))
    (λ more. omega (arith, ints))
    (cases_lt (suc n / q) (suc m))

-- a factor that isn't negative keeps an order
le-mul_nonneg : (a b y : ℤ) → pos 0 ≤ℤ y → a ≤ℤ b → (a *ℤ y) ≤ℤ (b *ℤ y)
le-mul_nonneg a b (pos n) h l = omega (arith, ints, *ℤ_comm a (pos n), *ℤ_comm b (pos n), le-mul_pos n a b l)
le-mul_nonneg a b (negsuc n) h l = absurd (omega (arith, ints))

-- the activity of a point in a row that cuts combine
abbrev pub row_activity : List ℤ → ProofRow → ℤ
row_activity x (whole_row row) = activity row.terms x
row_activity x (link_row w k) = pos 0
row_activity x no_row = pos 0

-- a multiplier takes no more from the side than from the activity
side_below : (x : List ℤ) (row : ProofRow) (u : ℤ) → CombinesWell row u → IsMetBy x row → (u *ℤ row_side row u) ≤ℤ (u *ℤ row_activity x row)
side_below x (whole_row row) u well met =
    multiplier_below (Some (sides_of row)) u (activity row.terms x) well
    (λ r e. let same : sides_of row ≡ r = cc in
    subst (λ (m : MasterRow). Meets m.sense m.low m.rhs (activity row.terms x)) same (met row refl))
side_below x (link_row w k) u well met = absurd well
side_below x no_row u well met = absurd well

-- the activity, variable by variable
activity_by_variable : (p : Program) (d : Decomposition) (x : List ℤ) (row : ProofRow) (u : ℤ) → CombinesWell row u → IsKept p d row
    → row_activity x row ≡ sum_of (λ v. row_coefficient row v *ℤ value_at x v) (range_with_len 0 (length p.spans))
activity_by_variable p d x (whole_row row) u well kept =
    sum_of-by_key (λ t. t.var) (λ t. t.coef) (value_at x) (length p.spans) row.terms kept
activity_by_variable p d x (link_row w k) u well kept = absurd well
activity_by_variable p d x no_row u well kept = absurd well

-- the combined activity, variable by variable
combined_activity : (p : Program) (d : Decomposition) (x : List ℤ) (rows : List ProofRow) → AllByRecursion (IsKept p d) rows
    → (ms : List (ℕ × ℤ)) → AllByRecursion (λ m. CombinesWell (get_or rows m.0 no_row) m.1) ms
    → sum_of (λ m. m.1 *ℤ row_activity x (get_or rows m.0 no_row)) ms
    ≡ sum_of (λ v. sum_of (λ m. m.1 *ℤ row_coefficient (get_or rows m.0 no_row) v) ms *ℤ value_at x v) (range_with_len 0 (length p.spans))
combined_activity p d x rows kept [] well =
    sym (sum_of-same (λ v. pos 0 *ℤ value_at x v) (λ v. pos 0) (λ v. zero-*ℤ (value_at x v)) (range_with_len 0 (length p.spans))
    ∙ sum_of-zero (range_with_len 0 (length p.spans)))
combined_activity p d x rows kept (m ∷ ms) well =
    let vs : List ℕ = range_with_len 0 (length p.spans) in
    let row : ProofRow = get_or rows m.0 no_row in
    let rest : ℕ → ℤ = λ v. sum_of (λ m'. m'.1 *ℤ row_coefficient (get_or rows m'.0 no_row) v) ms in
    omega (
      arith,
      ints,
      combined_activity p d x rows kept ms well.1,
      ap (λ z. m.1 *ℤ z) (activity_by_variable p d x row m.1 well.0 (kept_at (IsKept p d) rows no_row kept tt m.0)),
      mul-sum_of m.1 (λ v. row_coefficient row v *ℤ value_at x v) vs,
      sum_of-same (λ v. m.1 *ℤ (row_coefficient row v *ℤ value_at x v)) (λ v. (m.1 *ℤ row_coefficient row v) *ℤ value_at x v)
          (λ v. mul_assoc m.1 (row_coefficient row v) (value_at x v)) vs,
      sum_of-same (λ v. (m.1 *ℤ row_coefficient row v +ℤ rest v) *ℤ value_at x v)
          (λ v. (m.1 *ℤ row_coefficient row v) *ℤ value_at x v +ℤ rest v *ℤ value_at x v)
          (λ v. add-mul (m.1 *ℤ row_coefficient row v) (rest v) (value_at x v)) vs,
      sum_of-add (λ v. (m.1 *ℤ row_coefficient row v) *ℤ value_at x v) (λ v. rest v *ℤ value_at x v) vs,
    )

-- the combined side is below the combined activity
combined_side_below : (x : List ℤ) (rows : List ProofRow) → AllByRecursion (IsMetBy x) rows
    → (ms : List (ℕ × ℤ)) → AllByRecursion (λ m. CombinesWell (get_or rows m.0 no_row) m.1) ms
    → sum_of (λ m. m.1 *ℤ row_side (get_or rows m.0 no_row) m.1) ms ≤ℤ sum_of (λ m. m.1 *ℤ row_activity x (get_or rows m.0 no_row)) ms
combined_side_below x rows met [] well = omega (arith, ints)
combined_side_below x rows met (m ∷ ms) well =
    omega (
      arith,
      ints,
      side_below x (get_or rows m.0 no_row) m.1 well.0 (kept_at (IsMetBy x) rows no_row met (λ full e. absurd (cc)) m.0),
      combined_side_below x rows met ms well.1,
    )

-- the activity of the terms of given coefficients
activity-terms_of : (p : Program) (f : ℕ → ℤ) (x : List ℤ)
    → activity (terms_of p f) x ≡ sum_of (λ v. f v *ℤ value_at x v) (range_with_len 0 (length p.spans))
activity-terms_of p f x =
    let vs : List ℕ = range_with_len 0 (length p.spans) in
    sum_of-filter (λ t. t.coef *ℤ value_at x t.var) (λ t. not (int_eq t.coef (pos 0))) (map (term_at f) vs)
    ∙ sum_of-same (λ (t : Term). if not (int_eq t.coef (pos 0)) then t.coef *ℤ value_at x t.var else pos 0) (λ t. t.coef *ℤ value_at x t.var)
    (λ t. zero_left_out t.coef (value_at x t.var)) (map (term_at f) vs)
    ∙ sum_of-map (λ (t : Term). t.coef *ℤ value_at x t.var) (term_at f) vs
  where
    zero_left_out : (z y : ℤ) → (if not (int_eq z (pos 0)) then z *ℤ y else pos 0) ≡ z *ℤ y
    zero_left_out z y = by (int_eq z (pos 0)) refl
      where
        by : (t : Bool) → int_eq z (pos 0) ≡ t → (if not t then z *ℤ y else pos 0) ≡ z *ℤ y
        by true e = sym (ap (λ w. w *ℤ y) ((Decides-int_eq z (pos 0)).0 e) ∙ zero-*ℤ y)
        by false e = refl

-- a sum of differences to the lower ends
from_lower_ends : (p : Program) (f : ℕ → ℤ) (x : List ℤ)
    → sum_of (λ v. f v *ℤ (value_at x v -ℤ (span_at p.spans v).lo)) (range_with_len 0 (length p.spans))
    ≡ sum_of (λ v. f v *ℤ value_at x v) (range_with_len 0 (length p.spans)) -ℤ at_lower_ends p f
from_lower_ends p f x =
    sum_of-same (λ v. f v *ℤ (value_at x v -ℤ (span_at p.spans v).lo)) (λ v. f v *ℤ value_at x v -ℤ f v *ℤ (span_at p.spans v).lo)
    (λ v. mul-sub (f v) (value_at x v) ((span_at p.spans v).lo)) (range_with_len 0 (length p.spans))
    ∙ sum_of-sub (λ v. f v *ℤ value_at x v) (λ v. f v *ℤ (span_at p.spans v).lo) (range_with_len 0 (length p.spans))

-- rounding up grows a sum of what isn't negative
rounded_above : (p : Program) (x : List ℤ) → IsInside p.spans x → (f : ℕ → ℤ) (q : ℕ) → 0 < q → (vs : List ℕ)
    → AllByRecursion (λ v. v < length p.spans) vs
    → sum_of (λ v. f v *ℤ (value_at x v -ℤ (span_at p.spans v).lo)) vs
    ≤ℤ (pos q *ℤ sum_of (λ v. round_up (f v) q *ℤ (value_at x v -ℤ (span_at p.spans v).lo)) vs)
rounded_above p x inside f q h [] below = omega (arith, ints, *ℤ-zero (pos q))
rounded_above p x inside f q h (v ∷ vs) below =
    let y : ℤ = value_at x v -ℤ (span_at p.spans v).lo in
    let within = AllZip_at IsWithin p.spans x inside v (record { lo = pos 0; hi = pos 0 }) (pos 0) below.0 in
    let least : pos 0 ≤ℤ y = omega (arith, ints, within.above) in
    omega (
      arith,
      ints,
      rounded_above p x inside f q h vs below.1,
      le-mul_nonneg (f v) (pos q *ℤ round_up (f v) q) y least (le-round_up (f v) q h),
      mul_assoc (pos q) (round_up (f v) q) y,
      mul-add (pos q) (round_up (f v) q *ℤ y) (sum_of (λ u. round_up (f u) q *ℤ (value_at x u -ℤ (span_at p.spans u).lo)) vs),
    )

-- a feasible point meets the row of a fitting cut over rows that it meets
pub cut_row_met : (p : Program) (d : Decomposition) (rows : List ProofRow) (cut : Cut) (x : List ℤ)
    → AllByRecursion (IsKept p d) rows → AllByRecursion (IsMetBy x) rows → IsFitting rows cut → IsInside p.spans x
    → MeetsRow x (cut_row p rows cut)
cut_row_met p d rows cut x kept met fits inside =
    let vs : List ℕ = range_with_len 0 (length p.spans) in
    let well = recursion_from_All (λ m. CombinesWell (get_or rows m.0 no_row) m.1) cut.rows fits.combines in
    let target : ℤ = combined_side rows cut -ℤ at_lower_ends p (combined rows cut) in
    let reached : ℤ = sum_of (λ v. rounded rows cut v *ℤ (value_at x v -ℤ (span_at p.spans v).lo)) vs in
    let enough : target ≤ℤ (pos cut.q *ℤ reached) =
    omega (
      arith,
      ints,
      combined_side_below x rows met cut.rows well,
      combined_activity p d x rows kept cut.rows well,
      from_lower_ends p (combined rows cut) x,
      rounded_above p x inside (combined rows cut) cut.q fits.divides vs (below_range (length p.spans) 0 (length p.spans) (omega arith)),
    ) in
    omega (
      arith,
      ints,
      round_up-le target reached cut.q fits.divides enough,
      from_lower_ends p (rounded rows cut) x,
      activity-terms_of p (rounded rows cut) x,
    )

-- the terms of given coefficients are those of variables of the program
closed-terms_of : (p : Program) (f : ℕ → ℤ) → HasVariablesBelow (length p.spans) (terms_of p f)
closed-terms_of p f =
    All-filter (λ t. not (int_eq t.coef (pos 0))) (λ t. t.var < length p.spans) (map (term_at f) (range_with_len 0 (length p.spans)))
    (All-map (λ (t : Term). t.var < length p.spans) (term_at f) (range_with_len 0 (length p.spans))
    (All-from_recursion (λ v. v < length p.spans) (range_with_len 0 (length p.spans)) (below_range (length p.spans) 0 (length p.spans) (omega arith))))

cuts_closed : (p : Program) (d : Decomposition) (cuts : List Cut) (earlier : List Row)
    → All (λ cut. HasVariablesBelow (length p.spans) cut.terms) earlier
    → All (λ cut. HasVariablesBelow (length p.spans) cut.terms) (cut_rows p d earlier cuts)
cuts_closed p d [] earlier closed = closed
cuts_closed p d (cut ∷ cuts) earlier closed =
    cuts_closed p d cuts (earlier ++ cut_row p (proof_rows p d earlier) cut ∷ [])
    (All-push (λ (row : Row). HasVariablesBelow (length p.spans) row.terms) earlier (cut_row p (proof_rows p d earlier) cut) closed
    (closed-terms_of p (rounded (proof_rows p d earlier) cut)))

cuts_met : (p : Program) (d : Decomposition) (cuts : List Cut) (earlier : List Row) (x : List ℤ) → IsClosed p → IsFeasible p x
    → All (λ cut. HasVariablesBelow (length p.spans) cut.terms) earlier → All (MeetsRow x) earlier → AreFitting p d earlier cuts
    → All (MeetsRow x) (cut_rows p d earlier cuts)
cuts_met p d [] earlier x closed feasible closed_cuts met fits = met
cuts_met p d (cut ∷ cuts) earlier x closed feasible closed_cuts met fits =
    let row : Row = cut_row p (proof_rows p d earlier) cut in
    cuts_met p d cuts (earlier ++ row ∷ []) x closed feasible
    (All-push (λ (r : Row). HasVariablesBelow (length p.spans) r.terms) earlier row closed_cuts
    (closed-terms_of p (rounded (proof_rows p d earlier) cut)))
    (All-push (MeetsRow x) earlier row met
    (cut_row_met p d (proof_rows p d earlier) cut x (kept_all p d earlier closed closed_cuts) (all_met p d earlier x feasible met) fits.0 feasible.inside))
    fits.1

pub cuts_are_met_lem : CutsAreMet
cuts_are_met_lem = record {
  closed = λ p d cuts. cuts_closed p d cuts [] (All-nil (λ (row : Row). HasVariablesBelow (length p.spans) row.terms));
  met = λ p d cuts x closed fits feasible. cuts_met p d cuts [] x closed feasible
      (All-nil (λ (row : Row). HasVariablesBelow (length p.spans) row.terms)) (All-nil (MeetsRow x)) fits;
}

pub certified_is_true_lem : CertifiedIsTrue
certified_is_true_lem p d cert closed certified =
    let rows : List Row = cut_rows p d [] cert.cuts in
    valid_is_true_lem p (blocking_of p d rows) cert
    (adding_up_lem p (map full_row (proof_rows p d rows)) (blocking_of p d rows)
    (decomposition_lem.implied p d rows (λ x feasible. cuts_are_met_lem.met p d cert.cuts x closed certified.fitting feasible))
    (decomposition_lem.adds_up p d rows closed (cuts_are_met_lem.closed p d cert.cuts)))
    certified.valid
