-- The row of a cut from its parts.
use Rattle.std.proofs.Common.{◌≡◌, ℕ, suc, ◌+◌, ◌-◌, ◌/◌, ◌*◌, ◌<◌, ◌≤◌, ◌^◌, List, length, map, get_or, All, refl, sym, ap, subst, ◌∙◌, arith}
use Rattle.std.specs.Prelude.{ℤ, pos, negsuc, ◌+ℤ◌, ◌-ℤ◌, ◌*ℤ◌, unsigned_abs}
use Rattle.std.proofs.Math.Nat.{mul-le-mul_left, mul_comm}
use Rattle.std.proofs.lemmas.Int.{ints}
use Rattle.std.proofs.lemmas.List.Elements.{recursion_from_All}
use Rattle.bp_theory.specs.Sums.{sum_of, round_up}
use Rattle.bp_theory.specs.Program.{Program, KeepsActivity, IsFeasible, MeetsRow}
use Rattle.bp_theory.specs.Decomposition.{Decomposition, ProofRow, no_row, proof_rows, HasVariablesBelow, IsClosed}
use Rattle.bp_theory.specs.Cuts.{combined, combined_side, at_lower_ends, rounded, terms_of, cut_row, row_side, row_coefficient}
use Rattle.bp_theory.specs.declared.Sense.TheVariants.{Ge}
use Rattle.bp_theory.specs.declared.Term.{Term}
use Rattle.bp_theory.specs.declared.Row.{Row}
use Rattle.bp_theory.specs.declared.Cut.{Cut}
use Rattle.bp_theory.proofs.CutProof.{cut_row_met}
use Rattle.bp_theory.proofs.DecompositionProof.{kept_all, all_met}
use Rattle.std.proofs.Common.{Result, Ok, Err, IfErr}
use Rattle.cut_sums.specs.declared.fault.CutFault.{CutFault}
use Rattle.cut_sums.specs.declared.fault.CutFault.TheVariants.{Sign, Large, NoMemory}
use Rattle.cut_sums.specs.Bounded.{row_from, HasRowFault}
use Rattle.cut_sums.specs.Cutting.{HasCutFault, HasFittingSigns, IsCutOver, IsEarlierCut}
use Rattle.bp_model.specs.Tidy.{as_term}
use Rattle.bp_model.proofs.TidyLemmas.{pairs_below}
use Rattle.cut_sums.specs.Rows.{sum_in, entry_demand, AreEntries, IsBoundedEntry}
use Rattle.cut_sums.proofs.DemandLemmas.{low-terms_of, demands_add_up}
use Rattle.cut_sums.proofs.RoundLemmas.{closed_terms, tidy_within}
use Rattle.cut_sums.proofs.SizeLemmas.{demands_within}

-- the row of a cut, from what its rows demand above the lower ends
pub row_is : (p : Program) (rows : List ProofRow) (cut : Cut) (above : ℤ) (terms : List Term)
    → above ≡ round_up (combined_side rows cut -ℤ at_lower_ends p (combined rows cut)) cut.q → terms ≡ terms_of p (rounded rows cut)
    → row_from p above terms ≡ cut_row p rows cut
row_is p rows cut above terms above_is terms_are =
    ap (λ (ts : List Term). row_from p above ts) terms_are
    ∙ ap (λ z. row_from p z (terms_of p (rounded rows cut))) above_is
    ∙ ap (λ (z : ℤ). record {
      sense = Ge;
      low = round_up (combined_side rows cut -ℤ at_lower_ends p (combined rows cut)) cut.q +ℤ z;
      rhs = round_up (combined_side rows cut -ℤ at_lower_ends p (combined rows cut)) cut.q +ℤ z;
      terms = terms_of p (rounded rows cut);
    }) (low-terms_of p (rounded rows cut))

-- the row of a cut whose sums keep the limit may be combined by later cuts
pub later_cut : (p : Program) (rows : List ProofRow) (cut : Cut) → KeepsActivity p (cut_row p rows cut) → IsEarlierCut p (cut_row p rows cut)
later_cut p rows cut kept = record {
  sense = refl;
  same = refl;
  below = closed_terms p (rounded rows cut);
  tidy = tidy_within (rounded rows cut) 0 (length p.spans);
  bounded = kept;
}

-- each feasible point that meets the earlier cuts meets the row of a cut
pub cut_met : (p : Program) (d : Decomposition) (earlier : List Row) (cut : Cut) (x : List ℤ) → IsClosed p → All (IsEarlierCut p) earlier
    → IsCutOver (proof_rows p d earlier) cut → HasFittingSigns (proof_rows p d earlier) cut → IsFeasible p x → All (MeetsRow x) earlier
    → MeetsRow x (cut_row p (proof_rows p d earlier) cut)
cut_met p d earlier cut x closed kept over signs feasible met =
    cut_row_met p d (proof_rows p d earlier) cut x (kept_all p d earlier closed (λ k e l. (kept k e l).below)) (all_met p d earlier x feasible met)
    (record { divides = over.divides; combines = signs }) feasible.inside

-- the row of a cut from its entries' demands and its rounded coefficients
pub row_of_entries : (p : Program) (rows : List ProofRow) (cut : Cut) (ms : List (ℕ × ℤ)) (demand above : ℤ) (terms : List Term) → ms ≡ cut.rows
    → AreEntries p rows ms → demand ≡ sum_of (entry_demand p rows) ms → above ≡ round_up demand cut.q
    → terms ≡ terms_of p (λ v. round_up (sum_in rows ms v) cut.q) → row_from p above terms ≡ cut_row p rows cut
row_of_entries p rows cut ms demand above terms same entries demand_is above_is terms_are =
    let add_up = demands_add_up p rows ms (recursion_from_All (IsBoundedEntry p rows) ms entries.each) in
    let whole : demand ≡ combined_side rows cut -ℤ at_lower_ends p (combined rows cut) =
    demand_is ∙ add_up
    ∙ ap (λ (es : List (ℕ × ℤ)). sum_of (λ m. m.1 *ℤ row_side (get_or rows m.0 no_row) m.1) es
    -ℤ at_lower_ends p (λ v. sum_of (λ m. m.1 *ℤ row_coefficient (get_or rows m.0 no_row) v) es)) same in
    row_is p rows cut above terms (above_is ∙ ap (λ z. round_up z cut.q) whole)
    (terms_are ∙ ap (λ (es : List (ℕ × ℤ)). terms_of p (λ v. round_up (sum_in rows es v) cut.q)) same)

-- the size of a rounded quotient
round_within : (z : ℤ) (q : ℕ) → 0 < q → unsigned_abs (round_up z q) ≤ unsigned_abs z + q
round_within (pos n) q h =
    let quotient : ℕ = (n + (q - 1)) / q in
    let more : quotient * 1 ≤ quotient * q = mul-le-mul_left quotient h in
    omega (arith, more, mul_comm quotient q)
round_within (negsuc n) q h =
    let quotient : ℕ = suc n / q in
    let more : quotient * 1 ≤ quotient * q = mul-le-mul_left quotient h in
    omega (arith, ints, more, mul_comm quotient q)

-- what is rounded stays within the limits of 128 bits
pub above_within : (p : Program) (rows : List ProofRow) (ms : List (ℕ × ℤ)) (demand : ℤ) (q : ℕ) → AreEntries p rows ms → 0 < q → q ≤ 2 ^ 20
    → demand ≡ sum_of (entry_demand p rows) ms → unsigned_abs (round_up demand q) ≤ 2 ^ 116
above_within p rows ms demand q entries h small is =
    omega (arith, round_within demand q h, ap unsigned_abs is, demands_within p rows ms entries, small)

-- coefficients by variable are those of the program's variables
pub coefs_below : (p : Program) (f : ℕ → ℤ) (es : List (ℕ × ℤ)) → map as_term es ≡ terms_of p f → All (λ e. e.0 < length p.spans) es
coefs_below p f es is = pairs_below (length p.spans) es (subst (HasVariablesBelow (length p.spans)) (sym is) (closed_terms p f))

-- what the row of a cut is refused for, the cut is
pub fault_is : (p : Program) (rows : List ProofRow) (cut : Cut) (row : Row) (result : Result Row CutFault) → row ≡ cut_row p rows cut → HasFittingSigns rows cut
    → IfErr result (HasRowFault p row) → IfErr result (HasCutFault p rows cut)
fault_is p rows cut row (Ok made) same signs h = tt
fault_is p rows cut row (Err Sign) same signs h = absurd h
fault_is p rows cut row (Err Large) same signs h = (signs, λ kept. h (subst (KeepsActivity p) (sym same) kept))
fault_is p rows cut row (Err NoMemory) same signs h = tt
