-- Each feasible point meets the rows of cuts of all kinds.
use Rattle.std.proofs.Common.{ℕ, ◌<◌, not, List, [], ◌∷◌, ◌++◌, map, length, arith}
use Rattle.std.proofs.Math.IntN.{ℤ, pos}
use Rattle.std.specs.Prelude.{◌≤ℤ◌, All}
use Rattle.std.specs.List.{range_with_len}
use Rattle.std.specs.Ordering.{int_eq}
use Rattle.std.proofs.lemmas.Int.{ints}
use Rattle.std.proofs.lemmas.List.Elements.{All-from_recursion, All-filter, All-map, All-push, All-nil}
use Rattle.bp_theory.specs.Program.{Program, IsFeasible, MeetsRow, cost}
use Rattle.bp_theory.specs.Blocking.{IsFaithful}
use Rattle.bp_theory.specs.Decomposition.{Decomposition, proof_rows, HasVariablesBelow, IsClosed}
use Rattle.bp_theory.specs.Cuts.{rounded, terms_of, term_at}
use Rattle.bp_theory.specs.declared.Term.{Term}
use Rattle.bp_theory.specs.declared.Row.{Row}
use Rattle.bp_theory.proofs.TruthProof.{holds_is_true}
use Rattle.bp_theory.proofs.CutProof.{cut_row_met}
use Rattle.bp_theory.proofs.DecompositionProof.{kept_all, all_met, below_range}
use Rattle.stronger_laws.specs.WideRows.{wide_rows, wide_blocking}
use Rattle.stronger_laws.specs.Mir.{mir_coefficient}
use Rattle.stronger_laws.specs.PricedCuts.{with_costs}
use Rattle.stronger_laws.specs.AllCuts.{any_row, IsFittingAny, any_rows, AreFittingAll}
use Rattle.stronger_laws.specs.Laws.{PricedIsMet, AllCutsAreMet}
use Rattle.stronger_laws.specs.declared.AnyCut.{AnyCut}
use Rattle.stronger_laws.specs.declared.AnyCut.TheVariants.{Rounding, Mir, Priced}
use Rattle.stronger_laws.proofs.MirProof.{mir_row_met}
use Rattle.stronger_laws.proofs.WideProof.{wide_known, wide_met, wide_is_faithful_lem}

-- a point that is feasible for other costs
feasible_with : (p : Program) (costs : List Term) (x : List ℤ) → IsFeasible p x → IsFeasible (with_costs p costs) x
feasible_with p costs x h = record { inside = h.inside; rows = h.rows }

feasible_without : (p : Program) (costs : List Term) (x : List ℤ) → IsFeasible (with_costs p costs) x → IsFeasible p x
feasible_without p costs x h = record { inside = h.inside; rows = h.rows }

-- the blocking with other costs is faithful to the program with other costs
priced_faithful : (p : Program) (d : Decomposition) (cuts : List Row) (costs : List Term) → IsClosed p
    → All (λ cut. HasVariablesBelow (length p.spans) cut.terms) cuts → ((x : List ℤ) → IsFeasible p x → All (MeetsRow x) cuts)
    → HasVariablesBelow (length p.spans) costs → IsFaithful (with_costs p costs) (wide_blocking (with_costs p costs) d cuts)
priced_faithful p d cuts costs closed closed_cuts met known =
    wide_is_faithful_lem.faithful (with_costs p costs) d cuts (record { costs = known; rows = closed.rows }) closed_cuts
    (λ x feasible. met x (feasible_without p costs x feasible))

pub priced_is_met_lem : PricedIsMet
priced_is_met_lem p d cuts cut x closed closed_cuts met fits feasible =
    let least : cut.low ≤ℤ cost (with_costs p cut.objective) x =
    holds_is_true (with_costs p cut.objective) (wide_blocking (with_costs p cut.objective) d cuts) p.spans cut.proof cut.low x
    (priced_faithful p d cuts cut.objective closed closed_cuts met fits.known) fits.signs (feasible_with p cut.objective x feasible)
    feasible.inside fits.reached in
    omega (arith, ints, least)

-- the terms of given coefficients are those of variables of the program
closed-terms_of : (p : Program) (f : ℕ → ℤ) → HasVariablesBelow (length p.spans) (terms_of p f)
closed-terms_of p f =
    All-filter (λ t. not (int_eq t.coef (pos 0))) (λ t. t.var < length p.spans) (map (term_at f) (range_with_len 0 (length p.spans)))
    (All-map (λ (t : Term). t.var < length p.spans) (term_at f) (range_with_len 0 (length p.spans))
    (All-from_recursion (λ v. v < length p.spans) (range_with_len 0 (length p.spans)) (below_range (length p.spans) 0 (length p.spans) (omega arith))))

-- the row of a cut of any kind has variables of the program
row_closed : (p : Program) (d : Decomposition) (earlier : List Row) (cut : AnyCut) → IsFittingAny p d earlier cut
    → HasVariablesBelow (length p.spans) (any_row p d earlier cut).terms
row_closed p d earlier (Rounding cut) fits = closed-terms_of p (rounded (proof_rows p d earlier) cut)
row_closed p d earlier (Mir cut) fits = closed-terms_of p (mir_coefficient p (wide_rows p d earlier) cut)
row_closed p d earlier (Priced cut) fits = fits.known

-- each feasible point meets it where it meets earlier ones
row_met : (p : Program) (d : Decomposition) (earlier : List Row) (cut : AnyCut) → IsClosed p
    → All (λ row. HasVariablesBelow (length p.spans) row.terms) earlier → ((x : List ℤ) → IsFeasible p x → All (MeetsRow x) earlier)
    → IsFittingAny p d earlier cut → (x : List ℤ) → IsFeasible p x → MeetsRow x (any_row p d earlier cut)
row_met p d earlier (Rounding cut) closed closed_rows met fits x feasible =
    cut_row_met p d (proof_rows p d earlier) cut x (kept_all p d earlier closed closed_rows) (all_met p d earlier x feasible (met x feasible)) fits feasible.inside
row_met p d earlier (Mir cut) closed closed_rows met fits x feasible =
    mir_row_met p (wide_rows p d earlier) cut x (wide_known p d earlier closed closed_rows) (wide_met p d earlier x feasible (met x feasible)) fits feasible.inside
row_met p d earlier (Priced cut) closed closed_rows met fits x feasible =
    priced_is_met_lem p d earlier cut x closed closed_rows met fits feasible

rows_closed : (p : Program) (d : Decomposition) (cuts : List AnyCut) (earlier : List Row)
    → All (λ row. HasVariablesBelow (length p.spans) row.terms) earlier → AreFittingAll p d earlier cuts
    → All (λ row. HasVariablesBelow (length p.spans) row.terms) (any_rows p d earlier cuts)
rows_closed p d [] earlier closed fits = closed
rows_closed p d (cut ∷ cuts) earlier closed fits =
    rows_closed p d cuts (earlier ++ any_row p d earlier cut ∷ [])
    (All-push (λ (row : Row). HasVariablesBelow (length p.spans) row.terms) earlier (any_row p d earlier cut) closed (row_closed p d earlier cut fits.0))
    fits.1

rows_met : (p : Program) (d : Decomposition) (cuts : List AnyCut) (earlier : List Row) → IsClosed p
    → All (λ row. HasVariablesBelow (length p.spans) row.terms) earlier → ((x : List ℤ) → IsFeasible p x → All (MeetsRow x) earlier)
    → AreFittingAll p d earlier cuts → (x : List ℤ) → IsFeasible p x → All (MeetsRow x) (any_rows p d earlier cuts)
rows_met p d [] earlier closed closed_rows met fits = met
rows_met p d (cut ∷ cuts) earlier closed closed_rows met fits =
    rows_met p d cuts (earlier ++ any_row p d earlier cut ∷ []) closed
    (All-push (λ (row : Row). HasVariablesBelow (length p.spans) row.terms) earlier (any_row p d earlier cut) closed_rows (row_closed p d earlier cut fits.0))
    (λ x feasible. All-push (MeetsRow x) earlier (any_row p d earlier cut) (met x feasible)
    (row_met p d earlier cut closed closed_rows met fits.0 x feasible))
    fits.1

pub all_cuts_are_met_lem : AllCutsAreMet
all_cuts_are_met_lem = record {
  closed = λ p d cuts fits. rows_closed p d cuts [] (All-nil (λ (row : Row). HasVariablesBelow (length p.spans) row.terms)) fits;
  met = λ p d cuts x closed fits feasible. rows_met p d cuts [] closed (All-nil (λ (row : Row). HasVariablesBelow (length p.spans) row.terms))
      (λ y h. All-nil (MeetsRow y)) fits x feasible;
}
