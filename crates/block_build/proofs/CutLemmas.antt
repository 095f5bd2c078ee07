-- The rows of cuts.
use Rattle.std.proofs.Common.{◌≡◌, ◌≢◌, ℕ, zero, suc, ◌+◌, ◌≤◌, Bool, true, false, not, if◌then◌else◌, List, [], ◌∷◌, ◌++◌, map, filter, length, All, refl, arith, length-append}
use Rattle.std.specs.Prelude.{ℤ, pos}
use Rattle.std.specs.List.{range_with_len}
use Rattle.std.specs.Ordering.{int_eq}
use Rattle.std.proofs.lemmas.Bool.Decides.{Decides-int_eq}
use Rattle.std.proofs.lemmas.List.Elements.{All-nil, All-push}
use Rattle.bp_theory.specs.Program.{Program}
use Rattle.bp_theory.specs.Decomposition.{Decomposition, IsTidyFrom, proof_rows}
use Rattle.bp_theory.specs.Cuts.{cut_row, cut_rows, rounded, term_at}
use Rattle.bp_theory.specs.declared.Cut.{Cut}
use Rattle.bp_theory.specs.declared.Row.{Row}
use Rattle.bp_theory.specs.declared.Term.{Term}
use Rattle.bp_theory.proofs.CutProof.{cuts_are_met_lem}
use Rattle.block_program.specs.Cuts.{KeepsCuts, AreCutRows}

tidy_from : (n m : ℕ) (ts : List Term) → n ≤ m → IsTidyFrom m ts → IsTidyFrom n ts
tidy_from n m [] l h = tt
tidy_from n m (t ∷ ts) l h = (omega (arith, l, h.0), h.1, h.2)

not_zero : (z : ℤ) → int_eq z (pos 0) ≡ false → z ≢ pos 0
not_zero z e same = by (int_eq z (pos 0)) e ((Decides-int_eq z (pos 0)).1 same)
  where
    by : (b : Bool) → b ≡ false → b ≡ true → ⊥
    by true f t = absurd (cc)
    by false f t = absurd (cc)

tidy_range : (f : ℕ → ℤ) (a n : ℕ) → IsTidyFrom a (filter (λ (t : Term). not (int_eq t.coef (pos 0))) (map (term_at f) (range_with_len a n)))
tidy_range f a zero = tt
tidy_range f a (suc n) = by (int_eq (f a) (pos 0)) refl (tidy_range f (a + 1) n)
  where
    rest : List Term
    rest = filter (λ (t : Term). not (int_eq t.coef (pos 0))) (map (term_at f) (range_with_len (a + 1) n))

    by : (b : Bool) → int_eq (f a) (pos 0) ≡ b → IsTidyFrom (a + 1) rest → IsTidyFrom a (if not b then term_at f a ∷ rest else rest)
    by true e h = tidy_from a (a + 1) rest (omega arith) h
    by false e h = (omega arith, not_zero (f a) e, tidy_from (suc a) (a + 1) rest (omega arith) h)

rows_tidy : (p : Program) (d : Decomposition) (earlier : List Row) (cuts : List Cut) → All (λ (row : Row). IsTidyFrom 0 row.terms) earlier
    → All (λ (row : Row). IsTidyFrom 0 row.terms) (cut_rows p d earlier cuts)
rows_tidy p d earlier [] h = h
rows_tidy p d earlier (cut ∷ cuts) h =
    rows_tidy p d (earlier ++ cut_row p (proof_rows p d earlier) cut ∷ []) cuts
    (All-push (λ (row : Row). IsTidyFrom 0 row.terms) earlier (cut_row p (proof_rows p d earlier) cut) h (tidy_range (rounded (proof_rows p d earlier) cut) 0 (length p.spans)))

rows_many : (p : Program) (d : Decomposition) (earlier : List Row) (cuts : List Cut) → length (cut_rows p d earlier cuts) ≡ length earlier + length cuts
rows_many p d earlier [] = omega arith
rows_many p d earlier (cut ∷ cuts) =
    omega (arith, rows_many p d (earlier ++ cut_row p (proof_rows p d earlier) cut ∷ []) cuts, length-append earlier (cut_row p (proof_rows p d earlier) cut ∷ []))

pub rows_of_cuts : (p : Program) (d : Decomposition) (cuts : List Cut) → KeepsCuts p d cuts → AreCutRows p (cut_rows p d [] cuts)
rows_of_cuts p d cuts kept = record {
  few = omega (arith, rows_many p d [] cuts, kept.few);
  below = cuts_are_met_lem.closed p d cuts;
  tidy = rows_tidy p d [] cuts (All-nil (λ (row : Row). IsTidyFrom 0 row.terms));
}
