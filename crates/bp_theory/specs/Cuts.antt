-- Rounding cuts: rows that follow from others for whole numbers.
use Rattle.std.specs.Prelude.{ℕ, ◌<◌, not, List, [], ◌∷◌, ◌++◌, map, filter, length, ℤ, pos, ◌+ℤ◌, ◌-ℤ◌, ◌*ℤ◌, slice_index_or, All}
use Rattle.std.specs.List.{range_with_len}
use Rattle.std.specs.Ordering.{int_eq}
use Rattle.bp_theory.specs.Sums.{sum_of, round_up}
use Rattle.bp_theory.specs.Program.{Program, coefficient, span_at}
use Rattle.bp_theory.specs.Blocking.{sides_of}
use Rattle.bp_theory.specs.Decomposition.{Decomposition, ProofRow, whole_row, link_row, no_row, proof_rows}
use Rattle.bp_theory.specs.Bound.{side, SignFitsSense}
use Rattle.bp_theory.specs.declared.Term.{Term}
use Rattle.bp_theory.specs.declared.Sense.TheVariants.{Ge}
use Rattle.bp_theory.specs.declared.Row.{Row}
use Rattle.bp_theory.specs.declared.Cut.{Cut}

-- the coefficient of a variable in a row that cuts combine
abbrev pub row_coefficient : ProofRow → ℕ → ℤ
row_coefficient (whole_row row) v = coefficient row.terms v
row_coefficient (link_row w k) v = pos 0
row_coefficient no_row v = pos 0

-- the side of a row that cuts combine, for a multiplier
abbrev pub row_side : ProofRow → ℤ → ℤ
row_side (whole_row row) u = side (sides_of row) u
row_side (link_row w k) u = pos 0
row_side no_row u = pos 0

-- a cut combines master rows and earlier cuts alone, by multipliers whose signs fit
abbrev pub CombinesWell : ProofRow → ℤ → Type 0
CombinesWell (whole_row row) u = SignFitsSense row.sense u
CombinesWell (link_row w k) u = ⊥
CombinesWell no_row u = ⊥

-- a cut over rows that proofs may name
pub record IsFitting (rows : List ProofRow) (cut : Cut) : Type 0 where
  pub divides : 0 < cut.q
  pub combines : All (λ m. CombinesWell (slice_index_or rows m.0 no_row) m.1) cut.rows

-- the coefficient of a variable in the sum of the rows, each times its multiplier
abbrev pub combined : List ProofRow → Cut → ℕ → ℤ
combined rows cut v = sum_of (λ m. m.1 *ℤ row_coefficient (slice_index_or rows m.0 no_row) v) cut.rows

-- the sum of the rows' sides, each times its multiplier
abbrev pub combined_side : List ProofRow → Cut → ℤ
combined_side rows cut = sum_of (λ m. m.1 *ℤ row_side (slice_index_or rows m.0 no_row) m.1) cut.rows

-- a weighted sum of the lower ends of the variables' spans
abbrev pub at_lower_ends : Program → (ℕ → ℤ) → ℤ
at_lower_ends p f = sum_of (λ v. f v *ℤ (span_at p.spans v).lo) (range_with_len 0 (length p.spans))

-- the coefficient of a variable in a cut's row
abbrev pub rounded : List ProofRow → Cut → ℕ → ℤ
rounded rows cut v = round_up (combined rows cut v) cut.q

-- the lower side of a cut's row
abbrev pub cut_low : Program → List ProofRow → Cut → ℤ
cut_low p rows cut =
    round_up (combined_side rows cut -ℤ at_lower_ends p (combined rows cut)) cut.q +ℤ at_lower_ends p (rounded rows cut)

-- a variable with its coefficient
abbrev pub term_at : (ℕ → ℤ) → ℕ → Term
term_at f v = record { var = v; coef = f v }

-- the terms of these coefficients, in order of variables and without zeros
abbrev pub terms_of : Program → (ℕ → ℤ) → List Term
terms_of p f = filter (λ t. not (int_eq t.coef (pos 0))) (map (term_at f) (range_with_len 0 (length p.spans)))

-- the row of a cut: rounded coefficients, at least the rounded side
abbrev pub cut_row : Program → List ProofRow → Cut → Row
cut_row p rows cut = record { sense = Ge; low = cut_low p rows cut; rhs = cut_low p rows cut; terms = terms_of p (rounded rows cut) }

-- the rows of cuts behind earlier ones, each over the rows of proofs before it
abbrev pub cut_rows : Program → Decomposition → List Row → List Cut → List Row
cut_rows p d earlier [] = earlier
cut_rows p d earlier (cut ∷ cuts) = cut_rows p d (earlier ++ cut_row p (proof_rows p d earlier) cut ∷ []) cuts

-- each cut fits the rows of proofs before it
abbrev pub AreFitting : Program → Decomposition → List Row → List Cut → Type 0
AreFitting p d earlier [] = Unit {0}
AreFitting p d earlier (cut ∷ cuts) =
    IsFitting (proof_rows p d earlier) cut × AreFitting p d (earlier ++ cut_row p (proof_rows p d earlier) cut ∷ []) cuts
