-- The blocks that a table takes.
use Rattle.std.specs.Prelude.{◌≡◌, ℕ, ◌+◌, ◌*◌, ◌≤◌, unsigned_abs, sum_by, List, [], ◌∷◌, length, map, ℤ}
use Rattle.std.specs.Int.{int_gap}
use Rattle.std.specs.List.{range_with_len}
use Rattle.bp_theory.specs.Limits.{most_cells}
use Rattle.bp_theory.specs.Program.{span_at, coefficient}
use Rattle.bp_theory.specs.declared.Span.{Span}
use Rattle.bp_theory.specs.declared.Term.{Term}
use Rattle.bp_theory.specs.declared.Row.{Row}

-- how far a term's product can move within a span
abbrev pub term_reach : List Span → Term → ℕ
term_reach spans t = unsigned_abs t.coef * int_gap (span_at spans t.var).lo (span_at spans t.var).hi

-- how far a row's sum can move within its spans
abbrev pub row_reach : List Span → List Term → ℕ
row_reach spans terms = sum_by (term_reach spans) terms

-- the terms of the first row
abbrev pub first_terms : List Row → List Term
first_terms [] = []
first_terms (row ∷ rows) = row.terms

-- one row, and a table of no more cells than a table may have
pub record IsTaken (rows : List Row) (spans : List Span) : Type 0 where
  pub one : length rows ≡ 1
  pub small : (length spans + 1) * (row_reach spans (first_terms rows) + 1) ≤ most_cells

-- the coefficients of each variable
abbrev pub dense : List Term → ℕ → List ℤ
dense terms n = map (coefficient terms) (range_with_len 0 n)
