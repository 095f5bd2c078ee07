-- Orders of a block's variables, and what rows, spans, costs and points are in them.
use Rattle.std.specs.Prelude.{◌≡◌, ℕ, ◌<◌, sum_by, List, map, length, slice_index_or, ℤ, All}
use Rattle.std.specs.List.{range_with_len}
use Rattle.bp_theory.specs.Program.{value_at, span_at}
use Rattle.bp_theory.specs.declared.Span.{Span}
use Rattle.bp_theory.specs.declared.Term.{Term}
use Rattle.bp_theory.specs.declared.Row.{Row}

-- the number at a place
abbrev pub number_at : List ℕ → ℕ → ℕ
number_at numbers k = slice_index_or numbers k 0

-- each variable below a count stands in an order once, at its place
pub record IsOrder (count : ℕ) (vars places : List ℕ) : Type 0 where
  pub each : length vars ≡ count
  pub each_place : length places ≡ count
  pub below : All (λ v. v < count) vars
  pub placed : All (λ k. k < count) places
  pub onto : (v : ℕ) → v < count → number_at vars (number_at places v) ≡ v
  pub back : (k : ℕ) → k < count → number_at places (number_at vars k) ≡ k
  pub sums : (f : ℕ → ℕ) → sum_by f vars ≡ sum_by f (range_with_len 0 count)

-- spans by an order of their variables
abbrev pub spans_by : (vars : List ℕ) → List Span → List Span
spans_by vars spans = map (span_at spans) vars

-- numbers by an order of their variables: costs, and those of a point
abbrev pub numbers_by : (vars : List ℕ) → List ℤ → List ℤ
numbers_by vars xs = map (value_at xs) vars

-- a term with the place of its variable in the variable's stead
abbrev pub term_by : (places : List ℕ) → Term → Term
term_by places t = record { var = slice_index_or places t.var t.var; coef = t.coef }

-- a row of such terms
abbrev pub row_by : (places : List ℕ) → Row → Row
row_by places row = record { sense = row.sense; low = row.low; rhs = row.rhs; terms = map (term_by places) row.terms }

-- such rows
abbrev pub rows_by : (places : List ℕ) → List Row → List Row
rows_by places rows = map (row_by places) rows
