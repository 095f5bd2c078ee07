-- What is wrong with a point, first.
use Rattle.std.specs.Prelude.{◌≡◌, ◌≢◌, ℕ, ◌<◌, ◌^◌, unsigned_abs, sum_by, List, length, ℤ, ◌*ℤ◌, All, slice_index_or}
use Rattle.bp_theory.specs.Limits.{number_limit}
use Rattle.bp_theory.specs.Program.{Program, value_at, span_at, IsWithin, IsInside, MeetsRow}
use Rattle.bp_theory.specs.Decomposition.{HasVariablesBelow}
use Rattle.bp_theory.specs.declared.Span.{Span}
use Rattle.bp_theory.specs.declared.Term.{Term}
use Rattle.bp_theory.specs.declared.Row as rows
use Rattle.bp_model.specs.declared.points.Miss.{Miss}
use Rattle.bp_model.specs.declared.points.Miss.TheVariants.{Length, Bound, Row}

-- the first variable whose number lies outside its span
pub record IsFirstOutside (spans : List Span) (x : List ℤ) (v : ℕ) : Type 0 where
  pub there : v < length spans
  pub outside : IsWithin (span_at spans v) (value_at x v) → ⊥
  pub first : (k : ℕ) → k < v → IsWithin (span_at spans k) (value_at x k)

-- the first row that a point doesn't meet
pub record IsFirstMissed (all : List rows.Row) (x : List ℤ) (row : ℕ) : Type 0 where
  pub there : row < length all
  pub missed : (d : rows.Row) → MeetsRow x (slice_index_or all row d) → ⊥
  pub first : (k : ℕ) (d : rows.Row) → k < row → MeetsRow x (slice_index_or all k d)

-- the first that is wrong with a point: its length, else a variable out of its span, else a missed row
abbrev pub IsFirstMiss : Program → List ℤ → Miss → Type 0
IsFirstMiss p x Length = length x ≢ length p.spans
IsFirstMiss p x (Bound v) = (length x ≡ length p.spans) × IsFirstOutside p.spans x v
IsFirstMiss p x (Row row) = IsInside p.spans x × IsFirstMissed p.rows x row

-- terms name numbers of a point, and their sum there has fewer than 63 bits
pub record CanSum (x : List ℤ) (terms : List Term) : Type 0 where
  pub below : HasVariablesBelow (length x) terms
  pub small : sum_by (λ t. unsigned_abs (t.coef *ℤ value_at x t.var)) terms < number_limit
