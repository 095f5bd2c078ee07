-- Coefficients by row and by variable, and hulls with one variable more.
use Rattle.std.specs.Prelude.{◌≡◌, ℕ, ◌<◌, ◌^◌, ◌⊎◌, unsigned_abs, List, [], length, slice_index_or, ℤ, pos, ◌+ℤ◌}
use Rattle.bp_theory.specs.Program.{coefficient, span_at}
use Rattle.bp_theory.specs.Bound.{end_cost}
use Rattle.bp_theory.specs.declared.Span.{Span}
use Rattle.bp_theory.specs.declared.Term.{Term}
use Rattle.bp_theory.specs.declared.Row.{Row}
use Rattle.pricing_problem.specs.Ends.{top_cost}
use Rattle.state_graph.specs.Windows.{coef_of, twin_at}

-- the coefficient of each variable in a row's terms
pub record AreCoefs (terms : List Term) (count : ℕ) (coefs : List ℤ) : Type 0 where
  pub each : length coefs ≡ count
  pub coefs_are : (var : ℕ) → coef_of coefs var ≡ coefficient terms var

-- those of each row
pub record AreDense (rows : List Row) (count : ℕ) (dense : List (List ℤ)) : Type 0 where
  pub many : length dense ≡ length rows
  pub each : (row : ℕ) (d : Row) → row < length rows → AreCoefs (slice_index_or rows row d).terms count (slice_index_or dense row [])

-- the coefficients of a variable in each row
pub record IsColumn (dense : List (List ℤ)) (var : ℕ) (column : List ℤ) : Type 0 where
  pub each : length column ≡ length dense
  pub coefs_are : (row : ℕ) → row < length dense → coef_of column row ≡ coef_of (slice_index_or dense row []) var

-- a hull with one variable more in front
abbrev pub hull_with : (hull : Span) (coef : ℤ) (span : Span) → Span
hull_with hull coef span = record { lo = hull.lo +ℤ end_cost span coef; hi = hull.hi +ℤ top_cost span coef }

-- a hull's end is more than 2 to the 62 in magnitude
abbrev pub IsLong : (hull : Span) → Type 0
IsLong hull = (2 ^ 62 < unsigned_abs hull.lo) ⊎ (2 ^ 62 < unsigned_abs hull.hi)

-- the hulls of all rows
pub record AreWidened (hulls : List Span) (column : List ℤ) (span : Span) (wider : List Span) : Type 0 where
  pub each : length wider ≡ length hulls
  pub hulls_are : (row : ℕ) → row < length hulls → span_at wider row ≡ hull_with (span_at hulls row) (coef_of column row) span

-- hulls of rows to which nothing can be added
pub record AreZeros (count : ℕ) (hulls : List Span) : Type 0 where
  pub each : length hulls ≡ count
  pub zeros : (row : ℕ) → row < count → span_at hulls row ≡ record { lo = pos 0; hi = pos 0 }

-- a row has the coefficient of another, and the same twin
pub record IsTwin (twins : List ℕ) (column : List ℤ) (row twin : ℕ) : Type 0 where
  pub there : twin < length twins
  pub coef : coef_of column twin ≡ coef_of column row
  pub same : twin_at twins twin ≡ twin_at twins row

-- the twins of all rows with one variable more
pub record AreRefined (twins : List ℕ) (column : List ℤ) (finer : List ℕ) : Type 0 where
  pub each : length finer ≡ length twins
  pub twins_are : (row : ℕ) → row < length twins → IsTwin twins column row (twin_at finer row)

-- the first row is the twin of each
pub record AreFirst (count : ℕ) (twins : List ℕ) : Type 0 where
  pub each : length twins ≡ count
  pub firsts : (row : ℕ) → row < count → twin_at twins row ≡ 0
