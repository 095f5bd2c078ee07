-- Windows of sums, and what a number of a variable leaves of them.
use Rattle.std.specs.Prelude.{◌≡◌, ℕ, ◌<◌, ◌⊎◌, List, [], ◌∷◌, ◌++◌, length, slice_index_or, ℤ, pos, ◌-ℤ◌, ◌*ℤ◌, ◌<ℤ◌}
use Rattle.std.specs.Int.{int_min, int_max}
use Rattle.bp_theory.specs.Program.{span_at, IsWithin}
use Rattle.bp_theory.specs.declared.Span.{Span}

-- what a window leaves after a sum was added, clipped to a hull
abbrev pub clip : (window : Span) (added : ℤ) (hull : Span) → Span
clip window added hull = record { lo = int_max (window.lo -ℤ added) hull.lo; hi = int_min (window.hi -ℤ added) hull.hi }

-- a window with no sum
abbrev pub IsEmpty : Span → Type 0
IsEmpty window = window.hi <ℤ window.lo

-- each window has a sum
abbrev pub AreFilled : List Span → Type 0
AreFilled state = (row : ℕ) → row < length state → IsEmpty (span_at state row) → ⊥

-- a coefficient of a column
abbrev pub coef_of : List ℤ → ℕ → ℤ
coef_of column row = slice_index_or column row (pos 0)

-- what the window of a row leaves after a number of the variable with this column
abbrev pub left_of : (column : List ℤ) (hulls state : List Span) (number : ℤ) (row : ℕ) → Span
left_of column hulls state number row = clip (span_at state row) (coef_of column row *ℤ number) (span_at hulls row)

-- a state after a number of the variable with this column: each row's window as it is left
pub record IsMoved (column : List ℤ) (hulls state : List Span) (number : ℤ) (moved : List Span) : Type 0 where
  pub each : length moved ≡ length state
  pub windows : (row : ℕ) → row < length state → span_at moved row ≡ left_of column hulls state number row

-- after the number a row has nothing left
pub record IsLost (column : List ℤ) (hulls state : List Span) (number : ℤ) : Type 0 where
  pub row : ℕ
  pub there : row < length state
  pub empty : IsEmpty (left_of column hulls state number row)

-- a state has this number in a list
pub record IsFound (states : List (List Span)) (state : List Span) (k : ℕ) : Type 0 where
  pub there : k < length states
  pub same : slice_index_or states k [] ≡ state

-- a list is kept as it was, or has a state more at its end
abbrev pub IsGrown : (before : List (List Span)) (state : List Span) (now : List (List Span)) → Type 0
IsGrown before state now = (now ≡ before) ⊎ (now ≡ before ++ (state ∷ []))

-- the row whose sums are those of a row
abbrev pub twin_at : List ℕ → ℕ → ℕ
twin_at twins row = slice_index_or twins row 0

-- each row's sum is that of its twin
abbrev pub AreAlike : (twins : List ℕ) (sums : ℕ → ℤ) → Type 0
AreAlike twins sums = (row : ℕ) → row < length twins → sums (twin_at twins row) ≡ sums row

-- sums lie in the windows of a state
abbrev pub Holds : (state : List Span) (sums : ℕ → ℤ) → Type 0
Holds state sums = (row : ℕ) → row < length state → IsWithin (span_at state row) (sums row)

-- after windows of twins were joined, the same sums lie in them, of those that are alike
pub record IsJoined (twins : List ℕ) (state joined : List Span) : Type 0 where
  pub each : length joined ≡ length state
  pub onto : (sums : ℕ → ℤ) → AreAlike twins sums → Holds state sums → Holds joined sums
  pub back : (sums : ℕ → ℤ) → AreAlike twins sums → Holds joined sums → Holds state sums

-- no sums that are alike lie in the windows
abbrev pub IsVoid : (twins : List ℕ) (state : List Span) → Type 0
IsVoid twins state = (sums : ℕ → ℤ) → AreAlike twins sums → Holds state sums → ⊥

-- the numbers of two windows
abbrev pub both : (a b : Span) → Span
both a b = record { lo = int_max a.lo b.lo; hi = int_min a.hi b.hi }
