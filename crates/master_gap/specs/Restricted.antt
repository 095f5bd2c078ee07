-- A restricted master: its columns, its rows and how many blocks each class has, and what it may hold.
use Rattle.std.specs.Prelude.{◌≡◌, ℕ, ◌+◌, ◌*◌, ◌^◌, ◌<◌, ◌≤◌, max, List, [], ◌∷◌, ◌++◌, length, ℤ, unsigned_abs, sum_by, ◌==◌, if◌then◌else◌, All, Any}
use Rattle.bp_theory.specs.Limits.{most_columns, number_limit}
use Rattle.std.specs.List.{range_with_len}
use Rattle.bp_theory.specs.declared.MasterRow.{MasterRow}
use Rattle.search_laws.specs.declared.Column.{Column}
use Rattle.search_laws.specs.Master.{column_activity, master_row, class_size, IsKnownColumn}

-- a restricted master
pub record Restricted : Type 0 where
  pub cols : List Column
  pub rows : List MasterRow
  pub counts : List ℕ

-- no columns yet
abbrev pub without_columns : List MasterRow → List ℕ → Restricted
without_columns rows counts = record { cols = []; rows = rows; counts = counts }

-- one column more, at the end
abbrev pub with_column : Restricted → Column → Restricted
with_column m c = record m { cols = m.cols ++ c ∷ [] }

-- the greatest magnitude that a number of a class's columns has
abbrev pub greatest : (Column → ℤ) → List Column → ℕ → ℕ
greatest f [] k = 0
greatest f (c ∷ cols) k = max (if c.class == k then unsigned_abs (f c) else 0) (greatest f cols k)

-- how far a number of columns can add up: the sum over classes of count times greatest magnitude
abbrev pub reach : (Column → ℤ) → Restricted → ℕ
reach f m = sum_by (λ k. class_size m.counts k * greatest f m.cols k) (range_with_len 0 (length m.counts))

-- the greatest count of a class's blocks
abbrev pub most_members : ℕ
most_members = 8192

-- classes and rows of columns are there, rows are few, counts are 1 to 8,192, each class has a column, and
-- neither cost nor the activity of a row with its sides leaves 62 bits
pub record IsModest (m : Restricted) : Type 0 where
  pub known : All (IsKnownColumn (length m.rows) (length m.counts)) m.cols
  pub few : length m.rows ≤ most_columns
  pub sizes : All (λ n. (0 < n) × (n ≤ most_members)) m.counts
  pub each : (k : ℕ) → k < length m.counts → Any (λ (c : Column). c.class ≡ k) m.cols
  pub costs : reach (λ c. c.cost) m < number_limit
  pub activities : (i : ℕ) → i < length m.rows
      → reach (λ c. column_activity c i) m + max (unsigned_abs (master_row m.rows i).low) (unsigned_abs (master_row m.rows i).rhs) < number_limit
