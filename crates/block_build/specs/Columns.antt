-- Rows by variables: the rows in which each variable stands, with its coefficients, and the blocks of these rows.
use Rattle.std.specs.Prelude.{◌≡◌, ℕ, suc, ◌<◌, ◌==◌, if◌then◌else◌, is_none, List, [], ◌∷◌, ◌++◌, filter, length, Option, Some, None, ℤ, pos, slice_index_or}
use Rattle.bp_theory.specs.declared.Term.{Term}
use Rattle.bp_theory.specs.declared.Row.{Row}

-- the entries of a variable in a row of this number
abbrev pub row_entries : (row v : ℕ) → List Term → List (ℕ × ℤ)
row_entries row v [] = []
row_entries row v (t ∷ ts) = if t.var == v then (row, t.coef) ∷ row_entries row v ts else row_entries row v ts

-- the column of a variable: its entries in rows that are numbered from a first number on
abbrev pub column_from : (first : ℕ) → List Row → (v : ℕ) → List (ℕ × ℤ)
column_from first [] v = []
column_from first (row ∷ rows) v = row_entries first v row.terms ++ column_from (suc first) rows v

-- each column is that of its variable, in rows that are numbered from a first number on
abbrev pub AreColumnsFrom : ℕ → List Row → List (List (ℕ × ℤ)) → Type 0
AreColumnsFrom first rows columns = (v : ℕ) → v < length columns → slice_index_or columns v [] ≡ column_from first rows v

abbrev pub AreColumns : List Row → List (List (ℕ × ℤ)) → Type 0
AreColumns rows columns = AreColumnsFrom 0 rows columns

-- the entries of a column in master rows
abbrev pub master_entries : List (Option ℕ) → List (ℕ × ℤ) → List (ℕ × ℤ)
master_entries places column = filter (λ (e : ℕ × ℤ). is_none (slice_index_or places e.0 None)) column

-- the row of an entry of a column
abbrev pub row_at : List (ℕ × ℤ) → ℕ → ℕ
row_at column i = (slice_index_or column i (0, pos 0)).0

-- an entry of a column is in a row of a block
pub record PlacedAt (places : List (Option ℕ)) (column : List (ℕ × ℤ)) (i block : ℕ) : Type 0 where
  pub there : i < length column
  pub place : slice_index_or places (row_at column i) None ≡ Some block
