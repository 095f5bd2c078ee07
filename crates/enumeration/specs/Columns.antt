-- Rows by variables: the terms of each variable with the numbers of their rows.
use Rattle.std.specs.Prelude.{◌≡◌, ◌<◌, length, slice_index_or, ℕ, suc, ◌==◌, if◌then◌else◌, List, [], ◌∷◌, ◌++◌}
use Rattle.bp_theory.specs.declared.Term.{Term}
use Rattle.bp_theory.specs.declared.Row.{Row}
use Rattle.enumeration.specs.declared.columns.Entry.{Entry}

-- a term of a row as an entry
abbrev pub entry_of : ℕ → Term → Entry
entry_of row t = record { row = row; coef = t.coef }

-- the entries of a variable in a row of this number
abbrev pub row_entries : (row var : ℕ) → List Term → List Entry
row_entries row var [] = []
row_entries row var (t ∷ ts) = if t.var == var then entry_of row t ∷ row_entries row var ts else row_entries row var ts

-- the column of a variable: its entries in rows that are numbered from a first number on
abbrev pub column_from : (first : ℕ) → List Row → (var : ℕ) → List Entry
column_from first [] var = []
column_from first (row ∷ rows) var = row_entries first var row.terms ++ column_from (suc first) rows var

-- each column is that of its variable
abbrev pub AreColumns : List Row → List (List Entry) → Type 0
AreColumns rows columns = (j : ℕ) → j < length columns → slice_index_or columns j [] ≡ column_from 0 rows j
