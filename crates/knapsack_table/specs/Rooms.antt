-- The sizes of what pricing by a table keeps.
use Rattle.std.specs.Prelude.{◌≡◌, ℕ, ◌+◌, ◌*◌, min, List, [], ◌∷◌, length, vec_len, ℤ}
use Rattle.std.specs.Int.{int_gap}
use Rattle.bp_theory.specs.Bound.{box_least}
use Rattle.bp_theory.specs.declared.Sense.{Sense}
use Rattle.bp_theory.specs.declared.Sense.TheVariants.{Le, Ge, Eq, In}
use Rattle.bp_theory.specs.declared.Row.{Row}
use Rattle.bp_theory.specs.declared.Span.{Span}
use Rattle.knapsack_table.specs.Taken.{dense, first_terms, row_reach}
use Rattle.knapsack_table.specs.declared.cells.Cells.{Cells}
use Rattle.knapsack_table.specs.declared.form.Form.{Form}
use Rattle.knapsack_table.specs.declared.form.Table.{Table}

-- the greatest weight up to a reach that an upper side leaves above a base
abbrev pub room_for : Sense → (rhs base : ℤ) → (reach : ℕ) → ℕ
room_for Le rhs base reach = min reach (int_gap base rhs)
room_for Ge rhs base reach = reach
room_for Eq rhs base reach = min reach (int_gap base rhs)
room_for In rhs base reach = min reach (int_gap base rhs)

-- that of the first row
abbrev pub room_of : List Row → (base : ℤ) → (reach : ℕ) → ℕ
room_of [] base reach = reach
room_of (row ∷ rows) base reach = room_for row.sense row.rhs base reach

-- the greatest weight of a table at the root
abbrev pub form_room : Form → ℕ
form_room form = room_of form.rows.items (box_least form.spans.items form.coefs.items) (row_reach form.spans.items (first_terms form.rows.items))

-- how many cells a table of these rows and root spans has: a row for each variable and one more
abbrev pub cells_of : List Row → List Span → ℕ
cells_of rows spans =
    (length spans + 1) * (room_of rows (box_least spans (dense (first_terms rows) (length spans))) (row_reach spans (first_terms rows)) + 1)

-- how many cells there are
abbrev pub count_of : Cells → ℕ
count_of cells = vec_len cells.long

-- a table has a place for each variable
pub record HasRoom (form : Form) (table : Table) : Type 0 where
  pub items : length table.items.items ≡ length form.spans.items
  pub point : length table.point.items ≡ length form.spans.items
