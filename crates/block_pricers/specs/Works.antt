-- What pricing all blocks keeps and tells.
use Rattle.std.specs.Prelude.{◌≡◌, ◌↔◌, ℕ, ◌<◌, List, [], length, map, ℤ, Option, None, IsTrue, slice_index_or}
use Rattle.bp_theory.specs.Bound.{spans_of}
use Rattle.search_laws.specs.Spread.{block_at}
use Rattle.block_program.specs.Blocked.{BlockedProgram}
use Rattle.knapsack_table.specs.Taken.{IsTaken}
use Rattle.block_pricers.specs.Forms.{BlockForm, form_at}
use Rattle.block_pricers.specs.Pricers.{is_table}
use Rattle.block_pricers.specs.Desks.{form_of, priced_point}
use Rattle.block_pricers.specs.Told.{told_point}
use Rattle.block_pricers.specs.declared.desk.Desk.{Desk}
use Rattle.block_pricers.specs.declared.work.Work.{Work}

-- the number of a block's desk
abbrev pub seat_of : Work → ℕ → ℕ
seat_of work k = slice_index_or work.seats.items k 0

-- what its pricers are made for, block by block
abbrev pub forms_of : Work → List BlockForm
forms_of work = map (form_at (map form_of work.desks.items)) work.seats.items

-- the point that the pricer of a block keeps
abbrev pub priced_at : Work → ℕ → List ℤ
priced_at work k = slice_index_or (map priced_point work.desks.items) (seat_of work k) []

-- the point of a block that it tells
abbrev pub point_at : Work → ℕ → Option (List ℤ)
point_at work k = slice_index_or (map told_point work.told.items) k None

-- it tells no point
abbrev pub IsSilent : Work → Type 0
IsSilent work = (k : ℕ) → point_at work k ≡ None

-- each block of a program has a table exactly where a table takes its rows and its spans at the root
abbrev pub HasTables : BlockedProgram → Work → Type 0
HasTables b work =
    (k : ℕ) (desk : Desk) → k < length b.blocking.blocks
    → IsTrue (is_table (slice_index_or work.desks.items (seat_of work k) desk).pricer)
    ↔ IsTaken (block_at b.blocking k).rows (spans_of b.named.program.spans (block_at b.blocking k))
