-- What pricers are made for: the rows and root spans of blocks.
use Rattle.std.specs.Prelude.{ℕ, List, [], length, map, slice_index_or}
use Rattle.bp_theory.specs.Blocking.{Block}
use Rattle.bp_theory.specs.Bound.{spans_of}
use Rattle.bp_theory.specs.declared.Span.{Span}
use Rattle.bp_theory.specs.declared.Row.{Row}
use Rattle.block_program.specs.Blocked.{RootBlock, BlockedProgram}

-- the rows of a block and its spans at the root
pub record BlockForm : Type 0 where
  pub rows : List Row
  pub spans : List Span

-- that of no block
abbrev pub no_form : BlockForm
no_form = record { rows = []; spans = [] }

-- the one at a place of a list
abbrev pub form_at : List BlockForm → ℕ → BlockForm
form_at forms k = slice_index_or forms k no_form

-- for how many variables it is
abbrev pub span_count : BlockForm → ℕ
span_count form = length form.spans

-- that of a block
abbrev pub form_in : RootBlock → BlockForm
form_in block = record { rows = block.block.rows; spans = block.spans }

-- that of a block of a program with these spans
abbrev pub form_with : List Span → Block → BlockForm
form_with spans block = record { rows = block.rows; spans = spans_of spans block }

-- those of all blocks of a program in blocks
abbrev pub forms_in : BlockedProgram → List BlockForm
forms_in b = map (form_with b.named.program.spans) b.blocking.blocks
