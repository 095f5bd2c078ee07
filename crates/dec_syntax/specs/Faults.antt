-- What is wrong with a token in its place, and with the end of a text.
use Rattle.std.specs.Prelude.{◌==◌, ℕ, Bool, true, false, not, ◌&&◌, nat_le, if◌then◌else◌, List, Option, None, Some, slice_get, option_and_then}
use Rattle.bp_theory.specs.Limits.{most_blocks}
use Rattle.std.specs.List.{list_any}
use Rattle.bp_theory.specs.declared.Limits.{Limits}
use Rattle.bp_model.specs.Named.{NamedProgram}
use Rattle.dec_syntax.specs.Cut.{Token}
use Rattle.dec_syntax.specs.Words.{has_bad_byte}
use Rattle.dec_syntax.specs.Parts.{Part, keyword, number, row, variable, linking, stray, section_behind, has_come, block_count, refuses_unlisted, rows_listed, is_among, is_listed, part_of, parts_before}
use Rattle.dec_syntax.specs.declared.words.Keyword.{Keyword}
use Rattle.dec_syntax.specs.declared.words.Keyword.TheVariants.{Presolved, Nblocks, ConsDefaultMaster, Block, BlockVars}
use Rattle.dec_syntax.specs.declared.words.Section.{Section}
use Rattle.dec_syntax.specs.declared.words.Section.TheVariants.{Awaits}
use Rattle.dec_syntax.specs.declared.kind.DecKind.{DecKind}
use Rattle.dec_syntax.specs.declared.kind.DecKind.TheVariants as kinds

-- whether a number is asked for
abbrev pub awaits_number : Section → Bool
awaits_number (Awaits k) = true
awaits_number _ = false

-- the keywords that come at most once
abbrev pub is_single : Keyword → Bool
is_single Presolved = true
is_single Nblocks = true
is_single ConsDefaultMaster = true
is_single _ = false

-- the keywords that name a block
abbrev pub names_block : Keyword → Bool
names_block Block = true
names_block BlockVars = true
names_block _ = false

-- a keyword in a number's place or come before, or one that names a block before the blocks are counted
abbrev pub keyword_fault : Section → (Keyword → Bool) → Keyword → Option DecKind
keyword_fault section come k =
    if awaits_number section then Some kinds.Syntax
    else (if is_single k && come k then Some kinds.Syntax
    else (if names_block k && not (come Nblocks) then Some kinds.NoNblocks
    else None))

-- a block's number is from 1 to the number of blocks
abbrev pub block_fault : ℕ → ℕ → Option DecKind
block_fault blocks n = if nat_le 1 n && nat_le n blocks then None else Some kinds.BlockNumber

-- what is wrong with a keyword's number under limits
abbrev pub number_fault : Limits → ℕ → Keyword → ℕ → Option DecKind
number_fault limits blocks Presolved n = if n == 0 then None else (if n == 1 then Some kinds.Presolved else Some kinds.Syntax)
number_fault limits blocks Nblocks n = if nat_le n (most_blocks limits) then None else Some kinds.Limit
number_fault limits blocks ConsDefaultMaster n = if nat_le n 1 then None else Some kinds.Syntax
number_fault limits blocks Block n = block_fault blocks n
number_fault limits blocks BlockVars n = block_fault blocks n
number_fault limits blocks _ n = None

-- a row that isn't there, or is listed already
abbrev pub row_fault : List (List ℕ) → List (List ℕ × Option ℕ) → List ℕ → Option DecKind
row_fault names listing name =
    if is_among names name then (if is_listed listing name then Some kinds.RowTwice else None)
    else Some kinds.UnknownRow

-- a variable that isn't there
abbrev pub variable_fault : List (List ℕ) → List ℕ → Option DecKind
variable_fault names name = if is_among names name then None else Some kinds.UnknownVar

-- what is wrong with a part behind others
abbrev pub part_fault : NamedProgram → List Part → Part → Option DecKind
part_fault m earlier (keyword k) = keyword_fault (section_behind earlier) (has_come earlier) k
part_fault m earlier (number k n) = number_fault m.program.limits (block_count earlier) k n
part_fault m earlier (row place name) = row_fault m.row_names (rows_listed earlier) name
part_fault m earlier (variable place name) = variable_fault m.names name
part_fault m earlier (linking name) = variable_fault m.names name
part_fault m earlier stray = Some kinds.Syntax

-- what is wrong with a token behind others
unfoldable pub token_fault : NamedProgram → List Part → Token → Option DecKind
token_fault m earlier token =
    if has_bad_byte token.bytes then Some kinds.BadByte else part_fault m earlier (part_of earlier token)

-- what is wrong with the token at a place; none where no token is
unfoldable pub fault_at : NamedProgram → List Token → ℕ → Option DecKind
fault_at m tokens i = option_and_then (token_fault m (parts_before tokens i)) (slice_get tokens i)

-- whether a row is not listed
abbrev pub lacks_row : List (List ℕ × Option ℕ) → List (List ℕ) → Bool
lacks_row listing names = list_any (λ name. not (is_listed listing name)) names

-- what is wrong with the end of a text: a missing number, no number of blocks, a row that isn't listed
unfoldable pub end_fault : NamedProgram → List Part → Option DecKind
end_fault m all =
    if awaits_number (section_behind all) then Some kinds.Syntax
    else (if not (has_come all Nblocks) then Some kinds.NoNblocks
    else (if refuses_unlisted all && lacks_row (rows_listed all) m.row_names then Some kinds.Unassigned
    else None))
