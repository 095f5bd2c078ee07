-- The lines of reports on programs in blocks: their sizes, the classes of their blocks, and the rows and variables of each block.
use Rattle.std.specs.Prelude.{ℕ, ◌+◌, ◌==◌, nat_lt, if◌then◌else◌, map, filter, slice_index_or, length, count_by, is_none, List, [], ◌++◌, Option, None, codes, decimal}
use Rattle.std.specs.List.{range_with_len, flat_map}
use Rattle.bp_theory.specs.Blocking.{Copy}
use Rattle.bp_theory.specs.Decomposition.{is_block, link_count}
use Rattle.block_program.specs.Blocked.{BlockedProgram}
use Rattle.search_laws.specs.Spread.{block_at, class_at, class_blocks}
use Rattle.block_class.specs.Classes.{Grouping}
use Rattle.dec_write.specs.Text.{spaced}
use Rattle.report_lines.specs.Lines.{count_line}

-- ---- sizes

-- the line of a class: its number and that of its first block, both from 1, how many blocks it has, and the variables and rows of one block
abbrev pub class_line : (class first size variables rows : ℕ) → List ℕ
class_line class first size variables rows =
    codes "class " ++ decimal (class + 1) ++ codes " first " ++ decimal (first + 1) ++ codes " size " ++ decimal size
    ++ codes " variables " ++ decimal variables ++ codes " rows " ++ decimal rows ++ codes "\n"

-- the line of the link rows, which is there exactly where there are any
abbrev pub links_line : ℕ → List ℕ
links_line links = if links == 0 then [] else count_line (codes "links ") links

-- the lines of the sizes of a program in blocks
abbrev pub size_lines : BlockedProgram → (classes : ℕ) → List ℕ
size_lines b classes =
    count_line (codes "variables ") (length b.named.program.spans) ++ count_line (codes "rows ") (length b.named.program.rows)
    ++ count_line (codes "master ") (count_by is_none b.dec.places) ++ count_line (codes "blocks ") (length b.blocking.blocks)
    ++ links_line (link_count b.named.program b.dec) ++ count_line (codes "classes ") classes

-- the line of a class of blocks
abbrev pub line_of_class : BlockedProgram → Grouping → ℕ → List ℕ
line_of_class b g class =
    let first = class_at g.firsts class in
    let block = block_at b.blocking first in
    class_line class first (class_blocks g.classes class) (length block.copies) (length block.rows)

-- the lines of all classes
abbrev pub class_lines : BlockedProgram → Grouping → List ℕ
class_lines b g = flat_map (line_of_class b g) (range_with_len 0 (length g.firsts))

-- how many classes of blocks have one of the first so many blocks
abbrev pub first_classes : (blocks : ℕ) → Grouping → ℕ
first_classes blocks g = count_by (λ first. nat_lt first blocks) g.firsts

-- the line of a decomposition that was proposed: its blocks, their classes, and the master rows
abbrev pub proposed_line : (blocks classes master : ℕ) → List ℕ
proposed_line blocks classes master =
    codes "proposed blocks " ++ decimal blocks ++ codes " classes " ++ decimal classes ++ codes " master " ++ decimal master ++ codes "\n"

-- ---- the rows and variables of blocks

-- the rows in a block, by their places, in order
abbrev pub rows_of_block : List (Option ℕ) → ℕ → List ℕ
rows_of_block places block = filter (λ row. is_block block (slice_index_or places row None)) (range_with_len 0 (length places))

-- the name of a number
abbrev pub name_of : List (List ℕ) → ℕ → List ℕ
name_of names n = slice_index_or names n []

-- a word with the spaces around it, how many numbers there are, and the names of these, each behind a space
abbrev pub counted_names : (word : List ℕ) → (names : List (List ℕ)) → (numbers : List ℕ) → List ℕ
counted_names word names numbers = word ++ decimal (length numbers) ++ spaced (map (name_of names) numbers)

-- the line of a block: its number, from 1, and its rows and variables, both in order
abbrev pub shown_block : BlockedProgram → ℕ → List ℕ
shown_block b block =
    codes "block " ++ decimal (block + 1)
    ++ counted_names (codes " rows ") b.named.row_names (rows_of_block b.dec.places block)
    ++ counted_names (codes " variables ") b.named.names (map (λ (c : Copy). c.var) (block_at b.blocking block).copies) ++ codes "\n"

-- the lines of the first blocks of all classes
abbrev pub shown_firsts : BlockedProgram → Grouping → List ℕ
shown_firsts b g = flat_map (λ class. shown_block b (class_at g.firsts class)) (range_with_len 0 (length g.firsts))

-- the lines of all blocks
abbrev pub shown_blocks : BlockedProgram → List ℕ
shown_blocks b = flat_map (shown_block b) (range_with_len 0 (length b.blocking.blocks))
