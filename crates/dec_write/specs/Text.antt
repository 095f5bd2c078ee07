-- The text of a decomposition.
use Rattle.std.specs.Prelude.{◌≡◌, ℕ, ◌+◌, ◌<◌, ◌≤◌, ◌==◌, ◌++◌, ◌∷◌, [], Bool, true, false, is_none, if◌then◌else◌, List, map, filter, length, take, Option, None, Some, IsTrue, codes, decimal, slice_index_or}
use Rattle.std.specs.List.{range_with_len, zip, flat_map}
use Rattle.bp_theory.specs.Decomposition.{Decomposition, is_block}
use Rattle.bp_model.specs.Named.{NamedProgram}
use Rattle.lp_token.specs.Cut.{longest_name}
use Rattle.lp_token.specs.Lexeme.{is_name}
use Rattle.dec_write.specs.declared.text.Lines.{Lines}

-- a name of an LP text
pub record IsRowName (name : List ℕ) : Type 0 where
  pub spelled : IsTrue (is_name name)
  pub short : length name ≤ longest_name

-- whether two places are the same: the master, or one block
abbrev pub same_place : Option ℕ → Option ℕ → Bool
same_place None other = is_none other
same_place (Some k) other = is_block k other

-- the names of the rows of a place among rows with their places, in order
abbrev pub names_among : Option ℕ → List (List ℕ × Option ℕ) → List (List ℕ)
names_among place rows = map (λ (e : List ℕ × Option ℕ). e.0) (filter (λ (e : List ℕ × Option ℕ). same_place place e.1) rows)

-- the names of the rows of a place
abbrev pub names_of : NamedProgram → Decomposition → Option ℕ → List (List ℕ)
names_of m d place = names_among place (zip m.row_names d.places)

-- names with a space before each
abbrev pub spaced : List (List ℕ) → List ℕ
spaced names = flat_map (λ (name : List ℕ). 32 ∷ name) names

-- a line of a text: its first word, and the others
pub record Line : Type 0 where
  pub first : List ℕ
  pub words : List (List ℕ)

-- the line of a block, which counts from 1 in texts, and that of the master
abbrev pub block_line : NamedProgram → Decomposition → ℕ → Line
block_line m d k = record { first = codes "BLOCK"; words = decimal (k + 1) ∷ names_of m d (Some k) }

abbrev pub master_line : NamedProgram → Decomposition → Line
master_line m d = record { first = codes "MASTERCONSS"; words = names_of m d None }

-- the lines of a decomposition: the number of blocks, each block with its rows, and the master with its rows
abbrev pub lines_of : NamedProgram → Decomposition → List Line
lines_of m d =
    record { first = codes "NBLOCKS"; words = decimal d.blocks ∷ [] }
    ∷ (map (block_line m d) (range_with_len 0 d.blocks) ++ master_line m d ∷ [])

-- the bytes of a line, which single spaces cut into words
abbrev pub line_bytes : Line → List ℕ
line_bytes line = (line.first ++ spaced line.words) ++ 10 ∷ []

-- the text of a decomposition
unfoldable pub text_of : NamedProgram → Decomposition → List ℕ
text_of m d = flat_map line_bytes (lines_of m d)

-- the front of a block's line, and that of the master's
abbrev pub block_head : ℕ → List ℕ
block_head k = codes "BLOCK " ++ decimal (k + 1)

abbrev pub master_head : List ℕ
master_head = codes "MASTERCONSS"

-- the bytes of a block's line so far
abbrev pub line_at : Lines → ℕ → List ℕ
line_at lines k = slice_index_or (map (λ line. line.items) lines.blocks.items) k []

-- the lines so far, without their ends, of rows with their places
pub record AreLines (blocks : ℕ) (rows : List (List ℕ × Option ℕ)) (lines : Lines) : Type 0 where
  pub each : length lines.blocks.items ≡ blocks
  pub block : (k : ℕ) → k < blocks → line_at lines k ≡ block_head k ++ spaced (names_among (Some k) rows)
  pub master : lines.master.items ≡ master_head ++ spaced (names_among None rows)
