-- What a reader keeps of the tokens that it has taken.
use Rattle.std.specs.Prelude.{◌≡◌, ℕ, ◌<◌, ◌≤◌, ◌==◌, Bool, true, false, List, ◌∷◌, map, drop, length, Option, None, Some, Result, Ok, Err}
use Rattle.bp_theory.specs.Limits.{most_blocks}
use Rattle.std.specs.declared.alloc.AllocError.{AllocError}
use Rattle.bp_model.specs.Named.{NamedProgram}
use Rattle.dec_syntax.specs.Cut.{Token, tokens}
use Rattle.dec_syntax.specs.Parts.{Part, section_behind, has_come, block_count, refuses_unlisted, rows_listed, vars_listed, is_listed, place_in, part_of, parts_before, opened, numbered}
use Rattle.dec_syntax.specs.Faults.{token_fault, fault_at}
use Rattle.dec_syntax.specs.declared.words.Keyword.{Keyword}
use Rattle.dec_syntax.specs.declared.words.Keyword.TheVariants.{Presolved, Nblocks, ConsDefaultMaster}
use Rattle.dec_syntax.specs.declared.kind.DecKind.{DecKind}
use Rattle.dec_syntax.specs.declared.state.Reader.{Reader}
use Rattle.dec_syntax.specs.declared.state.Listing.{Listing}

-- a listing has, for each row name, whether it is listed and its place
pub record Lists (names : List (List ℕ)) (rows : Listing) (listing : List (List ℕ × Option ℕ)) : Type 0 where
  pub places : rows.places.items ≡ map (place_in listing) names
  pub seen : rows.seen.items ≡ map (is_listed listing) names

-- whether a keyword that comes at most once has come
abbrev pub came_in : Reader → Keyword → Bool
came_in reader Presolved = reader.presolved
came_in reader Nblocks = reader.counted
came_in reader ConsDefaultMaster = reader.defaulted
came_in reader _ = false

-- a reader after a keyword
abbrev pub noted : Reader → Keyword → Reader
noted reader Presolved = record reader { section = opened Presolved; presolved = true }
noted reader Nblocks = record reader { section = opened Nblocks; counted = true }
noted reader ConsDefaultMaster = record reader { section = opened ConsDefaultMaster; defaulted = true }
noted reader k = record reader { section = opened k }

-- a reader after a keyword's number
abbrev pub with_number : Reader → Keyword → ℕ → Reader
with_number reader Nblocks n = record reader { section = numbered Nblocks n; blocks = n }
with_number reader ConsDefaultMaster n = record reader { section = numbered ConsDefaultMaster n; strict = n == 0 }
with_number reader k n = record reader { section = numbered k n }

-- a reader has kept what parts say
pub record Keeps (m : NamedProgram) (reader : Reader) (earlier : List Part) : Type 0 where
  pub section : reader.section ≡ section_behind earlier
  pub presolved : reader.presolved ≡ has_come earlier Presolved
  pub counted : reader.counted ≡ has_come earlier Nblocks
  pub defaulted : reader.defaulted ≡ has_come earlier ConsDefaultMaster
  pub blocks : reader.blocks ≡ block_count earlier
  pub few : reader.blocks ≤ most_blocks m.program.limits
  pub strict : reader.strict ≡ refuses_unlisted earlier
  pub limits : reader.limits ≡ m.program.limits
  pub rows : Lists m.row_names reader.rows (rows_listed earlier)
  pub listed : reader.listed.items ≡ vars_listed m.names earlier

-- a listing has a place for each name
pub record HasRoom (names : List (List ℕ)) (rows : Listing) : Type 0 where
  pub places : length rows.places.items ≡ length names
  pub seen : length rows.seen.items ≡ length names

-- a token taken without fault is kept, and else its fault is told
abbrev pub Takes : NamedProgram → Reader → List Part → Token → Result (Option DecKind) AllocError → Type 0
Takes m reader earlier token (Ok None) = (token_fault m earlier token ≡ None) × Keeps m reader (part_of earlier token ∷ earlier)
Takes m reader earlier token (Ok (Some kind)) = token_fault m earlier token ≡ Some kind
Takes m reader earlier token (Err e) = Unit {0}

-- the tokens before a place of a text are without fault, and these are left
pub record HasRead (text : List ℕ) (m : NamedProgram) (left : List Token) (earlier : List Part) : Type 0 where
  pub place : ℕ
  pub left_is : left ≡ drop place (tokens text)
  pub earlier_is : earlier ≡ parts_before (tokens text) place
  pub faultless : (k : ℕ) → k < place → fault_at m (tokens text) k ≡ None

-- a reader stands in a text before these tokens
pub record StandsBefore (text : List ℕ) (m : NamedProgram) (reader : Reader) (left : List Token) : Type 0 where
  pub earlier : List Part
  pub has_read : HasRead text m left earlier
  pub keeps : Keeps m reader earlier
