-- The master rows that a text lists, and its first fault.
use Rattle.std.specs.Prelude.{◌≡◌, ℕ, ◌<◌, ◌≤◌, ◌∷◌, [], Bool, if◌then◌else◌, List, map, take, length, Option, None, Some, slice_get, option_and_then}
use Rattle.bp_theory.specs.Limits.{most_bytes}
use Rattle.bp_model.specs.Named.{NamedProgram}
use Rattle.dec_syntax.specs.Cut.{Token, tokens}
use Rattle.dec_syntax.specs.Words.{has_bad_byte}
use Rattle.dec_syntax.specs.Parts.{is_among, number_among}
use Rattle.dec_write.specs.declared.fault.RowsKind.{RowsKind}
use Rattle.dec_write.specs.declared.fault.RowsKind.TheVariants.{BadByte, UnknownRow, RowTwice, Limit}
use Rattle.dec_write.specs.declared.fault.RowsFault.{RowsFault}
use Rattle.dec_write.specs.declared.fault.RowsFault.TheVariants.{At, NoMemory}

-- the words of tokens
abbrev pub words_in : List Token → List (List ℕ)
words_in tokens = map (λ (t : Token). t.bytes) tokens

-- what is wrong with a name behind others: no row has it, or it is listed already
abbrev pub name_fault : (row_names earlier : List (List ℕ)) → (word : List ℕ) → Option RowsKind
name_fault row_names earlier word =
    if is_among row_names word then (if is_among earlier word then Some RowTwice else None) else Some UnknownRow

-- what is wrong with a word behind others: first a byte that isn't a printed character
abbrev pub word_fault : (row_names earlier : List (List ℕ)) → (word : List ℕ) → Option RowsKind
word_fault row_names earlier word = if has_bad_byte word then Some BadByte else name_fault row_names earlier word

-- what is wrong with the token at a place; none where no token is
unfoldable pub fault_at : NamedProgram → List Token → ℕ → Option RowsKind
fault_at m tokens i = option_and_then (λ (t : Token). word_fault m.row_names (words_in (take i tokens)) t.bytes) (slice_get tokens i)

-- the rows, by number, that a text lists: none of its tokens is at fault
pub record ListsRows (text : List ℕ) (m : NamedProgram) (rows : List ℕ) : Type 0 where
  pub short : length text ≤ most_bytes m.program.limits
  pub faultless : (i : ℕ) → fault_at m (tokens text) i ≡ None
  pub meant : rows ≡ map (number_among m.row_names) (words_in (tokens text))

-- the first fault of a text: its length, else its first token at fault
pub data HasRowsFault (text : List ℕ) (m : NamedProgram) (line : ℕ) (kind : RowsKind) : Type 0 where
  too_long : most_bytes m.program.limits < length text → line ≡ 0 → kind ≡ Limit → HasRowsFault text m line kind
  at_token : length text ≤ most_bytes m.program.limits → (i : ℕ) → (token : Token) → slice_get (tokens text) i ≡ Some token
      → fault_at m (tokens text) i ≡ Some kind → ((k : ℕ) → k < i → fault_at m (tokens text) k ≡ None)
      → line ≡ token.line → HasRowsFault text m line kind

-- what an error of reading says
abbrev pub IsRowsFault : List ℕ → NamedProgram → RowsFault → Type 0
IsRowsFault text m (At line kind) = HasRowsFault text m line kind
IsRowsFault text m NoMemory = Unit {0}
