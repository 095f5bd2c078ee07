-- What the steps of the cut tell.
use Rattle.std.specs.Prelude.{◌≡◌, ℕ, ◌+◌, ◌-◌, ◌<◌, ◌≤◌, ◌^◌, Bool, true, false, not, ◌||◌, ◌==◌, if◌then◌else◌, List, [], ◌∷◌, drop, length, slice_range}
use Rattle.dec_syntax.specs.Cut.{Token, token_of, tokens_from, split, is_line_feed, is_white}
use Rattle.dec_syntax.specs.declared.cut.Blank.{Blank}
use Rattle.dec_syntax.specs.declared.cut.Cursor.{Cursor}
use Rattle.dec_syntax.specs.declared.cut.Word.{Word}

-- the bytes of words
abbrev pub is_word_byte : ℕ → Bool
is_word_byte b = not (is_white b || (b == 92))

-- whether a text begins with a byte that passes
abbrev pub begins : (ℕ → Bool) → List ℕ → Bool
begins p [] = false
begins p (b ∷ bytes) = p b

-- the lines behind the first
abbrev pub later_lines : List (List ℕ) → List (List ℕ)
later_lines [] = []
later_lines (line ∷ lines) = lines

-- the tokens of what is left of a text, in a comment or not
unfoldable pub tokens_left : Blank → List ℕ → List Token
tokens_left blank bytes =
    if blank.comment then tokens_from (blank.line + 1) true (later_lines (split is_line_feed bytes))
    else tokens_from blank.line blank.first (split is_line_feed bytes)

-- the tokens of a text from a cursor on
unfoldable pub tokens_at : List ℕ → Cursor → List Token
tokens_at text cursor = tokens_from cursor.line cursor.first (split is_line_feed (drop cursor.at text))

-- the token that a word is
abbrev pub token_in : List ℕ → Word → Token
token_in text word = token_of word.line word.first (slice_range text word.from word.to)

-- a cursor stands within a text, and its lines can be counted
pub record StandsIn (text : List ℕ) (cursor : Cursor) : Type 0 where
  pub inside : cursor.at ≤ length text
  pub countable : cursor.line + (length text - cursor.at) < 2 ^ 32

-- a word and the cursor behind it, from a cursor on
pub record IsNext (text : List ℕ) (from : Cursor) (word : Word) (next : Cursor) : Type 0 where
  pub word_inside : word.to ≤ length text
  pub word_ordered : word.from ≤ word.to
  pub onward : from.at < next.at
  pub stands : StandsIn text next
  pub tokens : tokens_at text from ≡ token_in text word ∷ tokens_at text next
