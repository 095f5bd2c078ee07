-- The cut of a text into tokens: its lines, each without its comment, are cut at white space.
use Rattle.std.specs.Prelude.{ℕ, ◌+◌, Bool, true, false, ◌||◌, ◌==◌, if◌then◌else◌, List, [], ◌∷◌, ◌++◌, filter, count_by}

-- space, tab, carriage return and line feed
abbrev pub is_white : ℕ → Bool
is_white b = (b == 32) || ((b == 9) || ((b == 13) || (b == 10)))

abbrev pub is_line_feed : ℕ → Bool
is_line_feed b = b == 10

-- one byte more at the front of the first part
abbrev pub with_front : ℕ → List (List ℕ) → List (List ℕ)
with_front b [] = (b ∷ []) ∷ []
with_front b (part ∷ parts) = (b ∷ part) ∷ parts

-- the parts of a text between the bytes that pass, empty ones too
abbrev pub split : (ℕ → Bool) → List ℕ → List (List ℕ)
split p [] = [] ∷ []
split p (b ∷ bytes) = if p b then [] ∷ split p bytes else with_front b (split p bytes)

-- a line without its comment, which begins with a backslash
abbrev pub without_comment : List ℕ → List ℕ
without_comment [] = []
without_comment (b ∷ bytes) = if b == 92 then [] else b ∷ without_comment bytes

abbrev pub is_filled : List ℕ → Bool
is_filled [] = false
is_filled (b ∷ bytes) = true

-- the words of a line, between its white space
abbrev pub words_of : List ℕ → List (List ℕ)
words_of line = filter is_filled (split is_white (without_comment line))

-- a word of a text with its line, and whether it is the first of its line
pub record Token : Type 0 where
  pub line : ℕ
  pub first : Bool
  pub bytes : List ℕ

abbrev pub token_of : ℕ → Bool → List ℕ → Token
token_of line first word = record { line = line; first = first; bytes = word }

-- the words of a line as tokens, the first of which may be the line's first
abbrev pub line_tokens : ℕ → Bool → List (List ℕ) → List Token
line_tokens line first [] = []
line_tokens line first (word ∷ words) = token_of line first word ∷ line_tokens line false words

-- the tokens of lines from a number on
abbrev pub tokens_from : ℕ → Bool → List (List ℕ) → List Token
tokens_from line first [] = []
tokens_from line first (bytes ∷ lines) = line_tokens line first (words_of bytes) ++ tokens_from (line + 1) true lines

-- the tokens of a text, whose lines count from 1
unfoldable pub tokens : List ℕ → List Token
tokens text = tokens_from 1 true (split is_line_feed text)

-- the line of the text's end
abbrev pub end_line : List ℕ → ℕ
end_line text = 1 + count_by is_line_feed text
