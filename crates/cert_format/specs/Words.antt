-- The words of a certificate's text.
use Rattle.std.specs.Prelude.{ℕ, Bool, true, false, List, [], ◌∷◌, codes, Option, nat_eq, slice_index_or}
use Rattle.cert_format.specs.Text as texts
use Rattle.cert_format.specs.declared.words.Word.{Word}
use Rattle.cert_format.specs.declared.words.Word.TheVariants.{Bpcert, One, Two, Three, LineEnd, Claim, Optimal, Infeasible, Bound, Value, Point, Space, Cut, Leaf, Open, Split, Rows, Change, Priced, All, End}

-- the bytes of a word
abbrev pub word_text : Word → List ℕ
word_text Bpcert = codes "bpcert "
word_text One = codes "1"
word_text Two = codes "2"
word_text Three = codes "3"
word_text LineEnd = 10 ∷ []
word_text Claim = codes "claim "
word_text Optimal = codes "optimal "
word_text Infeasible = codes "infeasible"
word_text Bound = codes "bound "
word_text Value = codes " value "
word_text Point = codes "point"
word_text Space = codes " "
word_text Cut = codes "cut "
word_text Leaf = codes "leaf "
word_text Open = codes "open "
word_text Split = codes "split "
word_text Rows = codes " rows "
word_text Change = codes " change "
word_text Priced = codes " priced "
word_text All = codes "all"
word_text End = codes "end"

-- the token of a word, where a line's end has this fault
abbrev pub word_token : Option texts.Kind → Word → texts.Token
word_token fault LineEnd = texts.LineEnd fault
word_token fault word = texts.Words (word_text word)

-- whether a word begins with a byte
abbrev pub word_begins : Word → ℕ → Bool
word_begins word byte = nat_eq (slice_index_or (word_text word) 0 0) byte

-- whether a word is a line's end
abbrev pub is_line_end : Word → Bool
is_line_end LineEnd = true
is_line_end _ = false

-- the word before a leaf's multipliers
abbrev pub change_word : texts.Version → Word
change_word texts.One = Rows
change_word texts.Two = Change
change_word texts.Three = Change
