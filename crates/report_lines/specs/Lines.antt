-- Lines of reports: words with single spaces between, each line ended by one line feed.
use Rattle.std.specs.Prelude.{ℕ, ℤ, List, ◌++◌, codes, decimal}
use Rattle.std.specs.Fmt.{signed_decimal}

-- a line of a word, with the space behind it, and a number
abbrev pub count_line : List ℕ → ℕ → List ℕ
count_line word n = word ++ decimal n ++ codes "\n"

-- a line of a word, with the space behind it, and a number that may be negative
abbrev pub value_line : List ℕ → ℤ → List ℕ
value_line word v = word ++ signed_decimal v ++ codes "\n"

-- a line of words, with the space behind them, the number of a line and a kind of fault there
abbrev pub fault_line : (words : List ℕ) (line : ℕ) (kind : List ℕ) → List ℕ
fault_line words line kind = words ++ decimal line ++ codes " " ++ kind ++ codes "\n"
