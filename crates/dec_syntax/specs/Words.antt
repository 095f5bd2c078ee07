-- Keywords and numbers.
use Rattle.std.specs.Prelude.{ℕ, ◌+◌, ◌-◌, ◌*◌, Bool, ◌&&◌, ◌||◌, nat_lt, if◌then◌else◌, List, [], ◌∷◌, fold, Option, None, Some, codes}
use Rattle.std.specs.List.{list_all, list_any}
use Rattle.std.specs.Char.{is_ascii_digit}
use Rattle.std.specs.Str.{str_eq_ignore_ascii_case}
use Rattle.dec_syntax.specs.Cut.{is_filled}
use Rattle.dec_syntax.specs.declared.words.Keyword.{Keyword}
use Rattle.dec_syntax.specs.declared.words.Keyword.TheVariants.{Presolved, Nblocks, ConsDefaultMaster, Block, MasterConss, BlockVars, MasterVars, LinkingVars}

-- the nine keywords, of which two mean the same
abbrev pub keywords : List (List ℕ × Keyword)
keywords = (codes "PRESOLVED", Presolved) ∷ (codes "NBLOCKS", Nblocks) ∷ (codes "CONSDEFAULTMASTER", ConsDefaultMaster)
    ∷ (codes "BLOCK", Block) ∷ (codes "BLOCKCONSS", Block) ∷ (codes "MASTERCONSS", MasterConss)
    ∷ (codes "BLOCKVARS", BlockVars) ∷ (codes "MASTERVARS", MasterVars) ∷ (codes "LINKINGVARS", LinkingVars) ∷ []

-- the keyword of a table that a word is in any case of letters
abbrev pub keyword_in : List (List ℕ × Keyword) → List ℕ → Option Keyword
keyword_in [] word = None
keyword_in (entry ∷ table) word = if str_eq_ignore_ascii_case word entry.0 then Some entry.1 else keyword_in table word

-- the keyword that a token is: only the first of its line may be one
unfoldable pub keyword_of : Bool → List ℕ → Option Keyword
keyword_of first word = if first then keyword_in keywords word else None

-- the value of decimal digits
abbrev pub value_of : List ℕ → ℕ
value_of digits = fold (λ value digit. 10 * value + (digit - 48)) 0 digits

-- one or more decimal digits
abbrev pub is_digits : List ℕ → Bool
is_digits word = is_filled word && list_all is_ascii_digit word

-- the number that a word is
abbrev pub number_of : List ℕ → Option ℕ
number_of word = if is_digits word then Some (value_of word) else None

-- no byte of a token: tokens are made of the printed characters of ASCII
abbrev pub is_bad : ℕ → Bool
is_bad b = nat_lt b 33 || nat_lt 126 b

abbrev pub has_bad_byte : List ℕ → Bool
has_bad_byte word = list_any is_bad word
