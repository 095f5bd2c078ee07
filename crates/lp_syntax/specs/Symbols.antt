-- The tokens as the grammar sees them.
use Rattle.std.specs.Prelude.{ℕ, ◌-◌, ◌^◌, Bool, true, false, ◌&&◌, ◌||◌, nat_le, if◌then◌else◌, List, [], ◌∷◌, None, Some, unwrap_or, slice_range, codes}
use Rattle.bp_theory.specs.Limits.{number_limit}
use Rattle.std.specs.Str.{bytes_eq, str_to_ascii_lowercase}
use Rattle.lp_token.specs.declared.Tok.{Tok}
use Rattle.lp_token.specs.declared.TokKind.{TokKind}
use Rattle.lp_token.specs.declared.TokKind.TheVariants as kinds
use Rattle.lp_token.specs.declared.Section.TheVariants as sections
use Rattle.lp_token.specs.declared.LpKind.TheVariants.{NotWhole, TooLarge, Feature}
use Rattle.lp_token.specs.Word.{entry_of, section_of}
use Rattle.lp_syntax.specs.Number.{is_whole, whole_value}
use Rattle.lp_syntax.specs.Tree.{plus, minus, at_most, at_least, equal, Symbol, word, name, number, infinity, sign, comparison, colon, unfit}

-- the greatest magnitude of a number, and the least that is infinite
abbrev pub greatest : ℕ
greatest = number_limit - 1

abbrev pub infinite_from : ℕ
infinite_from = 10 ^ 20

-- a number token, and whether it stands in a bounds section
unfoldable pub number_symbol : Bool → List ℕ → Symbol
number_symbol in_bounds bytes =
    if is_whole bytes
    then (if nat_le (whole_value bytes) greatest then number (whole_value bytes)
    else (if in_bounds && nat_le infinite_from (whole_value bytes) then infinity
    else unfit TooLarge))
    else unfit NotWhole

-- a name token: in a bounds section `inf` and `infinity` are values
unfoldable pub name_symbol : Bool → List ℕ → Symbol
name_symbol in_bounds bytes =
    let lower = str_to_ascii_lowercase bytes in
    if in_bounds && (bytes_eq lower (codes "inf") || bytes_eq lower (codes "infinity")) then infinity else name bytes

-- the marks that the grammar has a place for
abbrev pub mark_symbols : List (List ℕ × Symbol)
mark_symbols = (codes "<", comparison at_most) ∷ (codes "<=", comparison at_most) ∷ (codes "=<", comparison at_most)
    ∷ (codes ">", comparison at_least) ∷ (codes ">=", comparison at_least) ∷ (codes "=>", comparison at_least)
    ∷ (codes "=", comparison equal) ∷ (codes "+", sign plus) ∷ (codes "-", sign minus) ∷ (codes ":", colon) ∷ []

unfoldable pub mark_symbol : List ℕ → Symbol
mark_symbol bytes = unwrap_or (entry_of mark_symbols bytes) (unfit Feature)

unfoldable pub word_symbol : List ℕ → Symbol
word_symbol bytes = elim (section_of bytes) [ None ↦ unfit Feature | Some section ↦ elim section [ sections.Unsupported ↦ unfit Feature | s ↦ word s ] ]

unfoldable pub symbol_of : Bool → TokKind → List ℕ → Symbol
symbol_of in_bounds kinds.Number bytes = number_symbol in_bounds bytes
symbol_of in_bounds kinds.Name bytes = name_symbol in_bounds bytes
symbol_of in_bounds kinds.Mark bytes = mark_symbol bytes
symbol_of in_bounds kinds.Word bytes = word_symbol bytes

-- whether what follows a symbol stands in a bounds section
abbrev pub stays_in_bounds : Bool → Symbol → Bool
stays_in_bounds in_bounds (word sections.Bounds) = true
stays_in_bounds in_bounds (word _) = false
stays_in_bounds in_bounds _ = in_bounds

abbrev pub symbols_from : Bool → List ℕ → List Tok → List Symbol
symbols_from in_bounds text [] = []
symbols_from in_bounds text (t ∷ tokens) =
    let s = symbol_of in_bounds t.kind (slice_range text t.from t.to) in
    s ∷ symbols_from (stays_in_bounds in_bounds s) text tokens

-- the symbols of a text's tokens
unfoldable pub symbols : List ℕ → List Tok → List Symbol
symbols text tokens = symbols_from false text tokens
