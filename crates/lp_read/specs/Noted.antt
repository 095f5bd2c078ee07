-- What is noted of the tokens that are read, by what they name and count as.
use Rattle.std.specs.Prelude.{◌≡◌, ◌⊎◌, ℕ, ◌+◌, ◌≤◌, Bool, true, false, ◌||◌, nat_lt, if◌then◌else◌, List, [], ◌∷◌, ◌++◌, map, length, Option, None, Some, decimal}
use Rattle.bp_theory.specs.declared.Limits.{Limits}
use Rattle.bp_theory.specs.Limits.{most_rows, most_terms, most_variables}
use Rattle.lp_token.specs.declared.LpKind.TheVariants.{RowTwice, Limit}
use Rattle.lp_read.specs.declared.notes.Notes.{Notes}
use Rattle.lp_read.specs.declared.notes.Seen as symbols
use Rattle.lp_read.specs.declared.notes.ParseFault.{ParseFault}
use Rattle.lp_read.specs.declared.notes.ParseFault.TheVariants.{At, NoEnd, NoMemory}
use Rattle.lp_syntax.specs.Tree.{Name}
use Rattle.lp_syntax.specs.TreeIn.{symbol_in, next_in}
use Rattle.lp_syntax.specs.Roles.{Seen, variable_of, counts_as_term, row_of, variables, row_names, term_count}
use Rattle.lp_semantics.specs.Meaning.{has_name}
use Rattle.lp_semantics.specs.Reading.{place_of, row_places}

-- a symbol of the text in its site, with the one behind it
abbrev pub seen_in : List ℕ → symbols.Seen → Seen
seen_in text seen = record { site = seen.site; symbol = symbol_in text seen.symbol; next = next_in text seen.next }

-- names with one more, if it is new, and the tokens where they first stand
abbrev pub with_name : List Name → Name → List Name
with_name names n = if has_name names n then names else names ++ n ∷ []

abbrev pub with_token : List Name → List ℕ → Name → ℕ → List ℕ
with_token names places n at = if has_name names n then places else places ++ at ∷ []

-- variables with that of one more token, and where they first stand
abbrev pub names_with : List Name → Option Name → List Name
names_with names None = names
names_with names (Some n) = with_name names n

abbrev pub tokens_with : List Name → List ℕ → ℕ → Option Name → List ℕ
tokens_with names places at None = places
tokens_with names places at (Some n) = with_token names places n at

-- the name of the k-th row
abbrev pub row_name : ℕ → Option Name → Name
row_name k None = 99 ∷ decimal k
row_name k (Some n) = n

-- the names of rows with that of one more, and the first tokens of rows
abbrev pub rows_with : List Name → Option (Option Name) → List Name
rows_with rows None = rows
rows_with rows (Some label) = rows ++ row_name (length rows + 1) label ∷ []

abbrev pub row_tokens_with : List ℕ → ℕ → Option (Option Name) → List ℕ
row_tokens_with places at None = places
row_tokens_with places at (Some label) = places ++ at ∷ []

-- whether a row begins whose name an earlier one has
abbrev pub is_repeated : List Name → Option (Option Name) → Bool
is_repeated rows None = false
is_repeated rows (Some label) = has_name rows (row_name (length rows + 1) label)

abbrev pub terms_with : ℕ → Bool → ℕ
terms_with terms true = terms + 1
terms_with terms false = terms

-- what is noted with the rows, the variables and the terms of one token more
abbrev pub with_rows : Notes → ℕ → Seen → Notes
with_rows r at t = record r { row_names = rows_with r.row_names (row_of t.site t.symbol t.next); row_tokens = row_tokens_with r.row_tokens at (row_of t.site t.symbol t.next) }

abbrev pub with_variables : Notes → ℕ → Seen → Notes
with_variables r at t = record r { names = names_with r.names (variable_of t.site t.symbol t.next); first_tokens = tokens_with r.names r.first_tokens at (variable_of t.site t.symbol t.next) }

abbrev pub noted : Notes → ℕ → Seen → Notes
noted r at t = record (with_variables (with_rows r at t) at t) { terms = terms_with r.terms (counts_as_term t.site t.symbol t.next) }

abbrev pub is_repeated_in : Notes → Seen → Bool
is_repeated_in r t = is_repeated r.row_names (row_of t.site t.symbol t.next)

-- whether there is a variable, a row or a term too many
abbrev pub are_too_many : Notes → Bool
are_too_many r = nat_lt (most_variables r.limits) (length r.names) || (nat_lt (most_rows r.limits) (length r.row_names) || nat_lt (most_terms r.limits) r.terms)

-- there are as many as may be, at most
abbrev pub HaveRoom : Notes → Type 0
HaveRoom r = (length r.names ≤ most_variables r.limits) × (length r.row_names ≤ most_rows r.limits) × (r.terms ≤ most_terms r.limits)

abbrev pub HaveRoomForVariables : Notes → Type 0
HaveRoomForVariables r = length r.names ≤ most_variables r.limits

-- a row of this name is refused at its token, since an earlier one has it, or memory is wanting
abbrev pub IsTwice : List Name → Name → ℕ → ParseFault → Type 0
IsTwice rows n at (At token kind) = (token ≡ at) × (kind ≡ RowTwice) × (has_name rows n ≡ true)
IsTwice rows n at NoEnd = ⊥
IsTwice rows n at NoMemory = Unit {0}

abbrev pub IsRowFault : Notes → ℕ → Seen → ParseFault → Type 0
IsRowFault r at t (At token kind) = (token ≡ at) × (kind ≡ RowTwice) × (is_repeated_in r t ≡ true)
IsRowFault r at t NoEnd = ⊥
IsRowFault r at t NoMemory = Unit {0}

-- a token is refused for what it names or counts as: a row's name first
abbrev pub IsRoleFault : Notes → ℕ → Seen → ParseFault → Type 0
IsRoleFault r at t (At token kind) = (token ≡ at)
    × (((kind ≡ RowTwice) × (is_repeated_in r t ≡ true)) ⊎ ((kind ≡ Limit) × (is_repeated_in r t ≡ false) × (are_too_many (noted r at t) ≡ true)))
IsRoleFault r at t NoEnd = ⊥
IsRoleFault r at t NoMemory = Unit {0}

-- what is noted of some tokens, under limits
pub record AreNoted (limits : Limits) (tokens : List Seen) (r : Notes) : Type 0 where
  pub names : r.names ≡ variables tokens
  pub first_tokens : r.first_tokens ≡ map (λ n. place_of n tokens) (variables tokens)
  pub row_names : r.row_names ≡ row_names tokens
  pub row_tokens : r.row_tokens ≡ row_places 0 tokens
  pub terms : r.terms ≡ term_count tokens
  pub same_limits : r.limits ≡ limits
