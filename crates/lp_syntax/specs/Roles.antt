-- What the tokens of a text begin, name and count as.
use Rattle.std.specs.Prelude.{ℕ, ◌+◌, Bool, true, false, not, ◌||◌, nat_lt, if◌then◌else◌, List, [], ◌∷◌, length, filter, filter_map, count_by, Option, None, Some, decimal}
use Rattle.bp_theory.specs.declared.Limits.{Limits}
use Rattle.bp_theory.specs.Limits.{most_rows, most_terms, most_variables}
use Rattle.std.specs.List.{list_any}
use Rattle.std.specs.Str.{bytes_eq}
use Rattle.lp_token.specs.declared.LpKind.{LpKind}
use Rattle.lp_token.specs.declared.LpKind.TheVariants.{RowTwice, Limit}
use Rattle.lp_syntax.specs.Tree.{Name, Symbol, name, number, colon, Site, objective_first, objective_more, row_first, row_more, other}

-- a symbol in its site, with the symbol behind it
pub record Seen : Type 0 where
  pub site : Site
  pub symbol : Symbol
  pub next : Option Symbol

abbrev pub first_of_symbols : List Symbol → Option Symbol
first_of_symbols [] = None
first_of_symbols (s ∷ symbols) = Some s

abbrev pub seen : List Site → List Symbol → List Seen
seen [] symbols = []
seen (site ∷ sites) [] = []
seen (site ∷ sites) (s ∷ symbols) = record { site = site; symbol = s; next = first_of_symbols symbols } ∷ seen sites symbols

abbrev pub is_colon : Option Symbol → Bool
is_colon (Some colon) = true
is_colon _ = false

abbrev pub is_name_symbol : Option Symbol → Bool
is_name_symbol (Some (name _)) = true
is_name_symbol _ = false

-- the name of a label, at the front of an objective or a row, with a colon behind it
abbrev pub label_of : Site → Symbol → Option Symbol → Option Name
label_of objective_first (name n) next = if is_colon next then Some n else None
label_of row_first (name n) next = if is_colon next then Some n else None
label_of _ _ _ = None

-- the variable that a name names
abbrev pub variable_of : Site → Symbol → Option Symbol → Option Name
variable_of other _ next = None
variable_of objective_first (name n) next = if is_colon next then None else Some n
variable_of row_first (name n) next = if is_colon next then None else Some n
variable_of _ (name n) next = Some n
variable_of _ _ next = None

-- Whether a symbol counts as a term: a variable's name, and in the objective a number that no name follows.
abbrev pub counts_as_term : Site → Symbol → Option Symbol → Bool
counts_as_term objective_first (number _) next = not (is_name_symbol next)
counts_as_term objective_more (number _) next = not (is_name_symbol next)
counts_as_term objective_first (name _) next = not (is_colon next)
counts_as_term row_first (name _) next = not (is_colon next)
counts_as_term objective_more (name _) next = true
counts_as_term row_more (name _) next = true
counts_as_term _ _ _ = false

-- the label of the row that begins here, or its lack
abbrev pub row_of : Site → Symbol → Option Symbol → Option (Option Name)
row_of row_first symbol next = Some (label_of row_first symbol next)
row_of _ _ _ = None

-- a list without its later repetitions
abbrev pub firsts : List Name → List Name
firsts [] = []
firsts (n ∷ names) = n ∷ filter (λ m. not (bytes_eq n m)) (firsts names)

-- whether a list has something twice
abbrev pub has_twice : List Name → Bool
has_twice [] = false
has_twice (n ∷ names) = list_any (bytes_eq n) names || has_twice names

-- the names of rows from the k-th on: as written, or `c` and the place
abbrev pub names_from : ℕ → List (Option Name) → List Name
names_from k [] = []
names_from k (None ∷ labels) = (99 ∷ decimal k) ∷ names_from (k + 1) labels
names_from k (Some n ∷ labels) = n ∷ names_from (k + 1) labels

-- the variables of a text, in order of first occurrence
unfoldable pub variables : List Seen → List Name
variables tokens = firsts (filter_map (λ t. variable_of t.site t.symbol t.next) tokens)

unfoldable pub row_names : List Seen → List Name
row_names tokens = names_from 1 (filter_map (λ t. row_of t.site t.symbol t.next) tokens)

unfoldable pub term_count : List Seen → ℕ
term_count tokens = count_by (λ t. counts_as_term t.site t.symbol t.next) tokens

-- whether there is a variable, a row or a term too many
unfoldable pub is_over_limit : Limits → List Seen → Bool
unfolding variables row_names term_count
is_over_limit limits tokens = nat_lt (most_variables limits) (length (variables tokens)) || (nat_lt (most_rows limits) (length (row_names tokens)) || nat_lt (most_terms limits) (term_count tokens))

-- the fault that tokens have by what they name and count as
unfoldable pub role_fault : Limits → List Seen → Option LpKind
unfolding row_names is_over_limit
role_fault limits tokens = if has_twice (row_names tokens) then Some RowTwice else (if is_over_limit limits tokens then Some Limit else None)
