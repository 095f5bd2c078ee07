-- The model that a text means, or its first fault.
use Rattle.std.specs.Prelude.{◌≡◌, ℕ, ◌⊎◌, zip, ◌+◌, ◌<◌, ◌≤◌, Bool, true, false, not, ◌&&◌, ◌||◌, nat_lt, if◌then◌else◌, List, [], ◌∷◌, ◌++◌, map, take, length, Option, None, Some, slice_get, nat_abs, MatchOption, IsFalse}
use Rattle.bp_theory.specs.declared.Limits.{Limits}
use Rattle.bp_theory.specs.Limits.{most_bytes, most_digits}
use Rattle.std.specs.List.{list_any}
use Rattle.std.specs.Str.{bytes_eq}
use Rattle.lp_token.specs.declared.Tok.{Tok}
use Rattle.lp_token.specs.declared.Section.TheVariants as sections
use Rattle.lp_token.specs.declared.LpKind.{LpKind}
use Rattle.lp_token.specs.declared.LpKind.TheVariants.{Syntax, NoEnd, Unbounded, Continuous, Crossed, Activity, Limit}
use Rattle.lp_token.specs.Cut.{Cut, CutFault, line_at}
use Rattle.bp_theory.specs.Digits.{span_bits}
use Rattle.lp_syntax.specs.Symbols.{symbols, greatest}
use Rattle.lp_syntax.specs.Tree.{Name, Symbol, word, unfit, SyntaxTree, IsText, BeginsText, spelling, sites}
use Rattle.lp_syntax.specs.declared.tree.Site.TheVariants.{RowFirst as row_first}
use Rattle.lp_syntax.specs.Roles.{Seen, seen, variable_of, variables, role_fault}
use Rattle.lp_semantics.specs.Meaning.{Extended, Ends, whole, extended_le, ends, is_listed, span_of, largest_activity, row_activity, TextModel, model_of, tokens_of}

-- the fault that a symbol has by itself
abbrev pub own_fault : Symbol → Option LpKind
own_fault (unfit kind) = Some kind
own_fault _ = None

-- the symbols up to a place begin a text in which they have a fault by what they name or count as
pub record HasRoleFault (limits : Limits) (all : List Symbol) (i : ℕ) (kind : LpKind) : Type 0 where
  pub tree : SyntaxTree
  pub more : List Symbol
  pub text : IsText tree
  pub spelled : spelling tree ≡ take (i + 1) all ++ more
  pub fault : role_fault limits (seen (take (i + 1) (sites tree)) all) ≡ Some kind

-- the symbols up to a place begin no text
unfoldable pub IsSyntaxFault : List Symbol → ℕ → LpKind → Type 0
IsSyntaxFault all i kind = (BeginsText (take (i + 1) all) → ⊥) × (kind ≡ Syntax)

-- The fault that stands at a token: its own first, then syntax, then that of its role.
unfoldable pub StandsAt : Limits → List Symbol → ℕ → LpKind → Type 0
unfolding IsSyntaxFault
StandsAt limits all i kind = MatchOption (slice_get all i) ⊥ (λ s.
    MatchOption (own_fault s) (IsSyntaxFault all i kind ⊎ HasRoleFault limits all i kind) (λ own. kind ≡ own))

-- no fault stands at the first n tokens
unfoldable pub AreSound : Limits → List Symbol → ℕ → Type 0
unfolding StandsAt
AreSound limits all n = (i : ℕ) (kind : LpKind) → i < n → StandsAt limits all i kind → ⊥

abbrev pub is_end_word : Symbol → Bool
is_end_word (word sections.End) = true
is_end_word _ = false

-- whether the tokens have the word `end`
abbrev pub is_ended : List Symbol → Bool
is_ended all = list_any is_end_word all

-- the first of two
abbrev pub or_else : {A : Type 0} → Option A → Option A → Option A
or_else None other = other
or_else (Some a) other = Some a

-- the first that a function finds along a list
abbrev pub first_found : {A B : Type 0} → (A → Option B) → List A → Option B
first_found f [] = None
first_found f (a ∷ as') = or_else (f a) (first_found f as')

-- the place of the first token that names a variable
abbrev pub place_of : Name → List Seen → ℕ
place_of n [] = 0
place_of n (t ∷ tokens) = if (elim (variable_of t.site t.symbol t.next) [ None ↦ false | Some m ↦ bytes_eq n m ]) then 0 else place_of n tokens + 1

-- the places of the first tokens of rows
abbrev pub row_places : ℕ → List Seen → List ℕ
row_places i [] = []
row_places i (t ∷ tokens) = elim t.site [ row_first ↦ i ∷ row_places (i + 1) tokens | _ ↦ row_places (i + 1) tokens ]

abbrev pub is_infinite : Extended → Bool
is_infinite (whole _) = false
is_infinite _ = true

-- what is wrong with the ends of a variable that is listed or not
abbrev pub ends_fault : Ends → Bool → Option LpKind
ends_fault e listed =
    if not (extended_le e.lo e.hi) then Some Crossed
    else (if is_infinite e.lo || is_infinite e.hi then Some Unbounded
    else (if not listed && not (extended_le e.hi e.lo) then Some Continuous
    else None))

-- what is wrong with a variable's bounds
unfoldable pub bounds_fault : SyntaxTree → Name → Option LpKind
bounds_fault t n = ends_fault (ends t n) (is_listed t n)

-- the first variable with such a fault, at the first token that names it
unfoldable pub variable_fault : SyntaxTree → Option (ℕ × LpKind)
unfolding bounds_fault tokens_of
variable_fault t = first_found (λ n. elim (bounds_fault t n) [ None ↦ None | Some kind ↦ Some (place_of n (tokens_of t), kind) ]) (variables (tokens_of t))

-- the name at which a running total passes a limit
abbrev pub first_past : ℕ → ℕ → List (Name × ℕ) → Option Name
first_past limit so_far [] = None
first_past limit so_far (p ∷ more) = if nat_lt limit (so_far + p.1) then Some p.0 else first_past limit (so_far + p.1) more

-- more binary digits than may be in all spans
unfoldable pub digits_fault : Limits → SyntaxTree → Option (ℕ × LpKind)
unfolding tokens_of
digits_fault limits t =
    let past = first_past (most_digits limits) 0 (map (λ n. (n, span_bits (span_of (ends t n)))) (variables (tokens_of t))) in
    elim past [ None ↦ None | Some n ↦ Some (place_of n (tokens_of t), Limit) ]

-- a sum that may come to more than a number may: the objective's at its word, a row's at its first token
unfoldable pub activity_fault : SyntaxTree → Option (ℕ × LpKind)
unfolding tokens_of model_of
activity_fault t =
    let m = model_of t in
    or_else (if nat_lt greatest (largest_activity (nat_abs m.constant) m.costs m.spans) then Some (0, Activity) else None)
    (first_found (λ p. if nat_lt greatest (row_activity m.spans p.1) then Some (p.0, Activity) else None) (zip (row_places 0 (tokens_of t)) m.rows))

-- the first fault of what a tree means, and the place of its token
unfoldable pub meaning_fault : Limits → SyntaxTree → Option (ℕ × LpKind)
unfolding variable_fault digits_fault activity_fault
meaning_fault limits t = or_else (variable_fault t) (or_else (digits_fault limits t) (activity_fault t))

-- the line of the i-th token
abbrev pub line_of : List Tok → ℕ → ℕ
line_of tokens i = elim (slice_get tokens i) [ None ↦ 0 | Some t ↦ t.line ]

-- A text of a tree, whose tokens have no fault.
pub record IsTextOf (limits : Limits) (text : List ℕ) (tokens : List Tok) (tree : SyntaxTree) : Type 0 where
  pub grammar : IsText tree
  pub spelled : spelling tree ≡ symbols text tokens
  pub roles : role_fault limits (tokens_of tree) ≡ None

-- A text means a model under limits.
pub record ReadsModel (limits : Limits) (text : List ℕ) (m : TextModel) : Type 0 where
  pub tokens : List Tok
  pub tree : SyntaxTree
  pub size : length text ≤ most_bytes limits
  pub cut : Cut text tokens
  pub text_of : IsTextOf limits text tokens tree
  pub sound : meaning_fault limits tree ≡ None
  pub means : m ≡ model_of tree

-- The first fault of a text under limits: its size; its first byte that can't be cut; its first token at fault; a lack
-- of `end`; then what its tree means.
pub data HasLpTextFault (limits : Limits) (text : List ℕ) (line : ℕ) (kind : LpKind) : Type 0 where
  too_long : most_bytes limits < length text → line ≡ 0 → kind ≡ Limit → HasLpTextFault limits text line kind
  uncut : length text ≤ most_bytes limits → CutFault text line kind → HasLpTextFault limits text line kind
  at_token : length text ≤ most_bytes limits → (tokens : List Tok) → Cut text tokens
      → (i : ℕ) → AreSound limits (symbols text tokens) i → StandsAt limits (symbols text tokens) i kind → line ≡ line_of tokens i → HasLpTextFault limits text line kind
  unended : length text ≤ most_bytes limits → (tokens : List Tok) → Cut text tokens
      → AreSound limits (symbols text tokens) (length tokens) → IsFalse (is_ended (symbols text tokens)) → line ≡ line_at text (length text) → kind ≡ NoEnd → HasLpTextFault limits text line kind
  in_meaning : length text ≤ most_bytes limits → (tokens : List Tok) → Cut text tokens
      → (tree : SyntaxTree) → IsTextOf limits text tokens tree → (i : ℕ) → meaning_fault limits tree ≡ Some (i, kind) → line ≡ line_of tokens i → HasLpTextFault limits text line kind
