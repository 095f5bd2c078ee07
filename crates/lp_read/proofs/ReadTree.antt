-- What is read of a text's tokens is its model, or its first fault.
use Rattle.std.proofs.Common.{◌≡◌, ℕ, zero, suc, ◌<◌, ◌≤◌, List, [], ◌∷◌, map, length, refl, ◌∙◌, ap, subst, arith, Option, None, Some, false}
use Rattle.bp_theory.specs.declared.Limits.{Limits}
use Rattle.bp_theory.specs.Limits.{most_bytes}
use Rattle.std.specs.Prelude.{slice_index_or}
use Rattle.lp_token.specs.declared.Tok.{Tok}
use Rattle.lp_token.specs.declared.LpKind.{LpKind}
use Rattle.lp_token.specs.declared.LpKind.TheVariants.{Limit, NoEnd, Activity}
use Rattle.lp_token.specs.declared.fault.LpFault.{LpFault}
use Rattle.lp_token.specs.declared.fault.LpFault.TheVariants as faults
use Rattle.lp_token.specs.Cut.{Cut, IsCutFault, line_at}
use Rattle.bp_model.specs.Named.{NamedProgram}
use Rattle.lp_read.specs.declared.parse.Parsed.{Parsed}
use Rattle.lp_read.specs.declared.notes.ParseFault.TheVariants as stops
use Rattle.lp_semantics.specs.declared.MeaningFault.{MeaningFault}
use Rattle.lp_semantics.specs.declared.MeaningFault.TheVariants as refusals
use Rattle.lp_syntax.specs.Tree.{Name, Symbol, SyntaxTree}
use Rattle.lp_syntax.specs.TreeIn.{tree_in}
use Rattle.lp_syntax.specs.Symbols.{symbols}
use Rattle.lp_syntax.specs.Roles.{variables}
use Rattle.lp_semantics.specs.Meaning.{model_of, tokens_of}
use Rattle.lp_semantics.specs.Reading.{AreSound, StandsAt, is_ended, place_of, row_places, line_of, IsTextOf, HasLpTextFault, too_long, uncut, at_token, unended, in_meaning}
use Rattle.lp_read.specs.Parsing.{IsParsed, IsParseFault}
use Rattle.lp_semantics.specs.PartsOf.{IsModelOf, IsRefused}
use Rattle.lp_semantics.specs.Model.{Means, IsFaultOf}
use Rattle.lp_read.proofs.Readings.{symbols-length}

pub text_of : (limits : Limits) (text : List ℕ) (tokens : List Tok) (p : Parsed) → IsParsed limits text (symbols text tokens) p → IsTextOf limits text tokens (tree_in text p.tree)
text_of limits text tokens p h = record { grammar = h.grammar; spelled = h.spelled; roles = h.roles }

-- the model of a tree is that of its text
pub means : (limits : Limits) (text : List ℕ) (tokens : List Tok) (p : Parsed) (m : NamedProgram) → length text ≤ most_bytes limits → Cut text tokens → IsParsed limits text (symbols text tokens) p → IsModelOf limits (tree_in text p.tree) m → Means limits text m
means limits text tokens p m size cut h is =
    (model_of (tree_in text p.tree), record { tokens = tokens; tree = tree_in text p.tree; size = size; cut = cut; text_of = text_of limits text tokens p h; sound = is.sound; means = refl }, is.program, is.same_limits)

-- the place of a name, by its number
place_mapped : (f : Name → ℕ) (names : List Name) (number : ℕ) → number < length names → slice_index_or (map f names) number 0 ≡ f (slice_index_or names number [])
place_mapped f [] number l = absurd (omega arith)
place_mapped f (n ∷ names) zero l = refl
place_mapped f (n ∷ names) (suc number) l = place_mapped f names number (omega arith)

-- a fault of a variable
pub variable_refused : (limits : Limits) (text : List ℕ) (tokens : List Tok) (p : Parsed) (number line place : ℕ) (kind : LpKind) → length text ≤ most_bytes limits → Cut text tokens → IsParsed limits text (symbols text tokens) p
    → IsRefused limits (tree_in text p.tree) (refusals.At number kind) → place ≡ slice_index_or p.notes.first_tokens number 0 → line ≡ line_of tokens place → HasLpTextFault limits text line kind
variable_refused limits text tokens p number line place kind size cut h r e l =
    let t : SyntaxTree = tree_in text p.tree in
    let same : place ≡ place_of (slice_index_or (variables (tokens_of t)) number []) (tokens_of t)
    = e ∙ ap (λ (xs : List ℕ). slice_index_or xs number 0) h.notes.first_tokens ∙ place_mapped (λ n. place_of n (tokens_of t)) (variables (tokens_of t)) number r.0 in
    in_meaning size tokens cut t (text_of limits text tokens p h) (place_of (slice_index_or (variables (tokens_of t)) number []) (tokens_of t)) r.1 (l ∙ ap (line_of tokens) same)

-- a fault of the objective's sums
pub objective_refused : (limits : Limits) (text : List ℕ) (tokens : List Tok) (p : Parsed) (line : ℕ) → length text ≤ most_bytes limits → Cut text tokens → IsParsed limits text (symbols text tokens) p
    → IsRefused limits (tree_in text p.tree) (refusals.Sums None) → line ≡ line_of tokens 0 → HasLpTextFault limits text line Activity
objective_refused limits text tokens p line size cut h r l = in_meaning size tokens cut (tree_in text p.tree) (text_of limits text tokens p h) 0 r l

-- a fault of a row's sums
pub row_refused : (limits : Limits) (text : List ℕ) (tokens : List Tok) (p : Parsed) (row line place : ℕ) → length text ≤ most_bytes limits → Cut text tokens → IsParsed limits text (symbols text tokens) p
    → IsRefused limits (tree_in text p.tree) (refusals.Sums (Some row)) → place ≡ slice_index_or p.notes.row_tokens row 0 → line ≡ line_of tokens place → HasLpTextFault limits text line Activity
row_refused limits text tokens p row line place size cut h r e l =
    let t : SyntaxTree = tree_in text p.tree in
    let same : place ≡ slice_index_or (row_places 0 (tokens_of t)) row 0 = e ∙ ap (λ (xs : List ℕ). slice_index_or xs row 0) h.notes.row_tokens in
    in_meaning size tokens cut t (text_of limits text tokens p h) (slice_index_or (row_places 0 (tokens_of t)) row 0) r.1 (l ∙ ap (line_of tokens) same)

-- a fault of a token
pub token_refused : (limits : Limits) (text : List ℕ) (tokens : List Tok) (all : List Symbol) (i line : ℕ) (kind : LpKind) → length text ≤ most_bytes limits → Cut text tokens → all ≡ symbols text tokens
    → IsParseFault limits all (stops.At i kind) → line ≡ line_of tokens i → HasLpTextFault limits text line kind
token_refused limits text tokens all i line kind size cut e h l =
    at_token size tokens cut i (subst (λ (x : List Symbol). AreSound limits x i) e h.0) (subst (λ (x : List Symbol). StandsAt limits x i kind) e h.1) l

-- no word `end`
pub end_refused : (limits : Limits) (text : List ℕ) (tokens : List Tok) (all : List Symbol) (line : ℕ) → length text ≤ most_bytes limits → Cut text tokens → all ≡ symbols text tokens
    → IsParseFault limits all stops.NoEnd → line ≡ line_at text (length text) → HasLpTextFault limits text line NoEnd
unfolding symbols
end_refused limits text tokens all line size cut e h l =
    let count : length all ≡ length tokens = ap length e ∙ symbols-length text tokens false in
    unended size tokens cut (subst (λ (n : ℕ). AreSound limits (symbols text tokens) n) count (subst (λ (x : List Symbol). AreSound limits x (length all)) e h.0)) (subst (λ (x : List Symbol). is_ended x ≡ false) e h.1) l refl

-- a text that can't be cut
pub cut_refused : (limits : Limits) (text : List ℕ) (fault : LpFault) → length text ≤ most_bytes limits → IsCutFault text fault → IsFaultOf limits text fault
cut_refused limits text (faults.At line kind) size h = uncut size h
cut_refused limits text faults.NoMemory size h = tt

-- a text that is too long
pub long_refused : (limits : Limits) (text : List ℕ) → most_bytes limits < length text → HasLpTextFault limits text 0 Limit
long_refused limits text l = too_long l refl refl

-- a refusal for sums, by its parts
pub refusal : (limits : Limits) (t : SyntaxTree) (f : MeaningFault) (o q : Option ℕ) → f ≡ refusals.Sums o → o ≡ q → IsRefused limits t f → IsRefused limits t (refusals.Sums q)
refusal limits t f o q e d h = subst (λ (x : Option ℕ). IsRefused limits t (refusals.Sums x)) d (subst (IsRefused limits t) e h)
