-- A text names its variables, has numbers of texts and few terms.
use Rattle.std.proofs.Common.{◌≡◌, ◌∙◌, refl, sym, ap, subst, ℕ, ◌≤◌, Bool, true, false, not, ◌||◌, ◌&&◌, List, [], ◌∷◌, map, length, Option, Some, None, Contains, arith, if◌then◌else◌}
use Rattle.bp_theory.specs.Limits.{most_rows, most_terms, most_variables}
use Rattle.bp_theory.specs.declared.Limits.{Limits}
use Rattle.bp_theory.proofs.LimitLaws.{few_terms}
use Rattle.std.specs.Prelude.{filter, unwrap_or, nat_le, nat_lt, slice_range, codes}
use Rattle.std.specs.Str.{bytes_eq, str_to_ascii_lowercase}
use Rattle.std.specs.List.{list_any, AllByRecursion}
use Rattle.std.proofs.lemmas.Bool.{leb-true, ltb-false, or_right}
use Rattle.std.proofs.lemmas.Slice.Eq.{bytes_eq-Decides}
use Rattle.std.proofs.lemmas.Map.Views.{Contains-from_any}
use Rattle.lp_token.specs.declared.Tok.{Tok}
use Rattle.lp_token.specs.declared.TokKind.{TokKind}
use Rattle.lp_token.specs.declared.TokKind.TheVariants as kinds
use Rattle.lp_token.specs.declared.Section.{Section}
use Rattle.lp_token.specs.declared.Section.TheVariants as sections
use Rattle.lp_token.specs.declared.LpKind.TheVariants.{RowTwice, Limit, Feature, TooLarge, NotWhole}
use Rattle.lp_token.specs.Word.{entry_of, section_of}
use Rattle.lp_syntax.specs.Number.{is_whole, whole_value}
use Rattle.lp_syntax.specs.Tree.{Name, Symbol, word, name, number, infinity, unfit, Written, written, spelling, sites, SyntaxTree}
use Rattle.lp_syntax.specs.Symbols.{greatest, infinite_from, number_symbol, name_symbol, mark_symbols, mark_symbol, word_symbol, symbol_of, stays_in_bounds, symbols_from, symbols}
use Rattle.lp_syntax.specs.Roles.{Seen, firsts, has_twice, variables, row_names, term_count, is_over_limit, role_fault}
use Rattle.lp_semantics.specs.Meaning.{tokens_of}
use Rattle.lp_semantics.specs.Reading.{IsTextOf}
use Rattle.lp_semantics.proofs.WalkLemmas.{named, counted, seen_named, seen_counted, IsSmallSymbol, Fine}

-- what a filter of other names leaves out is no other name
kept_any : (n x : Name) (names : List Name) → bytes_eq n x ≡ false → list_any (bytes_eq n) (filter (λ m. not (bytes_eq x m)) names) ≡ list_any (bytes_eq n) names
kept_any n x [] apart = refl
kept_any n x (y ∷ names) apart = by (bytes_eq x y) refl (kept_any n x names apart)
  where
    by : (b : Bool) → bytes_eq x y ≡ b → list_any (bytes_eq n) (filter (λ m. not (bytes_eq x m)) names) ≡ list_any (bytes_eq n) names
        → list_any (bytes_eq n) (if not b then y ∷ filter (λ m. not (bytes_eq x m)) names else filter (λ m. not (bytes_eq x m)) names) ≡ (bytes_eq n y || list_any (bytes_eq n) names)
    by true e rest =
        rest ∙ sym (ap (λ t. t || list_any (bytes_eq n) names) (ap (bytes_eq n) (sym ((bytes_eq-Decides x y).0 e)) ∙ apart))
    by false e rest = ap (λ t. bytes_eq n y || t) rest

-- the firsts of names have each name
pub firsts_any : (n : Name) (names : List Name) → list_any (bytes_eq n) (firsts names) ≡ list_any (bytes_eq n) names
firsts_any n [] = refl
firsts_any n (x ∷ names) = by (bytes_eq n x) refl (firsts_any n names)
  where
    by : (b : Bool) → bytes_eq n x ≡ b → list_any (bytes_eq n) (firsts names) ≡ list_any (bytes_eq n) names
        → (b || list_any (bytes_eq n) (filter (λ m. not (bytes_eq x m)) (firsts names))) ≡ (b || list_any (bytes_eq n) names)
    by true e rest = refl
    by false e rest = kept_any n x (firsts names) e ∙ rest

each_known : (all names : List Name) → ((n : Name) → list_any (bytes_eq n) names ≡ true → list_any (bytes_eq n) all ≡ true) → AllByRecursion (Contains all) names
each_known all [] h = tt
each_known all (n ∷ names) h = (
  Contains-from_any (λ x y. (bytes_eq-Decides x y).0) n all (h n (ap (λ t. t || list_any (bytes_eq n) names) ((bytes_eq-Decides n n).1 refl))),
  each_known all names (λ m e. h m (or_right (bytes_eq m n) (list_any (bytes_eq m) names) e)),
)

pub firsts_known : (names : List Name) → AllByRecursion (Contains (firsts names)) names
firsts_known names = each_known (firsts names) names (λ n e. firsts_any n names ∙ e)

-- each number of a text is one of texts
number_small : (b : Bool) (bytes : List ℕ) → IsSmallSymbol (number_symbol b bytes)
unfolding number_symbol
number_small b bytes = by (is_whole bytes) (nat_le (whole_value bytes) greatest) (b && nat_le infinite_from (whole_value bytes)) refl
  where
    by : (w le past : Bool) → nat_le (whole_value bytes) greatest ≡ le
        → IsSmallSymbol (if w then (if le then number (whole_value bytes) else (if past then infinity else unfit TooLarge)) else unfit NotWhole)
    by true true past e = let l : whole_value bytes ≤ greatest = leb-true (whole_value bytes) greatest e in omega arith
    by true false true e = tt
    by true false false e = tt
    by false le past e = tt

name_small : (b : Bool) (bytes : List ℕ) → IsSmallSymbol (name_symbol b bytes)
unfolding name_symbol
name_small b bytes =
    let lower : List ℕ = str_to_ascii_lowercase bytes in
    by (b && (bytes_eq lower (codes "inf") || bytes_eq lower (codes "infinity")))
  where
    by : (t : Bool) → IsSmallSymbol (if t then infinity else name bytes)
    by true = tt
    by false = tt

entry_small : (table : List (List ℕ × Symbol)) (key : List ℕ) → AllByRecursion (λ (e : List ℕ × Symbol). IsSmallSymbol e.1) table
    → IsSmallSymbol (unwrap_or (entry_of table key) (unfit Feature))
entry_small [] key h = tt
entry_small (e ∷ table) key h = by (bytes_eq key e.0) (entry_small table key h.1)
  where
    by : (t : Bool) → IsSmallSymbol (unwrap_or (entry_of table key) (unfit Feature)) → IsSmallSymbol (unwrap_or (if t then Some e.1 else entry_of table key) (unfit Feature))
    by true rest = h.0
    by false rest = rest

mark_small : (bytes : List ℕ) → IsSmallSymbol (mark_symbol bytes)
unfolding mark_symbol
mark_small bytes = entry_small mark_symbols bytes (tt, (tt, (tt, (tt, (tt, (tt, (tt, (tt, (tt, (tt, tt))))))))))

word_small : (bytes : List ℕ) → IsSmallSymbol (word_symbol bytes)
unfolding word_symbol
word_small bytes = by (section_of bytes)
  where
    by : (o : Option Section) → IsSmallSymbol (elim o [ None ↦ unfit Feature | Some section ↦ elim section [ sections.Unsupported ↦ unfit Feature | s ↦ word s ] ])
    by None = tt
    by (Some sections.Maximize) = tt
    by (Some sections.Minimize) = tt
    by (Some sections.Rows) = tt
    by (Some sections.Bounds) = tt
    by (Some sections.Generals) = tt
    by (Some sections.Binaries) = tt
    by (Some sections.End) = tt
    by (Some sections.Unsupported) = tt

symbol_small : (b : Bool) (kind : TokKind) (bytes : List ℕ) → IsSmallSymbol (symbol_of b kind bytes)
unfolding symbol_of
symbol_small b kinds.Number bytes = number_small b bytes
symbol_small b kinds.Name bytes = name_small b bytes
symbol_small b kinds.Mark bytes = mark_small bytes
symbol_small b kinds.Word bytes = word_small bytes

symbols_small : (b : Bool) (text : List ℕ) (tokens : List Tok) → AllByRecursion IsSmallSymbol (symbols_from b text tokens)
symbols_small b text [] = tt
symbols_small b text (t ∷ tokens) = (
  symbol_small b t.kind (slice_range text t.from t.to),
  symbols_small (stays_in_bounds b (symbol_of b t.kind (slice_range text t.from t.to))) text tokens,
)

of_symbols : (ws : List Written) → AllByRecursion IsSmallSymbol (map (λ w. w.symbol) ws) → AllByRecursion (λ (w : Written). IsSmallSymbol w.symbol) ws
of_symbols [] h = tt
of_symbols (w ∷ ws) h = (h.0, of_symbols ws h.1)

-- names and counts that are in order are within their limits
pub within_limits : (limits : Limits) (tokens : List Seen) → role_fault limits tokens ≡ None
    → (length (variables tokens) ≤ most_variables limits) × (length (row_names tokens) ≤ most_rows limits) × (term_count tokens ≤ most_terms limits)
unfolding role_fault is_over_limit
within_limits limits tokens h =
    let none : (nat_lt (most_variables limits) (length (variables tokens)) ≡ false) × (nat_lt (most_rows limits) (length (row_names tokens)) ≡ false) × (nat_lt (most_terms limits) (term_count tokens) ≡ false) =
    by (has_twice (row_names tokens)) (nat_lt (most_variables limits) (length (variables tokens))) (nat_lt (most_rows limits) (length (row_names tokens))) (nat_lt (most_terms limits) (term_count tokens)) h in
    (ltb-false (most_variables limits) (length (variables tokens)) none.0, ltb-false (most_rows limits) (length (row_names tokens)) none.1, ltb-false (most_terms limits) (term_count tokens) none.2)
  where
    by : (a b c d : Bool) → (if a then Some RowTwice else (if (b || (c || d)) then Some Limit else None)) ≡ None → (b ≡ false) × (c ≡ false) × (d ≡ false)
    by true b c d e = absurd cc
    by false true c d e = absurd cc
    by false false true d e = absurd cc
    by false false false true e = absurd cc
    by false false false false e = (refl, refl, refl)

-- the variables of a tree's text are the firsts of what it names
pub variables_are : (t : SyntaxTree) → variables (tokens_of t) ≡ firsts (named None (written t))
unfolding variables tokens_of sites spelling
variables_are t = ap firsts (seen_named (written t))

pub terms_are : (t : SyntaxTree) → term_count (tokens_of t) ≡ counted None (written t)
unfolding term_count tokens_of sites spelling
terms_are t = seen_counted (written t)

-- a text's tree is in order
pub fine_text : (limits : Limits) (text : List ℕ) (tokens : List Tok) (t : SyntaxTree) (names : List Name) → IsTextOf limits text tokens t → names ≡ variables (tokens_of t)
    → Fine names None (written t)
unfolding spelling symbols
fine_text limits text tokens t names h e = record {
  known = subst (λ all. AllByRecursion (Contains all) (named None (written t))) (sym (e ∙ variables_are t)) (firsts_known (named None (written t)));
  small = of_symbols (written t) (subst (AllByRecursion IsSmallSymbol) (sym h.spelled) (symbols_small false text tokens));
  few = omega (arith, (within_limits limits (tokens_of t) h.roles).2, few_terms limits, terms_are t);
}
