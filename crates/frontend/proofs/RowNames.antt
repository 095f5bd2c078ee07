-- The rows of a program that a text means have names of LP texts.
use Rattle.std.proofs.Common.{◌≡◌, ℕ, zero, suc, ◌+◌, ◌-◌, ◌<◌, ◌≤◌, ◌^◌, Bool, true, false, ◌||◌, ◌&&◌, if◌then◌else◌, List, [], ◌∷◌, length, take, drop, Option, Some, None, refl, sym, ap, subst, ◌∙◌, ⊎_elim, arith}
use Rattle.std.specs.Prelude.{nat_lt, nat_le, IsFalse, MatchBool, codes, decimal, slice_range, filter_map, unwrap_or, All}
use Rattle.std.specs.List.{AllByRecursion, list_all}
use Rattle.std.specs.Str.{bytes_eq, str_to_ascii_lowercase}
use Rattle.std.specs.Char.{is_ascii_digit, is_ascii_alphanumeric}
use Rattle.std.proofs.lemmas.Bool.{both_ways, and_parts, lt-ltb, or_left, cases_lt}
use Rattle.std.proofs.lemmas.Fmt.{length-decimal-le}
use Rattle.std.proofs.lemmas.List.Elements.{All-from_recursion}
use Rattle.bp_theory.specs.declared.Limits.{Limits}
use Rattle.lp_token.specs.declared.Tok.{Tok}
use Rattle.lp_token.specs.declared.TokKind.{TokKind}
use Rattle.lp_token.specs.declared.TokKind.TheVariants as kinds
use Rattle.lp_token.specs.declared.Section.{Section}
use Rattle.lp_token.specs.declared.Section.TheVariants as sections
use Rattle.lp_token.specs.declared.LpKind.TheVariants.{NotWhole, TooLarge, Feature}
use Rattle.lp_token.specs.Cut.{in_comment, is_word_at, kind_at, IsToken, is_long, is_end, CutFrom, Cut}
use Rattle.lp_token.specs.Lexeme.{is_number, is_name, is_mark, is_name_byte}
use Rattle.lp_token.specs.Word.{entry_of, section_of}
use Rattle.lp_syntax.specs.Number.{is_whole, whole_value}
use Rattle.lp_syntax.specs.Tree.{Name, Symbol, word, name, number, infinity, sign, comparison, colon, unfit, SyntaxTree, sites as sites_of, spelling}
use Rattle.lp_syntax.specs.declared.tree.Site.{Site}
use Rattle.lp_syntax.specs.declared.tree.Site.TheVariants as sites
use Rattle.lp_syntax.specs.Symbols.{greatest, infinite_from, number_symbol, name_symbol, mark_symbol, mark_symbols, word_symbol, symbol_of, symbols_from, symbols, stays_in_bounds}
use Rattle.lp_syntax.specs.Roles.{Seen, seen, first_of_symbols, is_colon, label_of, row_of, names_from, row_names}
use Rattle.lp_semantics.specs.Meaning.{tokens_of, model_of}
use Rattle.lp_semantics.specs.Reading.{IsTextOf}
use Rattle.lp_semantics.specs.Model.{Means}
use Rattle.bp_model.specs.Named.{NamedProgram, IsKept}
use Rattle.dec_write.specs.Text.{IsRowName}
use Rattle.dec_write.proofs.WordLemmas.{decimal_digits}

-- ---- tokens that are names

name_kind : (a b c d e : Bool) → (if a then None else (if b then Some kinds.Word else (if c then Some kinds.Number else (if d then Some kinds.Name else (if e then Some kinds.Mark else None))))) ≡ Some kinds.Name → d ≡ true
name_kind true b c d e h = absurd (cc)
name_kind false true c d e h = absurd (cc)
name_kind false false true d e h = absurd (cc)
name_kind false false false true e h = refl
name_kind false false false false true h = absurd (cc)
name_kind false false false false false h = absurd (cc)

take_short : {A : Type 0} (n : ℕ) (xs : List A) → length (take n xs) ≤ n
take_short zero xs = omega arith
take_short (suc n) [] = omega arith
take_short (suc n) (x ∷ xs) = omega (arith, take_short n xs)

-- what a name token's bytes are
abbrev IsGoodToken : List ℕ → Tok → Type 0
IsGoodToken text t = t.kind ≡ kinds.Name → IsRowName (slice_range text t.from t.to)

short_name : (from to : ℕ) → IsFalse (nat_lt (from + 255) to) → to ≤ from + 255
short_name from to h = ⊎_elim (λ less. absurd (both_ways (nat_lt (from + 255) to) h (lt-ltb (from + 255) to less))) (λ more. more) (cases_lt (from + 255) to)

not_long : (k : TokKind) (b : Bool) → IsFalse (elim k [ kinds.Name ↦ b | _ ↦ false ]) → k ≡ kinds.Name → IsFalse b
not_long kinds.Name b h e = h
not_long kinds.Number b h e = absurd (cc)
not_long kinds.Mark b h e = absurd (cc)
not_long kinds.Word b h e = absurd (cc)

good_token : (text : List ℕ) (t : Tok) → IsToken text t → IsFalse (is_long t) → IsGoodToken text t
unfolding kind_at is_long
good_token text t is short = λ e.
    let spelled = name_kind (in_comment text t.from) (is_word_at text t.from t.to) (is_number (slice_range text t.from t.to)) (is_name (slice_range text t.from t.to)) (is_mark (slice_range text t.from t.to)) (is.kind ∙ ap Some e) in
    let low = short_name t.from t.to (not_long t.kind (nat_lt (t.from + 255) t.to) short e) in
    let size = take_short (t.to - t.from) (drop t.from text) in
    record { spelled = spelled; short = omega (arith, low, size) }

good_tokens : (text : List ℕ) (place : ℕ) (tokens : List Tok) → CutFrom text place tokens → AllByRecursion (IsGoodToken text) tokens
unfolding CutFrom
good_tokens text place [] cut = tt
good_tokens text place (t ∷ tokens) cut = (good_token text t cut.1 cut.2, rest (is_end text t) cut.3 (good_tokens text t.to tokens))
  where
    rest : (b : Bool) → MatchBool b (tokens ≡ []) (CutFrom text t.to tokens) → (CutFrom text t.to tokens → AllByRecursion (IsGoodToken text) tokens) → AllByRecursion (IsGoodToken text) tokens
    rest true none more = subst (AllByRecursion (IsGoodToken text)) (sym none) tt
    rest false cut' more = more cut'

-- ---- symbols that are names

abbrev IsGood : Symbol → Type 0
IsGood (name n) = IsRowName n
IsGood (word s) = Unit {0}
IsGood (number n) = Unit {0}
IsGood infinity = Unit {0}
IsGood (sign s) = Unit {0}
IsGood (comparison c) = Unit {0}
IsGood colon = Unit {0}
IsGood (unfit k) = Unit {0}

good_if : (b : Bool) (s t : Symbol) → IsGood s → IsGood t → IsGood (if b then s else t)
good_if true s t a b = a
good_if false s t a b = b

good_entry : (table : List (List ℕ × Symbol)) (key : List ℕ) (d : Symbol) → AllByRecursion (λ (e : List ℕ × Symbol). IsGood e.1) table → IsGood d → IsGood (unwrap_or (entry_of table key) d)
good_entry [] key d h g = g
good_entry (e ∷ table) key d h g = by (bytes_eq key e.0) (good_entry table key d h.1 g)
  where
    by : (b : Bool) → IsGood (unwrap_or (entry_of table key) d) → IsGood (unwrap_or (if b then Some e.1 else entry_of table key) d)
    by true rest = h.0
    by false rest = rest

good_number : (in_bounds : Bool) (bytes : List ℕ) → IsGood (number_symbol in_bounds bytes)
unfolding number_symbol
good_number in_bounds bytes = by (is_whole bytes) (nat_le (whole_value bytes) greatest) (in_bounds && nat_le infinite_from (whole_value bytes))
  where
    by : (whole small large : Bool)
        → IsGood (if whole then (if small then number (whole_value bytes) else (if large then infinity else unfit TooLarge)) else unfit NotWhole)
    by true true large = tt
    by true false true = tt
    by true false false = tt
    by false small large = tt

good_name : (in_bounds : Bool) (bytes : List ℕ) → IsRowName bytes → IsGood (name_symbol in_bounds bytes)
unfolding name_symbol
good_name in_bounds bytes h =
    good_if (in_bounds && (bytes_eq (str_to_ascii_lowercase bytes) (codes "inf") || bytes_eq (str_to_ascii_lowercase bytes) (codes "infinity"))) infinity (name bytes) tt h

good_mark : (bytes : List ℕ) → IsGood (mark_symbol bytes)
unfolding mark_symbol
good_mark bytes = good_entry mark_symbols bytes (unfit Feature) (tt, (tt, (tt, (tt, (tt, (tt, (tt, (tt, (tt, (tt, tt)))))))))) tt

good_word : (bytes : List ℕ) → IsGood (word_symbol bytes)
unfolding word_symbol
good_word bytes = by (section_of bytes)
  where
    by : (o : Option Section) → IsGood (elim o [ None ↦ unfit Feature | Some section ↦ elim section [ sections.Unsupported ↦ unfit Feature | s ↦ word s ] ])
    by None = tt
    by (Some sections.Maximize) = tt
    by (Some sections.Minimize) = tt
    by (Some sections.Rows) = tt
    by (Some sections.Bounds) = tt
    by (Some sections.Generals) = tt
    by (Some sections.Binaries) = tt
    by (Some sections.End) = tt
    by (Some sections.Unsupported) = tt

good_symbol : (in_bounds : Bool) (kind : TokKind) (bytes : List ℕ) → (kind ≡ kinds.Name → IsRowName bytes) → IsGood (symbol_of in_bounds kind bytes)
unfolding symbol_of
good_symbol in_bounds kinds.Number bytes h = good_number in_bounds bytes
good_symbol in_bounds kinds.Name bytes h = good_name in_bounds bytes (h refl)
good_symbol in_bounds kinds.Mark bytes h = good_mark bytes
good_symbol in_bounds kinds.Word bytes h = good_word bytes

good_symbols : (in_bounds : Bool) (text : List ℕ) (tokens : List Tok) → AllByRecursion (IsGoodToken text) tokens → AllByRecursion IsGood (symbols_from in_bounds text tokens)
good_symbols in_bounds text [] h = tt
good_symbols in_bounds text (t ∷ tokens) h = (
  good_symbol in_bounds t.kind (slice_range text t.from t.to) h.0,
  good_symbols (stays_in_bounds in_bounds (symbol_of in_bounds t.kind (slice_range text t.from t.to))) text tokens h.1,
)

-- ---- labels and names

abbrev IsGoodLabel : Option Name → Type 0
IsGoodLabel None = Unit {0}
IsGoodLabel (Some n) = IsRowName n

good_label : (s : Symbol) (next : Option Symbol) → IsGood s → IsGoodLabel (label_of sites.RowFirst s next)
good_label (name n) next h = by (is_colon next)
  where
    by : (b : Bool) → IsGoodLabel (if b then Some n else None)
    by true = h
    by false = tt
good_label (word s) next h = tt
good_label (number n) next h = tt
good_label infinity next h = tt
good_label (sign s) next h = tt
good_label (comparison c) next h = tt
good_label colon next h = tt
good_label (unfit k) next h = tt

abbrev labels_of : List Seen → List (Option Name)
labels_of tokens = filter_map (λ (t : Seen). row_of t.site t.symbol t.next) tokens

good_labels : (places : List Site) (symbols : List Symbol) → AllByRecursion IsGood symbols → AllByRecursion IsGoodLabel (labels_of (seen places symbols))
good_labels [] symbols h = tt
good_labels (site ∷ more) [] h = tt
good_labels (site ∷ more) (s ∷ symbols) h = by site (good_labels more symbols h.1)
  where
    by : (at : Site) → AllByRecursion IsGoodLabel (labels_of (seen more symbols))
        → AllByRecursion IsGoodLabel (labels_of (record { site = at; symbol = s; next = first_of_symbols symbols } ∷ seen more symbols))
    by sites.ObjectiveFirst rest = rest
    by sites.ObjectiveMore rest = rest
    by sites.RowFirst rest = (good_label s (first_of_symbols symbols) h.0, rest)
    by sites.RowMore rest = rest
    by sites.Listed rest = rest
    by sites.Other rest = rest

-- ---- the names that rows have without a label

digits_bytes : (ds : List ℕ) → list_all is_ascii_digit ds ≡ true → list_all is_name_byte ds ≡ true
unfolding is_name_byte
digits_bytes [] e = refl
digits_bytes (c ∷ cs) e =
    let k = and_parts (is_ascii_digit c) (list_all is_ascii_digit cs) e in
    ap (λ (b : Bool). b && list_all is_name_byte cs) (or_left (is_ascii_alphanumeric c) _ (or_left (is_ascii_digit c || (nat_le 65 c && nat_le c 90)) (nat_le 97 c && nat_le c 122) (or_left (is_ascii_digit c) (nat_le 65 c && nat_le c 90) k.0)))
    ∙ digits_bytes cs k.1

numbered_name : (k : ℕ) → k < 2 ^ 64 → IsRowName (99 ∷ decimal k)
unfolding is_name is_name_byte
numbered_name k l = record {
  spelled = digits_bytes (decimal k) (decimal_digits k l);
  short = (let some : 0 < 20 = omega arith in let low : k < 10 ^ 20 = omega (arith, l) in let size = length-decimal-le 20 k some low l in omega (arith, size));
}

names_good : (k : ℕ) (labels : List (Option Name)) → k + length labels < 2 ^ 64 → AllByRecursion IsGoodLabel labels → AllByRecursion IsRowName (names_from k labels)
names_good k [] l h = tt
names_good k (None ∷ labels) l h = (numbered_name k (omega (arith, l)), names_good (k + 1) labels (omega (arith, l)) h.1)
names_good k (Some n ∷ labels) l h = (h.0, names_good (k + 1) labels (omega (arith, l)) h.1)

names_count : (k : ℕ) (labels : List (Option Name)) → length (names_from k labels) ≡ length labels
names_count k [] = refl
names_count k (None ∷ labels) = ap suc (names_count (k + 1) labels)
names_count k (Some n ∷ labels) = ap suc (names_count (k + 1) labels)

rows_good : (tokens : List Seen) → length (row_names tokens) ≤ 524288 → AllByRecursion IsGoodLabel (labels_of tokens) → AllByRecursion IsRowName (row_names tokens)
unfolding row_names
rows_good tokens few h = let count = names_count 1 (labels_of tokens) in names_good 1 (labels_of tokens) (omega (arith, few, count)) h

tree_rows : (limits : Limits) (text : List ℕ) (tokens : List Tok) (tree : SyntaxTree) → Cut text tokens → IsTextOf limits text tokens tree → AllByRecursion IsGoodLabel (labels_of (tokens_of tree))
unfolding Cut tokens_of symbols
tree_rows limits text tokens tree cut is =
    good_labels (sites_of tree) (spelling tree) (subst (AllByRecursion IsGood) (sym is.spelled) (good_symbols false text tokens (good_tokens text 0 tokens cut)))

pub rows_named : (limits : Limits) (text : List ℕ) (m : NamedProgram) → IsKept m → Means limits text m → All IsRowName m.row_names
unfolding model_of
rows_named limits text m kept means =
    let reads = means.1 in
    let same : m.row_names ≡ row_names (tokens_of reads.tree) = means.2.row_names ∙ ap (λ meant. meant.row_names) reads.means in
    let few : length (row_names (tokens_of reads.tree)) ≤ 524288 = omega (arith, kept.row_named, kept.rows, ap length same) in
    All-from_recursion IsRowName m.row_names (subst (AllByRecursion IsRowName) (sym same) (rows_good (tokens_of reads.tree) few (tree_rows limits text reads.tokens reads.tree reads.cut reads.text_of)))
