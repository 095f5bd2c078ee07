-- As many rows are seen as a tree has.
use Rattle.std.proofs.Common.{◌≡◌, ◌∙◌, refl, ap, ℕ, suc, ◌+◌, List, [], ◌∷◌, ◌++◌, map, length, Option, Some, None, arith}
use Rattle.std.specs.Prelude.{filter_map, flat_map}
use Rattle.lp_syntax.specs.Tree.{Name, Symbol, name, number, sign, Written, placed, headed, Term, Row, expression_first, number_first, ranged, Bound, value_first, name_first, between, free, Part, bounds, generals, binaries, spelled_signs, spelled_factor, spelled_term, spelled_sum, spelled_signed, spelled_label, spelled_row, spelled_value, spelled_item, comparison, comparison_of, written_row, written_bound, written_part, written_objective, written_word, written, spelling, sites, SyntaxTree}
use Rattle.lp_syntax.specs.declared.tree.Sign.{Sign}
use Rattle.lp_syntax.specs.declared.tree.Site.{Site}
use Rattle.lp_syntax.specs.declared.tree.Site.TheVariants.{ObjectiveFirst as objective_first, ObjectiveMore as objective_more, RowFirst as row_first, RowMore as row_more, Listed as listed, Other as other}
use Rattle.lp_syntax.specs.declared.tree.Signed.{Signed}
use Rattle.std.specs.List.{cons_option}
use Rattle.lp_token.specs.declared.Section.TheVariants as sections
use Rattle.lp_syntax.specs.Roles.{Seen, seen, first_of_symbols, row_of, names_from, row_names}
use Rattle.lp_semantics.specs.Meaning.{tokens_of}
use Rattle.lp_semantics.specs.Reading.{row_places}

-- how many rows begin
abbrev begins : Site → ℕ
begins row_first = 1
begins _ = 0

abbrev heads : List Written → ℕ
heads [] = 0
heads (w ∷ ws) = begins w.site + heads ws

heads-append : (us ws : List Written) → heads (us ++ ws) ≡ heads us + heads ws
heads-append [] ws = omega arith
heads-append (u ∷ us) ws = omega (arith, heads-append us ws)

heads_placed : (site : Site) (symbols : List Symbol) → begins site ≡ 0 → heads (placed site symbols) ≡ 0
heads_placed site [] e = refl
heads_placed site (s ∷ symbols) e = omega (arith, e, heads_placed site symbols e)

-- a row begins once
has_first : (site : Site) (s : Symbol) (symbols all : List Symbol) → all ≡ s ∷ symbols → heads (headed row_first row_more all) ≡ 1
has_first site s symbols all e =
    ap (λ ss. heads (headed row_first row_more ss)) e ∙ one (heads (placed row_more symbols)) (heads_placed row_more symbols refl)
  where
    one : (n : ℕ) → n ≡ 0 → 1 + n ≡ 1
    one n e = omega arith

abbrev IsSome' : List Symbol → Type 0
IsSome' all = (s : Symbol) × (rest : List Symbol) × (all ≡ s ∷ rest)

term_begins : (t : Term) (rest : List Symbol) → IsSome' (spelled_term t ++ rest)
term_begins t rest = by t.signs t.factor
  where
    by : (signs : List Sign) (factor : Option ℕ) → IsSome' ((spelled_signs signs ++ (spelled_factor factor ++ (name t.variable ∷ []))) ++ rest)
    by [] None = (name t.variable, rest, refl)
    by [] (Some k) = (number k, name t.variable ∷ rest, refl)
    by (s ∷ signs) factor = (sign s, (spelled_signs signs ++ (spelled_factor factor ++ (name t.variable ∷ []))) ++ rest, refl)

signed_begins : (v : Signed) (rest : List Symbol) → IsSome' (spelled_signed v ++ rest)
signed_begins v rest = by v.signs
  where
    by : (signs : List Sign) → IsSome' ((spelled_signs signs ++ (number v.size ∷ [])) ++ rest)
    by [] = (number v.size, rest, refl)
    by (s ∷ signs) = (sign s, (spelled_signs signs ++ (number v.size ∷ [])) ++ rest, refl)

more_begins : (xs ys : List Symbol) → IsSome' xs → IsSome' (xs ++ ys)
more_begins xs ys h = (h.0, h.1 ++ ys, ap (λ ss. ss ++ ys) h.2)

row_begins : (r : Row) → IsSome' (spelled_row r)
row_begins (expression_first None e c v) =
    more_begins (spelled_sum spelled_term e) (comparison c ∷ spelled_signed v) (term_begins e.first (flat_map (λ m. sign m.0 ∷ spelled_term m.1) e.more))
row_begins (expression_first (Some l) e c v) = (name l, _, refl)
row_begins (number_first None v c e) = signed_begins v (comparison c ∷ spelled_sum spelled_term e)
row_begins (number_first (Some l) v c e) = (name l, _, refl)
row_begins (ranged None v d e w) = signed_begins v (comparison (comparison_of d) ∷ (spelled_sum spelled_term e ++ (comparison (comparison_of d) ∷ spelled_signed w)))
row_begins (ranged (Some l) v d e w) = (name l, _, refl)

heads_rows : (rows : List Row) → heads (flat_map written_row rows) ≡ length rows
heads_rows [] = refl
heads_rows (r ∷ rows) =
    let b : IsSome' (spelled_row r) = row_begins r in
    omega (arith, heads-append (written_row r) (flat_map written_row rows), has_first row_first b.0 b.1 (spelled_row r) b.2, heads_rows rows)

heads_objective : (symbols : List Symbol) → heads (headed objective_first objective_more symbols) ≡ 0
heads_objective [] = refl
heads_objective (s ∷ symbols) = omega (arith, heads_placed objective_more symbols refl)

heads_bound : (b : Bound) → heads (written_bound b) ≡ 0
heads_bound (value_first v c n) =
    omega (arith, heads-append (placed other (spelled_value v ++ (comparison c ∷ []))) (placed listed (name n ∷ [])), heads_placed other (spelled_value v ++ (comparison c ∷ [])) refl)
heads_bound (name_first n c v) = omega (arith, heads_placed other (comparison c ∷ spelled_value v) refl)
heads_bound (between v d n w) =
    omega (
      arith,
      heads-append (placed other (spelled_value v ++ (comparison (comparison_of d) ∷ []))) (placed listed (name n ∷ []) ++ placed other (comparison (comparison_of d) ∷ spelled_value w)),
      heads_placed other (spelled_value v ++ (comparison (comparison_of d) ∷ [])) refl,
      heads_placed other (comparison (comparison_of d) ∷ spelled_value w) refl,
    )
heads_bound (free n w) = refl

heads_each : {A : Type 0} (f : A → List Written) → ((a : A) → heads (f a) ≡ 0) → (xs : List A) → heads (flat_map f xs) ≡ 0
heads_each f each [] = refl
heads_each f each (x ∷ xs) = omega (arith, heads-append (f x) (flat_map f xs), each x, heads_each f each xs)

heads_part : (p : Part) → heads (written_part p) ≡ 0
heads_part (bounds bs) = omega (arith, heads_each written_bound heads_bound bs)
heads_part (generals ns) = omega (arith, heads_placed listed (map name ns) refl)
heads_part (binaries ns) = omega (arith, heads_placed listed (map name ns) refl)

heads_tree : (t : SyntaxTree) → heads (written t) ≡ length t.rows
unfolding written
heads_tree t =
    let rs : List Written = flat_map written_row t.rows in
    let ps : List Written = flat_map written_part t.parts in
    let objective : List Symbol = spelled_label t.label ++ (elim t.objective [ None ↦ [] | Some e ↦ spelled_sum spelled_item e ]) in
    omega (
      arith,
      heads-append (written_objective t) (written_word sections.Rows ∷ (rs ++ (ps ++ (written_word sections.End ∷ [])))),
      heads_objective objective,
      heads-append rs (ps ++ (written_word sections.End ∷ [])),
      heads-append ps (written_word sections.End ∷ []),
      heads_rows t.rows,
      heads_each written_part heads_part t.parts,
    )

-- each row is seen once
seen_rows : (ws : List Written) → length (filter_map (λ t. row_of t.site t.symbol t.next) (seen (map (λ w. w.site) ws) (map (λ w. w.symbol) ws))) ≡ heads ws
seen_rows [] = refl
seen_rows (w ∷ ws) = by w.site (seen_rows ws)
  where
    rest : List Seen
    rest = seen (map (λ v. v.site) ws) (map (λ v. v.symbol) ws)

    by : (site : Site) → length (filter_map (λ t. row_of t.site t.symbol t.next) rest) ≡ heads ws
        → length (cons_option (row_of site w.symbol (first_of_symbols (map (λ v. v.symbol) ws))) (filter_map (λ t. row_of t.site t.symbol t.next) rest)) ≡ begins site + heads ws
    by row_first e = omega arith
    by objective_first e = omega arith
    by objective_more e = omega arith
    by row_more e = omega arith
    by listed e = omega arith
    by other e = omega arith

places_seen : (i : ℕ) (ws : List Written) → length (row_places i (seen (map (λ w. w.site) ws) (map (λ w. w.symbol) ws))) ≡ heads ws
places_seen i [] = refl
places_seen i (w ∷ ws) = by w.site (places_seen (i + 1) ws)
  where
    rest : List Seen
    rest = seen (map (λ v. v.site) ws) (map (λ v. v.symbol) ws)

    by : (site : Site) → length (row_places (i + 1) rest) ≡ heads ws
        → length {A = ℕ} (elim site [ row_first ↦ i ∷ row_places (i + 1) rest | _ ↦ row_places (i + 1) rest ]) ≡ begins site + heads ws
    by row_first e = omega arith
    by objective_first e = omega arith
    by objective_more e = omega arith
    by row_more e = omega arith
    by listed e = omega arith
    by other e = omega arith

length-names_from : (k : ℕ) (labels : List (Option Name)) → length (names_from k labels) ≡ length labels
length-names_from k [] = refl
length-names_from k (None ∷ labels) = ap suc (length-names_from (k + 1) labels)
length-names_from k (Some n ∷ labels) = ap suc (length-names_from (k + 1) labels)

-- as many names as rows
pub length-row_names : (t : SyntaxTree) → length (row_names (tokens_of t)) ≡ length t.rows
unfolding row_names tokens_of sites spelling
length-row_names t = length-names_from 1 _ ∙ seen_rows (written t) ∙ heads_tree t

-- and as many places
pub length-row_places : (t : SyntaxTree) → length (row_places 0 (tokens_of t)) ≡ length t.rows
unfolding tokens_of sites spelling
length-row_places t = places_seen 0 (written t) ∙ heads_tree t
