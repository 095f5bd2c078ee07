-- All terms of a tree are counted.
use Rattle.std.proofs.Common.{◌≡◌, ◌∙◌, refl, sym, ap, subst, ℕ, ◌+◌, ◌≤◌, true, false, List, [], ◌∷◌, ◌++◌, map, Option, Some, None, arith, if◌then◌else◌}
use Rattle.std.specs.Prelude.{flat_map}
use Rattle.std.specs.Option.{option_map}
use Rattle.std.proofs.lemmas.List.{append_assoc}
use Rattle.std.proofs.lemmas.List.Sums.{sum_by-cons}
use Rattle.lp_syntax.specs.Tree as plain
use Rattle.lp_syntax.specs.declared.tree.Comparison.{Comparison}
use Rattle.lp_syntax.specs.Tree.{Name, Symbol, word, name, number, infinity, sign, comparison, colon, unfit, Written, placed, headed, comparison_of, spelled_signs, spelled_signed, spelled_factor, spelled_term, spelled_item, spelled_value, spelled_sum, spelled_label, spelled_row, written_row, written_bound, written_part, written_objective, written_word, written, spelling, sites}
use Rattle.lp_syntax.specs.declared.tree.Sign.{Sign}
use Rattle.lp_syntax.specs.declared.tree.Site.{Site}
use Rattle.lp_syntax.specs.declared.tree.Site.TheVariants.{ObjectiveFirst as objective_first, ObjectiveMore as objective_more, RowFirst as row_first, RowMore as row_more}
use Rattle.lp_syntax.specs.Roles.{is_colon, counts_as_term}
use Rattle.lp_syntax.specs.TreeIn.{name_in, term_in, item_in, sum_in, row_in, part_in, label_in, tree_in}
use Rattle.lp_syntax.specs.declared.tree.TextRange.{TextRange}
use Rattle.lp_syntax.specs.declared.tree.Signed.{Signed}
use Rattle.lp_syntax.specs.declared.tree.Term.{Term}
use Rattle.lp_syntax.specs.declared.tree.Item.{Item}
use Rattle.lp_syntax.specs.declared.tree.Item.TheVariants as items
use Rattle.lp_syntax.specs.declared.tree.Sum.{Sum}
use Rattle.lp_syntax.specs.declared.tree.Row.{Row}
use Rattle.lp_syntax.specs.declared.tree.Row.TheVariants as rows
use Rattle.lp_syntax.specs.declared.tree.Tree.{Tree}
use Rattle.std.specs.Prelude.{not}
use Rattle.std.proofs.lemmas.List.Folds.{flat_map-map}
use Rattle.lp_token.specs.declared.Section.TheVariants as sections
use Rattle.lp_semantics.proofs.WalkLemmas.{follow, counted, counted-append, placed-append, Counts, further, further_in, counted_term, weight_of, more_counted}
use Rattle.lp_semantics.proofs.FitProof.{row_counts, objective_counts, apart_more, apart_end, sum_size, row_size, item_weight, item_counted, length_weight, objective_symbols}
use Rattle.std.specs.Prelude.{sum_by}

-- what is counted of a part is counted of the whole
part_left : (next : Option Symbol) (us ws : List Written) → counted (follow next ws) us ≤ counted next (us ++ ws)
part_left next us ws = omega (arith, counted-append next us ws)

part_right : (next : Option Symbol) (us ws : List Written) → counted next ws ≤ counted next (us ++ ws)
part_right next us ws = omega (arith, counted-append next us ws)

placed_both : (next : Option Symbol) (site : Site) (xs ys : List Symbol)
    → counted next (placed site (xs ++ ys)) ≡ counted (follow next (placed site ys)) (placed site xs) + counted next (placed site ys)
placed_both next site xs ys = ap (counted next) (placed-append site xs ys) ∙ counted-append next (placed site xs) (placed site ys)

behind_counted : (next : Option Symbol) (first more : Site) (s : Symbol) (xs ys : List Symbol)
    → counted next (placed more ys) ≤ counted next (headed first more (s ∷ (xs ++ ys)))
behind_counted next first more s xs ys =
    omega (arith, part_right next (record { symbol = s; site = first } ∷ []) (placed more (xs ++ ys)), placed_both next more xs ys)

-- a name is a term at the front unless it is a label
abbrev CountsFirst : Site → Type 0
CountsFirst site = (n : Name) (next : Option Symbol) → is_colon next ≡ false → counts_as_term site (name n) next ≡ true

row_first_counts : CountsFirst row_first
row_first_counts n next apart = ap not apart

objective_first_counts : CountsFirst objective_first
objective_first_counts n next apart = ap not apart

one_name : (next : Option Symbol) (site : Site) (n : Name) → Counts site → (front : List Symbol) → 1 ≤ counted next (placed site (front ++ (name n ∷ [])))
one_name next site n counts front =
    omega (arith, placed_both next site front (name n ∷ []), ap (λ b. (if b then 1 else 0) + 0) (counts n next))

head_counted : (text : List ℕ) (next : Option Symbol) (first more : Site) (t : Term) (rest : List Symbol) → CountsFirst first → Counts more
    → is_colon (follow next (placed more rest)) ≡ false
    → 1 + counted next (placed more rest) ≤ counted next (headed first more (spelled_term (term_in text t) ++ rest))
head_counted text next first more t rest head counts apart = by t.signs t.factor
  where
    n : Name
    n = name_in text t.variable

    by : (signs : List Sign) (factor : Option ℕ)
        → 1 + counted next (placed more rest) ≤ counted next (headed first more ((spelled_signs signs ++ (spelled_factor factor ++ (name n ∷ []))) ++ rest))
    by [] None = omega (arith, ap (λ b. (if b then 1 else 0) + counted next (placed more rest)) (head n (follow next (placed more rest)) apart))
    by [] (Some k) =
        omega (
          arith,
          behind_counted next first more (number k) [] (name n ∷ rest),
          ap (λ b. (if b then 1 else 0) + counted next (placed more rest)) (counts n (follow next (placed more rest))),
        )
    by (s ∷ signs) factor =
        let own : List Symbol = spelled_signs signs ++ (spelled_factor factor ++ (name n ∷ [])) in
        let split : own ≡ (spelled_signs signs ++ spelled_factor factor) ++ (name n ∷ []) = sym (append_assoc (spelled_signs signs) (spelled_factor factor) (name n ∷ [])) in
        omega (
          arith,
          behind_counted next first more (sign s) [] (own ++ rest),
          placed_both next more own rest,
          one_name (follow next (placed more rest)) more n counts (spelled_signs signs ++ spelled_factor factor),
          ap (λ ss. counted (follow next (placed more rest)) (placed more ss)) split,
        )

-- the terms of a row's sum
sum_counted : (text : List ℕ) (next : Option Symbol) (e : Sum Term) → 1 + sum_size e ≤ counted next (placed row_more (spelled_sum spelled_term (sum_in (term_in text) e)))
sum_counted text next e =
    let more : List Symbol = further (λ t. spelled_term (term_in text t)) e.more in
    let first : List Symbol = spelled_term (term_in text e.first) in
    omega (
      arith,
      ap (λ ss. counted next (placed row_more (first ++ ss))) (further_in (term_in text) spelled_term e.more),
      placed_both next row_more first more,
      counted_term text (follow next (placed row_more more)) row_more e.first row_counts,
      more_counted (λ t. spelled_term (term_in text t)) (λ t. 1) next row_more (λ t n. counted_term text n row_more t row_counts) e.more,
      length_weight e.more,
    )

front_counted : (text : List ℕ) (next : Option Symbol) (e : Sum Term) (c : Comparison) (ys : List Symbol)
    → 1 + sum_size e ≤ counted next (headed row_first row_more (spelled_sum spelled_term (sum_in (term_in text) e) ++ (comparison c ∷ ys)))
front_counted text next e c ys =
    let more : List Symbol = further (λ t. spelled_term (term_in text t)) e.more in
    let first : List Symbol = spelled_term (term_in text e.first) in
    let regroup : spelled_sum spelled_term (sum_in (term_in text) e) ++ (comparison c ∷ ys) ≡ first ++ (more ++ (comparison c ∷ ys)) =
    ap (λ ss. (first ++ ss) ++ (comparison c ∷ ys)) (further_in (term_in text) spelled_term e.more) ∙ append_assoc first more (comparison c ∷ ys) in
    omega (
      arith,
      ap (λ ss. counted next (headed row_first row_more ss)) regroup,
      head_counted text next row_first row_more e.first (more ++ (comparison c ∷ ys)) row_first_counts row_counts
          (apart_more (λ t. spelled_term (term_in text t)) row_more next c ys e.more),
      placed_both next row_more more (comparison c ∷ ys),
      more_counted (λ t. spelled_term (term_in text t)) (λ t. 1) (follow next (placed row_more (comparison c ∷ ys))) row_more (λ t n. counted_term text n row_more t row_counts) e.more,
      length_weight e.more,
    )

-- a sum behind a first symbol and before others
inner_counted : (text : List ℕ) (next : Option Symbol) (s : Symbol) (xs : List Symbol) (e : Sum Term) (ys : List Symbol)
    → 1 + sum_size e ≤ counted next (headed row_first row_more (s ∷ (xs ++ (spelled_sum spelled_term (sum_in (term_in text) e) ++ ys))))
inner_counted text next s xs e ys =
    let sum : List Symbol = spelled_sum spelled_term (sum_in (term_in text) e) in
    omega (
      arith,
      behind_counted next row_first row_more s xs (sum ++ ys),
      placed_both next row_more sum ys,
      sum_counted text (follow next (placed row_more ys)) e,
    )

last_counted : (text : List ℕ) (next : Option Symbol) (s : Symbol) (xs : List Symbol) (e : Sum Term)
    → 1 + sum_size e ≤ counted next (headed row_first row_more (s ∷ (xs ++ spelled_sum spelled_term (sum_in (term_in text) e))))
last_counted text next s xs e =
    omega (arith, behind_counted next row_first row_more s xs (spelled_sum spelled_term (sum_in (term_in text) e)), sum_counted text next e)

-- a number at the front, and what follows it
number_front : (P : List Symbol → Type 0) (v : Signed) (rest : List Symbol) → ((s : Symbol) (xs : List Symbol) → P (s ∷ (xs ++ rest))) → P (spelled_signed v ++ rest)
number_front P v rest h = by v.signs
  where
    by : (signs : List Sign) → P ((spelled_signs signs ++ (number v.size ∷ [])) ++ rest)
    by [] = h (number v.size) []
    by (s ∷ signs) = h (sign s) (spelled_signs signs ++ (number v.size ∷ []))

row_counted : (text : List ℕ) (next : Option Symbol) (r : Row) → 1 + row_size r ≤ counted next (written_row (row_in text r))
row_counted text next (rows.ExpressionFirst None e c v) = front_counted text next e c (spelled_signed v)
row_counted text next (rows.ExpressionFirst (Some l) e c v) = inner_counted text next (name (name_in text l)) (colon ∷ []) e (comparison c ∷ spelled_signed v)
row_counted text next (rows.NumberFirst None v c e) =
    let sum : List Symbol = spelled_sum spelled_term (sum_in (term_in text) e) in
    number_front (λ ss. 1 + sum_size e ≤ counted next (headed row_first row_more ss)) v (comparison c ∷ sum)
    (λ s xs. subst (λ ss. 1 + sum_size e ≤ counted next (headed row_first row_more (s ∷ ss))) (append_assoc xs (comparison c ∷ []) sum)
    (last_counted text next s (xs ++ (comparison c ∷ [])) e))
row_counted text next (rows.NumberFirst (Some l) v c e) =
    let sum : List Symbol = spelled_sum spelled_term (sum_in (term_in text) e) in
    subst (λ ss. 1 + sum_size e ≤ counted next (headed row_first row_more (name (name_in text l) ∷ (colon ∷ ss)))) (append_assoc (spelled_signed v) (comparison c ∷ []) sum)
    (last_counted text next (name (name_in text l)) (colon ∷ (spelled_signed v ++ (comparison c ∷ []))) e)
row_counted text next (rows.Ranged None v d e w) =
    let c : Comparison = comparison_of d in
    let tail : List Symbol = spelled_sum spelled_term (sum_in (term_in text) e) ++ (comparison c ∷ spelled_signed w) in
    number_front (λ ss. 1 + sum_size e ≤ counted next (headed row_first row_more ss)) v (comparison c ∷ tail)
    (λ s xs. subst (λ ss. 1 + sum_size e ≤ counted next (headed row_first row_more (s ∷ ss))) (append_assoc xs (comparison c ∷ []) tail)
    (inner_counted text next s (xs ++ (comparison c ∷ [])) e (comparison c ∷ spelled_signed w)))
row_counted text next (rows.Ranged (Some l) v d e w) =
    let c : Comparison = comparison_of d in
    let tail : List Symbol = spelled_sum spelled_term (sum_in (term_in text) e) ++ (comparison c ∷ spelled_signed w) in
    subst (λ ss. 1 + sum_size e ≤ counted next (headed row_first row_more (name (name_in text l) ∷ (colon ∷ ss)))) (append_assoc (spelled_signed v) (comparison c ∷ []) tail)
    (inner_counted text next (name (name_in text l)) (colon ∷ (spelled_signed v ++ (comparison c ∷ []))) e (comparison c ∷ spelled_signed w))

rows_counted : (text : List ℕ) (next : Option Symbol) (rs : List Row) → sum_by (λ r. 1 + row_size r) rs ≤ counted next (flat_map (λ r. written_row (row_in text r)) rs)
rows_counted text next [] = omega arith
rows_counted text next (r ∷ rs) =
    let rest : List Written = flat_map (λ q. written_row (row_in text q)) rs in
    omega (
      arith,
      sum_by-cons (λ q. 1 + row_size q) r rs,
      counted-append next (written_row (row_in text r)) rest,
      row_counted text (follow next rest) r,
      rows_counted text next rs,
    )

-- the terms of an objective
abbrev pub objective_count : Option (Sum Item) → ℕ
objective_count None = 0
objective_count (Some e) = item_weight e.first + weight_of item_weight e.more

items_counted : (text : List ℕ) (next : Option Symbol) (more : List (Sign × Item)) → weight_of item_weight more ≤ counted next (placed objective_more (further (λ i. spelled_item (item_in text i)) more))
items_counted text next more = more_counted (λ i. spelled_item (item_in text i)) item_weight next objective_more (λ i n. item_counted text i n) more

first_item : (text : List ℕ) (next : Option Symbol) (i : Item) (rest : List Symbol) → is_colon (follow next (placed objective_more rest)) ≡ false
    → item_weight i + counted next (placed objective_more rest) ≤ counted next (headed objective_first objective_more (spelled_item (item_in text i) ++ rest))
first_item text next (items.Term t) rest apart = head_counted text next objective_first objective_more t rest objective_first_counts objective_counts apart
first_item text next (items.Constant c) rest apart =
    number_front (λ ss. 0 + counted next (placed objective_more rest) ≤ counted next (headed objective_first objective_more ss)) c rest
    (λ s xs. omega (arith, behind_counted next objective_first objective_more s xs rest))

objective_counted : (text : List ℕ) (next : Option Symbol) (label : Option TextRange) (o : Option (Sum Item)) → is_colon next ≡ false
    → objective_count o ≤ counted next (headed objective_first objective_more (spelled_label (label_in text label) ++ objective_symbols (option_map (sum_in (item_in text)) o)))
objective_counted text next label None apart = omega arith
objective_counted text next None (Some e) apart =
    let more : List Symbol = further (λ i. spelled_item (item_in text i)) e.more in
    omega (
      arith,
      ap (λ ss. counted next (headed objective_first objective_more (spelled_item (item_in text e.first) ++ ss))) (further_in (item_in text) spelled_item e.more),
      first_item text next e.first more (apart_end (λ i. spelled_item (item_in text i)) objective_more next apart e.more),
      items_counted text next e.more,
    )
objective_counted text next (Some l) (Some e) apart =
    let more : List Symbol = further (λ i. spelled_item (item_in text i)) e.more in
    let first : List Symbol = spelled_item (item_in text e.first) in
    omega (
      arith,
      behind_counted next objective_first objective_more (name (name_in text l)) (colon ∷ []) (spelled_sum spelled_item (sum_in (item_in text) e)),
      ap (λ ss. counted next (placed objective_more (first ++ ss))) (further_in (item_in text) spelled_item e.more),
      placed_both next objective_more first more,
      item_counted text e.first (follow next (placed objective_more more)),
      items_counted text next e.more,
    )

-- the terms of a tree
pub terms_counted : (text : List ℕ) (t : Tree) → objective_count t.objective + sum_by (λ r. 1 + row_size r) t.rows ≤ counted None (written (tree_in text t))
unfolding written
terms_counted text t =
    let front : List Written = headed objective_first objective_more (spelled_label (label_in text t.label) ++ objective_symbols (option_map (sum_in (item_in text)) t.objective)) in
    let rs : List Written = flat_map written_row (map (row_in text) t.rows) in
    let ps : List Written = flat_map written_part (map (part_in text) t.parts) in
    let end : List Written = written_word sections.End ∷ [] in
    let tail : List Written = written_word sections.Rows ∷ (rs ++ (ps ++ end)) in
    let begin : List Written = written_word (if t.maximises then sections.Maximize else sections.Minimize) ∷ [] in
    omega (
      arith,
      part_right None begin (written_objective (tree_in text t) ++ tail),
      ap (λ ss. counted None (headed objective_first objective_more (spelled_label (label_in text t.label) ++ ss) ++ tail)) (same_symbols (option_map (sum_in (item_in text)) t.objective)),
      counted-append None front tail,
      objective_counted text (Some (word sections.Rows)) t.label t.objective refl,
      part_right None (written_word sections.Rows ∷ []) (rs ++ (ps ++ end)),
      part_left None rs (ps ++ end),
      ap (counted (follow None (ps ++ end))) (flat_map-map written_row (row_in text) t.rows),
      rows_counted text (follow None (ps ++ end)) t.rows,
    )
  where
    same_symbols : (o : Option (plain.Sum plain.Item)) → (elim o [ None ↦ [] | Some e ↦ spelled_sum spelled_item e ]) ≡ objective_symbols o
    same_symbols None = refl
    same_symbols (Some e) = refl
