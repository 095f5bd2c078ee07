-- A text's tree has names of the list, numbers of texts and few terms.
use Rattle.std.proofs.Common.{◌≡◌, ◌∙◌, refl, ap, subst, ℕ, ◌≤◌, false, List, [], ◌∷◌, ◌++◌, map, length, Option, Some, None, MatchOption, arith, if◌then◌else◌}
use Rattle.bp_theory.specs.Limits.{most_terms}
use Rattle.bp_theory.specs.declared.Limits.TheVariants.{Large}
use Rattle.std.specs.Prelude.{flat_map}
use Rattle.std.specs.List.{AllByRecursion}
use Rattle.std.specs.Option.{option_map}
use Rattle.std.proofs.lemmas.List.{append_assoc}
use Rattle.std.proofs.lemmas.List.Elements.{All-from_recursion}
use Rattle.lp_syntax.specs.Tree as plain
use Rattle.lp_syntax.specs.declared.tree.Comparison.{Comparison}
use Rattle.lp_syntax.specs.Tree.{Name, Symbol, word, name, number, infinity, sign, comparison, colon, unfit, Written, placed, headed, comparison_of, spelled_signs, spelled_signed, spelled_factor, spelled_term, spelled_item, spelled_value, spelled_sum, spelled_label, spelled_row, written_row, written_bound, written_part, written_objective, written_word, written, spelling, sites}
use Rattle.lp_syntax.specs.declared.tree.Sign.{Sign}
use Rattle.lp_syntax.specs.declared.tree.Site.{Site}
use Rattle.lp_syntax.specs.declared.tree.Site.TheVariants.{ObjectiveFirst as objective_first, ObjectiveMore as objective_more, RowFirst as row_first, RowMore as row_more, Listed as listed, Other as other}
use Rattle.lp_syntax.specs.Roles.{is_colon}
use Rattle.lp_syntax.specs.TreeIn.{name_in, term_in, item_in, sum_in, row_in, bound_in, part_in, label_in, tree_in}
use Rattle.lp_semantics.specs.Fit.{IsKnown, IsSmall, IsFitTerm, IsFitItem, IsFitSum, IsFitRow, IsFitValue, IsFitBound, IsFitPart, IsFitTree}
use Rattle.lp_syntax.specs.declared.tree.TextRange.{TextRange}
use Rattle.lp_syntax.specs.declared.tree.Signed.{Signed}
use Rattle.lp_syntax.specs.declared.tree.Term.{Term}
use Rattle.lp_syntax.specs.declared.tree.Item.{Item}
use Rattle.lp_syntax.specs.declared.tree.Item.TheVariants as items
use Rattle.lp_syntax.specs.declared.tree.Sum.{Sum}
use Rattle.lp_syntax.specs.declared.tree.Row.{Row}
use Rattle.lp_syntax.specs.declared.tree.Row.TheVariants as rows
use Rattle.lp_syntax.specs.declared.tree.Value.{Value}
use Rattle.lp_syntax.specs.declared.tree.Value.TheVariants as values
use Rattle.lp_syntax.specs.declared.tree.Bound.{Bound}
use Rattle.lp_syntax.specs.declared.tree.Bound.TheVariants as bounds
use Rattle.lp_syntax.specs.declared.tree.Part.{Part}
use Rattle.lp_syntax.specs.declared.tree.Part.TheVariants as parts
use Rattle.lp_syntax.specs.declared.tree.Tree.{Tree}
use Rattle.std.proofs.lemmas.List.Folds.{flat_map-map}
use Rattle.lp_token.specs.declared.Section.TheVariants as sections
use Rattle.lp_semantics.proofs.WalkLemmas.{follow, counted, Fine, fine_left, fine_right, placed_left, placed_right, behind, IsPlain, IsHead, Counts, fit_name, fit_signed, fit_term, fit_item, further, further_in, fit_more, head_term, head_constant, head_item, counted_term, weight_of, more_counted}

-- the sites of rows, of the objective and of lists
pub row_plain : IsPlain row_more
row_plain n next = refl

row_head : IsHead row_first
row_head n next apart = ap (λ b. if b then None else Some n) apart

pub row_counts : Counts row_more
row_counts n next = refl

pub objective_plain : IsPlain objective_more
objective_plain n next = refl

objective_head : IsHead objective_first
objective_head n next apart = ap (λ b. if b then None else Some n) apart

pub objective_counts : Counts objective_more
objective_counts n next = refl

list_plain : IsPlain listed
list_plain n next = refl

-- how many further summands a row's sum has
abbrev pub sum_size : {A : Type 0} → Sum A → ℕ
sum_size e = length e.more

pub length_weight : {A : Type 0} (more : List (Sign × A)) → weight_of (λ a. 1) more ≡ length more
length_weight [] = refl
length_weight (m ∷ more) = omega (arith, length_weight more)

-- the further terms of a row
fit_further : (text : List ℕ) (names : List Name) (next : Option Symbol) (more : List (Sign × Term))
    → Fine names next (placed row_more (further (λ t. spelled_term (term_in text t)) more))
    → AllByRecursion (λ (m : Sign × Term). IsFitTerm text names m.1) more × (length more ≤ most_terms Large)
fit_further text names next more h = (
  fit_more (IsFitTerm text names) (λ t. spelled_term (term_in text t)) names next row_more (λ t n g. fit_term text names n row_more t row_plain g) more h,
  omega (
    arith,
    length_weight more,
    h.few,
    more_counted (λ t. spelled_term (term_in text t)) (λ t. 1) next row_more (λ t n. counted_term text n row_more t row_counts) more,
  ),
)

-- a row's sum behind other symbols
fit_sum : (text : List ℕ) (names : List Name) (next : Option Symbol) (e : Sum Term)
    → Fine names next (placed row_more (spelled_sum spelled_term (sum_in (term_in text) e)))
    → IsFitSum (IsFitTerm text names) e × (sum_size e ≤ most_terms Large)
fit_sum text names next e h =
    let g : Fine names next (placed row_more (spelled_term (term_in text e.first) ++ further (λ t. spelled_term (term_in text t)) e.more)) =
    subst (λ ss. Fine names next (placed row_more (spelled_term (term_in text e.first) ++ ss))) (further_in (term_in text) spelled_term e.more) h in
    let r : AllByRecursion (λ (m : Sign × Term). IsFitTerm text names m.1) e.more × (length e.more ≤ most_terms Large) =
    fit_further text names next e.more (placed_right names next row_more (spelled_term (term_in text e.first)) (further (λ t. spelled_term (term_in text t)) e.more) g) in (
      record {
        first = fit_term text names (follow next (placed row_more (further (λ t. spelled_term (term_in text t)) e.more))) row_more e.first row_plain
            (placed_left names next row_more (spelled_term (term_in text e.first)) (further (λ t. spelled_term (term_in text t)) e.more) g);
        more = All-from_recursion (λ (m : Sign × Term). IsFitTerm text names m.1) e.more r.0;
      },
      r.1,
    )

-- no colon stands behind a first term
pub apart_more : {A : Type 0} (spelled : A → List Symbol) (site : Site) (next : Option Symbol) (c : Comparison) (ys : List Symbol) (more : List (Sign × A))
    → is_colon (follow next (placed site (further spelled more ++ (comparison c ∷ ys)))) ≡ false
apart_more spelled site next c ys [] = refl
apart_more spelled site next c ys (m ∷ more) = refl

pub apart_end : {A : Type 0} (spelled : A → List Symbol) (site : Site) (next : Option Symbol) → is_colon next ≡ false → (more : List (Sign × A))
    → is_colon (follow next (placed site (further spelled more))) ≡ false
apart_end spelled site next apart [] = apart
apart_end spelled site next apart (m ∷ more) = refl

-- a row's sum at its front
fit_front : (text : List ℕ) (names : List Name) (next : Option Symbol) (e : Sum Term) (c : Comparison) (ys : List Symbol)
    → Fine names next (headed row_first row_more (spelled_sum spelled_term (sum_in (term_in text) e) ++ (comparison c ∷ ys)))
    → IsFitSum (IsFitTerm text names) e × (sum_size e ≤ most_terms Large) × Fine names next (placed row_more ys)
fit_front text names next e c ys h =
    let more : List Symbol = further (λ t. spelled_term (term_in text t)) e.more in
    let first : List Symbol = spelled_term (term_in text e.first) in
    let regroup : spelled_sum spelled_term (sum_in (term_in text) e) ++ (comparison c ∷ ys) ≡ first ++ (more ++ (comparison c ∷ ys)) =
    ap (λ ss. (first ++ ss) ++ (comparison c ∷ ys)) (further_in (term_in text) spelled_term e.more) ∙ append_assoc first more (comparison c ∷ ys) in
    let r : IsFitTerm text names e.first × Fine names next (placed row_more (more ++ (comparison c ∷ ys))) =
    head_term text names next row_first row_more e.first (more ++ (comparison c ∷ ys)) row_head row_plain
    (apart_more (λ t. spelled_term (term_in text t)) row_more next c ys e.more)
    (subst (λ ss. Fine names next (headed row_first row_more ss)) regroup h) in
    let q : AllByRecursion (λ (m : Sign × Term). IsFitTerm text names m.1) e.more × (length e.more ≤ most_terms Large) =
    fit_further text names (follow next (placed row_more (comparison c ∷ ys))) e.more (placed_left names next row_more more (comparison c ∷ ys) r.1) in (
      record { first = r.0; more = All-from_recursion (λ (m : Sign × Term). IsFitTerm text names m.1) e.more q.0 },
      q.1,
      placed_right names next row_more (comparison c ∷ []) ys (placed_right names next row_more more (comparison c ∷ ys) r.1),
    )

-- how many further summands a row has
abbrev pub row_size : Row → ℕ
row_size (rows.ExpressionFirst label e c v) = sum_size e
row_size (rows.NumberFirst label v c e) = sum_size e
row_size (rows.Ranged label v d e w) = sum_size e

-- a number-first row behind its label, and behind its number
fit_behind_number : (text : List ℕ) (names : List Name) (next : Option Symbol) (c : Comparison) (e : Sum Term)
    → Fine names next (placed row_more (comparison c ∷ spelled_sum spelled_term (sum_in (term_in text) e)))
    → IsFitSum (IsFitTerm text names) e × (sum_size e ≤ most_terms Large)
fit_behind_number text names next c e h =
    fit_sum text names next e (placed_right names next row_more (comparison c ∷ []) (spelled_sum spelled_term (sum_in (term_in text) e)) h)

fit_behind_ranged : (text : List ℕ) (names : List Name) (next : Option Symbol) (c : Comparison) (e : Sum Term) (w : Signed)
    → Fine names next (placed row_more (comparison c ∷ (spelled_sum spelled_term (sum_in (term_in text) e) ++ (comparison c ∷ spelled_signed w))))
    → IsFitSum (IsFitTerm text names) e × (sum_size e ≤ most_terms Large) × IsSmall w
fit_behind_ranged text names next c e w h =
    let sum : List Symbol = spelled_sum spelled_term (sum_in (term_in text) e) in
    let g : Fine names next (placed row_more (sum ++ (comparison c ∷ spelled_signed w))) =
    placed_right names next row_more (comparison c ∷ []) (sum ++ (comparison c ∷ spelled_signed w)) h in
    let s : IsFitSum (IsFitTerm text names) e × (sum_size e ≤ most_terms Large) =
    fit_sum text names (follow next (placed row_more (comparison c ∷ spelled_signed w))) e (placed_left names next row_more sum (comparison c ∷ spelled_signed w) g) in (
      s.0,
      s.1,
      fit_signed names next row_more w (placed_right names next row_more (comparison c ∷ []) (spelled_signed w)
          (placed_right names next row_more sum (comparison c ∷ spelled_signed w) g)),
    )

fit_row : (text : List ℕ) (names : List Name) (next : Option Symbol) (r : Row) → Fine names next (written_row (row_in text r))
    → IsFitRow text names r × (row_size r ≤ most_terms Large)
fit_row text names next (rows.ExpressionFirst None e c v) h =
    let s : IsFitSum (IsFitTerm text names) e × (sum_size e ≤ most_terms Large) × Fine names next (placed row_more (spelled_signed v)) =
    fit_front text names next e c (spelled_signed v) h in
    ((s.0, fit_signed names next row_more v s.2), s.1)
fit_row text names next (rows.ExpressionFirst (Some l) e c v) h =
    let sum : List Symbol = spelled_sum spelled_term (sum_in (term_in text) e) in
    let g : Fine names next (placed row_more (sum ++ (comparison c ∷ spelled_signed v))) =
    behind names next row_first row_more (name (name_in text l)) (colon ∷ []) (sum ++ (comparison c ∷ spelled_signed v)) h in
    let s : IsFitSum (IsFitTerm text names) e × (sum_size e ≤ most_terms Large) =
    fit_sum text names (follow next (placed row_more (comparison c ∷ spelled_signed v))) e (placed_left names next row_more sum (comparison c ∷ spelled_signed v) g) in (
      (
        s.0,
        fit_signed names next row_more v (placed_right names next row_more (comparison c ∷ []) (spelled_signed v)
            (placed_right names next row_more sum (comparison c ∷ spelled_signed v) g)),
      ),
      s.1,
    )
fit_row text names next (rows.NumberFirst None v c e) h =
    let r : IsSmall v × Fine names next (placed row_more (comparison c ∷ spelled_sum spelled_term (sum_in (term_in text) e))) =
    head_constant names next row_first row_more v (comparison c ∷ spelled_sum spelled_term (sum_in (term_in text) e)) h in
    let s : IsFitSum (IsFitTerm text names) e × (sum_size e ≤ most_terms Large) = fit_behind_number text names next c e r.1 in
    ((s.0, r.0), s.1)
fit_row text names next (rows.NumberFirst (Some l) v c e) h =
    let rest : List Symbol = comparison c ∷ spelled_sum spelled_term (sum_in (term_in text) e) in
    let g : Fine names next (placed row_more (spelled_signed v ++ rest)) =
    behind names next row_first row_more (name (name_in text l)) (colon ∷ []) (spelled_signed v ++ rest) h in
    let s : IsFitSum (IsFitTerm text names) e × (sum_size e ≤ most_terms Large) =
    fit_behind_number text names next c e (placed_right names next row_more (spelled_signed v) rest g) in
    ((s.0, fit_signed names (follow next (placed row_more rest)) row_more v (placed_left names next row_more (spelled_signed v) rest g)), s.1)
fit_row text names next (rows.Ranged None v d e w) h =
    let c : Comparison = comparison_of d in
    let rest : List Symbol = comparison c ∷ (spelled_sum spelled_term (sum_in (term_in text) e) ++ (comparison c ∷ spelled_signed w)) in
    let r : IsSmall v × Fine names next (placed row_more rest) = head_constant names next row_first row_more v rest h in
    let s : IsFitSum (IsFitTerm text names) e × (sum_size e ≤ most_terms Large) × IsSmall w = fit_behind_ranged text names next c e w r.1 in
    ((s.0, r.0, s.2), s.1)
fit_row text names next (rows.Ranged (Some l) v d e w) h =
    let c : Comparison = comparison_of d in
    let rest : List Symbol = comparison c ∷ (spelled_sum spelled_term (sum_in (term_in text) e) ++ (comparison c ∷ spelled_signed w)) in
    let g : Fine names next (placed row_more (spelled_signed v ++ rest)) =
    behind names next row_first row_more (name (name_in text l)) (colon ∷ []) (spelled_signed v ++ rest) h in
    let s : IsFitSum (IsFitTerm text names) e × (sum_size e ≤ most_terms Large) × IsSmall w =
    fit_behind_ranged text names next c e w (placed_right names next row_more (spelled_signed v) rest g) in
    ((s.0, fit_signed names (follow next (placed row_more rest)) row_more v (placed_left names next row_more (spelled_signed v) rest g), s.2), s.1)

-- the terms among an objective's items
abbrev pub item_weight : Item → ℕ
item_weight (items.Term t) = 1
item_weight (items.Constant c) = 0

abbrev pub objective_size : Option (Sum Item) → ℕ
objective_size None = 0
objective_size (Some e) = weight_of item_weight e.more

pub item_counted : (text : List ℕ) (i : Item) (next : Option Symbol) → item_weight i ≤ counted next (placed objective_more (spelled_item (item_in text i)))
item_counted text (items.Term t) next = counted_term text next objective_more t objective_counts
item_counted text (items.Constant c) next = omega arith

abbrev pub objective_symbols : Option (plain.Sum plain.Item) → List Symbol
objective_symbols None = []
objective_symbols (Some e) = spelled_sum spelled_item e

-- the items behind a label
fit_items : (text : List ℕ) (names : List Name) (next : Option Symbol) (more : List (Sign × Item))
    → Fine names next (placed objective_more (further (λ i. spelled_item (item_in text i)) more))
    → AllByRecursion (λ (m : Sign × Item). IsFitItem text names m.1) more × (weight_of item_weight more ≤ most_terms Large)
fit_items text names next more h = (
  fit_more (IsFitItem text names) (λ i. spelled_item (item_in text i)) names next objective_more (λ i n g. fit_item text names n objective_more i objective_plain g) more h,
  omega (arith, h.few, more_counted (λ i. spelled_item (item_in text i)) item_weight next objective_more (λ i n. item_counted text i n) more),
)

fit_objective : (text : List ℕ) (names : List Name) (next : Option Symbol) (label : Option TextRange) (objective : Option (Sum Item)) → is_colon next ≡ false
    → Fine names next (headed objective_first objective_more (spelled_label (label_in text label) ++ objective_symbols (option_map (sum_in (item_in text)) objective)))
    → MatchOption objective (Unit {0}) (IsFitSum (IsFitItem text names)) × (objective_size objective ≤ most_terms Large)
fit_objective text names next label None apart h = (tt, omega arith)
fit_objective text names next None (Some e) apart h =
    let more : List Symbol = further (λ i. spelled_item (item_in text i)) e.more in
    let r : IsFitItem text names e.first × Fine names next (placed objective_more more) =
    head_item text names next objective_first objective_more e.first more objective_head objective_plain
    (apart_end (λ i. spelled_item (item_in text i)) objective_more next apart e.more)
    (subst (λ ss. Fine names next (headed objective_first objective_more (spelled_item (item_in text e.first) ++ ss))) (further_in (item_in text) spelled_item e.more) h) in
    let q : AllByRecursion (λ (m : Sign × Item). IsFitItem text names m.1) e.more × (weight_of item_weight e.more ≤ most_terms Large) = fit_items text names next e.more r.1 in
    (record { first = r.0; more = All-from_recursion (λ (m : Sign × Item). IsFitItem text names m.1) e.more q.0 }, q.1)
fit_objective text names next (Some l) (Some e) apart h =
    let more : List Symbol = further (λ i. spelled_item (item_in text i)) e.more in
    let first : List Symbol = spelled_item (item_in text e.first) in
    let g : Fine names next (placed objective_more (first ++ more)) =
    subst (λ ss. Fine names next (placed objective_more (first ++ ss))) (further_in (item_in text) spelled_item e.more)
    (behind names next objective_first objective_more (name (name_in text l)) (colon ∷ []) (spelled_sum spelled_item (sum_in (item_in text) e)) h) in
    let q : AllByRecursion (λ (m : Sign × Item). IsFitItem text names m.1) e.more × (weight_of item_weight e.more ≤ most_terms Large) =
    fit_items text names next e.more (placed_right names next objective_more first more g) in (
      record {
        first = fit_item text names (follow next (placed objective_more more)) objective_more e.first objective_plain (placed_left names next objective_more first more g);
        more = All-from_recursion (λ (m : Sign × Item). IsFitItem text names m.1) e.more q.0;
      },
      q.1,
    )

-- bounds and lists
fit_value : (names : List Name) (next : Option Symbol) (site : Site) (v : Value) → Fine names next (placed site (spelled_value v)) → IsFitValue v
fit_value names next site (values.Finite v) h = fit_signed names next site v h
fit_value names next site (values.Endless signs) h = tt

fit_bound : (text : List ℕ) (names : List Name) (next : Option Symbol) (b : Bound) → Fine names next (written_bound (bound_in text b)) → IsFitBound text names b
fit_bound text names next (bounds.ValueFirst v c n) h =
    let here : List Written = placed listed (name (name_in text n) ∷ []) in
    let front : List Written = placed other (spelled_value v ++ (comparison c ∷ [])) in (
      fit_value names _ other v (placed_left names (follow next here) other (spelled_value v) (comparison c ∷ []) (fine_left names next front here h)),
      fit_name names next listed (name_in text n) list_plain (fine_right names next front here h),
    )
fit_bound text names next (bounds.NameFirst n c v) h =
    let here : List Written = placed listed (name (name_in text n) ∷ []) in
    let rest : List Written = placed other (comparison c ∷ spelled_value v) in (
      fit_value names next other v (placed_right names next other (comparison c ∷ []) (spelled_value v) (fine_right names next here rest h)),
      fit_name names (follow next rest) listed (name_in text n) list_plain (fine_left names next here rest h),
    )
fit_bound text names next (bounds.Between v d n w) h =
    let c : Comparison = comparison_of d in
    let here : List Written = placed listed (name (name_in text n) ∷ []) in
    let rest : List Written = placed other (comparison c ∷ spelled_value w) in
    let front : List Written = placed other (spelled_value v ++ (comparison c ∷ [])) in
    let back : Fine names next (here ++ rest) = fine_right names next front (here ++ rest) h in (
      fit_value names _ other v (placed_left names (follow next (here ++ rest)) other (spelled_value v) (comparison c ∷ []) (fine_left names next front (here ++ rest) h)),
      fit_value names next other w (placed_right names next other (comparison c ∷ []) (spelled_value w) (fine_right names next here rest back)),
      fit_name names (follow next rest) listed (name_in text n) list_plain (fine_left names next here rest back),
    )
fit_bound text names next (bounds.Free n w) h =
    let here : List Written = placed listed (name (name_in text n) ∷ []) in
    let rest : List Written = placed other (name (name_in text w) ∷ []) in
    fit_name names (follow next rest) listed (name_in text n) list_plain (fine_left names next here rest h)

fit_list : (text : List ℕ) (names : List Name) (next : Option Symbol) (ns : List TextRange) → Fine names next (placed listed (map name (map (name_in text) ns))) → AllByRecursion (IsKnown text names) ns
fit_list text names next [] h = tt
fit_list text names next (n ∷ ns) h =
    let rest : List Symbol = map name (map (name_in text) ns) in (
      fit_name names (follow next (placed listed rest)) listed (name_in text n) list_plain (placed_left names next listed (name (name_in text n) ∷ []) rest h),
      fit_list text names next ns (placed_right names next listed (name (name_in text n) ∷ []) rest h),
    )

-- what is written one after another
fit_each : {A : Type 0} (P : A → Type 0) (f : A → List Written) (names : List Name) (next : Option Symbol)
    → ((a : A) (n : Option Symbol) → Fine names n (f a) → P a) → (xs : List A) → Fine names next (flat_map f xs) → AllByRecursion P xs
fit_each P f names next each [] h = tt
fit_each P f names next each (x ∷ xs) h =
    (each x (follow next (flat_map f xs)) (fine_left names next (f x) (flat_map f xs) h), fit_each P f names next each xs (fine_right names next (f x) (flat_map f xs) h))

fit_part : (text : List ℕ) (names : List Name) (next : Option Symbol) (p : Part) → Fine names next (written_part (part_in text p)) → IsFitPart text names p
fit_part text names next (parts.Bounds bs) h =
    let g : Fine names next (flat_map (λ b. written_bound (bound_in text b)) bs) =
    subst (Fine names next) (flat_map-map written_bound (bound_in text) bs)
    (fine_right names next (written_word sections.Bounds ∷ []) (flat_map written_bound (map (bound_in text) bs)) h) in
    All-from_recursion (IsFitBound text names) bs (fit_each (IsFitBound text names) (λ b. written_bound (bound_in text b)) names next (λ b n k. fit_bound text names n b k) bs g)
fit_part text names next (parts.Generals ns) h =
    All-from_recursion (IsKnown text names) ns (fit_list text names next ns
    (fine_right names next (written_word sections.Generals ∷ []) (placed listed (map name (map (name_in text) ns))) h))
fit_part text names next (parts.Binaries ns) h =
    All-from_recursion (IsKnown text names) ns (fit_list text names next ns
    (fine_right names next (written_word sections.Binaries ∷ []) (placed listed (map name (map (name_in text) ns))) h))

-- a tree that fits, with how many terms it has at most
pub record FitsWell (text : List ℕ) (names : List Name) (t : Tree) : Type 0 where
  pub fit : IsFitTree text names t
  pub few_costs : objective_size t.objective ≤ most_terms Large
  pub few_terms : AllByRecursion (λ r. row_size r ≤ most_terms Large) t.rows

pub fit_tree : (text : List ℕ) (names : List Name) (t : Tree) → Fine names None (written (tree_in text t)) → FitsWell text names t
unfolding written
fit_tree text names t h =
    let front : List Written = headed objective_first objective_more (spelled_label (label_in text t.label) ++ objective_symbols (option_map (sum_in (item_in text)) t.objective)) in
    let rs : List Written = flat_map written_row (map (row_in text) t.rows) in
    let ps : List Written = flat_map written_part (map (part_in text) t.parts) in
    let end : List Written = written_word sections.End ∷ [] in
    let tail : List Written = written_word sections.Rows ∷ (rs ++ (ps ++ end)) in
    let begin : List Written = written_word (if t.maximises then sections.Maximize else sections.Minimize) ∷ [] in
    let body : Fine names None (front ++ tail) =
    subst (λ ss. Fine names None (headed objective_first objective_more (spelled_label (label_in text t.label) ++ ss) ++ tail)) (same_symbols (option_map (sum_in (item_in text)) t.objective))
    (fine_right names None begin (written_objective (tree_in text t) ++ tail) h) in
    let o : MatchOption t.objective (Unit {0}) (IsFitSum (IsFitItem text names)) × (objective_size t.objective ≤ most_terms Large) =
    fit_objective text names (Some (word sections.Rows)) t.label t.objective refl (fine_left names None front tail body) in
    let behind_rows : Fine names None (rs ++ (ps ++ end)) =
    fine_right names None (written_word sections.Rows ∷ []) (rs ++ (ps ++ end)) (fine_right names None front tail body) in
    let rows_fine : Fine names (follow None (ps ++ end)) (flat_map (λ r. written_row (row_in text r)) t.rows) =
    subst (Fine names (follow None (ps ++ end))) (flat_map-map written_row (row_in text) t.rows) (fine_left names None rs (ps ++ end) behind_rows) in
    let parts_fine : Fine names (follow None end) (flat_map (λ p. written_part (part_in text p)) t.parts) =
    subst (Fine names (follow None end)) (flat_map-map written_part (part_in text) t.parts)
    (fine_left names None ps end (fine_right names None rs (ps ++ end) behind_rows)) in
    record {
      fit = record {
        objective = o.0;
        rows = All-from_recursion (IsFitRow text names) t.rows
            (fit_each (IsFitRow text names) (λ r. written_row (row_in text r)) names (follow None (ps ++ end)) (λ r n k. (fit_row text names n r k).0) t.rows rows_fine);
        parts = All-from_recursion (IsFitPart text names) t.parts
            (fit_each (IsFitPart text names) (λ p. written_part (part_in text p)) names (follow None end) (λ p n k. fit_part text names n p k) t.parts parts_fine);
      };
      few_costs = o.1;
      few_terms = fit_each (λ r. row_size r ≤ most_terms Large) (λ r. written_row (row_in text r)) names (follow None (ps ++ end)) (λ r n k. (fit_row text names n r k).1) t.rows rows_fine;
    }
  where
    same_symbols : (o : Option (plain.Sum plain.Item)) → (elim o [ None ↦ [] | Some e ↦ spelled_sum spelled_item e ]) ≡ objective_symbols o
    same_symbols None = refl
    same_symbols (Some e) = refl
