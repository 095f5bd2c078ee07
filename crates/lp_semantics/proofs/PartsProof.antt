-- The parts of a text's tree fit together.
use Rattle.std.proofs.Common.{◌≡◌, ◌∙◌, refl, sym, ap, subst, ℕ, ◌+◌, ◌<◌, ◌≤◌, ◌^◌, Bool, false, List, [], ◌∷◌, map, length, Option, Some, None, All, Contains, MatchOption, arith}
use Rattle.bp_theory.specs.Limits.{most_digits, most_rows, most_terms, most_variables}
use Rattle.bp_theory.specs.declared.Limits.TheVariants.{Large}
use Rattle.bp_theory.specs.declared.Limits.{Limits}
use Rattle.bp_theory.proofs.LimitLaws.{few_rows, few_variables}
use Rattle.std.specs.Prelude.{filter_map}
use Rattle.std.specs.List.{AllByRecursion, cons_option}
use Rattle.std.specs.Option.{option_map}
use Rattle.std.proofs.lemmas.List.{take_all, length-map}
use Rattle.std.proofs.lemmas.List.Elements.{All-from_recursion, recursion_from_All}
use Rattle.bp_theory.specs.declared.Term as theory
use Rattle.bp_theory.specs.declared.Row as theory_row
use Rattle.bp_theory.specs.declared.Span.{Span}
use Rattle.bp_theory.specs.Decomposition.{HasVariablesBelow}
use Rattle.bp_theory.specs.Digits.{zone_bits}
use Rattle.bp_model.specs.declared.parts.Parts.{Parts}
use Rattle.bp_model.specs.Parts.{AreFitting}
use Rattle.lp_token.specs.declared.Tok.{Tok}
use Rattle.lp_token.specs.declared.LpKind.{LpKind}
use Rattle.lp_token.specs.declared.LpKind.TheVariants.{Limit}
use Rattle.lp_syntax.specs.Tree as plain
use Rattle.lp_syntax.specs.declared.tree.Direction.TheVariants.{Upward as upward, Downward as downward}
use Rattle.lp_syntax.specs.declared.tree.Direction.{Direction}
use Rattle.lp_syntax.specs.declared.tree.Comparison.{Comparison}
use Rattle.lp_syntax.specs.declared.tree.Comparison.TheVariants.{AtMost as at_most, AtLeast as at_least, Equal as equal}
use Rattle.lp_syntax.specs.Tree.{Name, written}
use Rattle.lp_syntax.specs.declared.tree.Sign.{Sign}
use Rattle.lp_syntax.specs.TreeIn.{name_in, term_in, item_in, sum_in, row_in, bound_in, part_in, tree_in}
use Rattle.lp_syntax.specs.Roles.{variables, row_names}
use Rattle.lp_semantics.specs.Meaning.{ends, span_of, tokens_of, as_items, items_of, objective_items, statements}
use Rattle.lp_semantics.specs.Reading.{IsTextOf, variable_fault, digits_fault, activity_fault, meaning_fault, or_else}
use Rattle.lp_semantics.specs.Numbered.{turned_by, raw_term, raw_item, raw_terms, raw_row, ends_in, fault_in, table_of, IsFirstPast}
use Rattle.lp_semantics.specs.PartsOf.{ArePartsOf, AreVariablesSound, IsRefused, IsFaultOfTable}
use Rattle.lp_semantics.specs.Fit.{IsKnown, IsFitTerm, IsFitItem, IsFitSum, IsFitRow, IsFitBound, IsFitPart}
use Rattle.lp_semantics.specs.declared.MeaningFault.{MeaningFault}
use Rattle.lp_semantics.specs.declared.MeaningFault.TheVariants.{At, Sums, NoMemory}
use Rattle.lp_semantics.specs.declared.bounds.Stated.{Stated}
use Rattle.lp_syntax.specs.declared.tree.TextRange.{TextRange}
use Rattle.lp_syntax.specs.declared.tree.Term.{Term}
use Rattle.lp_syntax.specs.declared.tree.Item.{Item}
use Rattle.lp_syntax.specs.declared.tree.Item.TheVariants as items
use Rattle.lp_syntax.specs.declared.tree.Sum.{Sum}
use Rattle.lp_syntax.specs.declared.tree.Row.{Row}
use Rattle.lp_syntax.specs.declared.tree.Row.TheVariants as rows
use Rattle.lp_syntax.specs.declared.tree.Bound.{Bound}
use Rattle.lp_syntax.specs.declared.tree.Bound.TheVariants as bounds
use Rattle.lp_syntax.specs.declared.tree.Part.{Part}
use Rattle.lp_syntax.specs.declared.tree.Part.TheVariants as parts
use Rattle.lp_syntax.specs.declared.tree.Tree.{Tree}
use Rattle.lp_semantics.proofs.NameNumbers.{number_within}
use Rattle.lp_semantics.proofs.TermLemmas.{more_items, row_terms}
use Rattle.lp_semantics.proofs.WalkLemmas.{weight_of}
use Rattle.lp_semantics.proofs.FitProof.{sum_size, row_size, item_weight, objective_size, FitsWell, fit_tree}
use Rattle.lp_semantics.proofs.FineProof.{fine_text, within_limits}
use Rattle.lp_semantics.proofs.TableLemmas.{AreNamed, HasNames}
use Rattle.lp_semantics.proofs.FaultLemmas.{Tells, table_tells, spans_are, no_variable, first_variable, few_digits, many_digits}
use Rattle.lp_semantics.proofs.RowLemmas.{length-row_names}

-- a text's tree fits
pub text_fits : (limits : Limits) (text : List ℕ) (tokens : List Tok) (t : Tree) (names : List Name) → IsTextOf limits text tokens (tree_in text t) → names ≡ variables (tokens_of (tree_in text t)) → FitsWell text names t
text_fits limits text tokens t names h e = fit_tree text names t (fine_text limits text tokens (tree_in text t) names h e)

-- the names of sections are in the list
bound_named : (text : List ℕ) (names : List Name) (b : Bound) → IsFitBound text names b → AreNamed names (statements (bound_in text b))
bound_named text names (bounds.ValueFirst v c n) h = compared_named c
  where
    compared_named : (c : Comparison) → AreNamed names (statements (plain.value_first v c (name_in text n)))
    compared_named at_most = (h.1, tt)
    compared_named at_least = (h.1, tt)
    compared_named equal = (h.1, (h.1, tt))
bound_named text names (bounds.NameFirst n c v) h = compared_named c
  where
    compared_named : (c : Comparison) → AreNamed names (statements (plain.name_first (name_in text n) c v))
    compared_named at_most = (h.1, tt)
    compared_named at_least = (h.1, tt)
    compared_named equal = (h.1, (h.1, tt))
bound_named text names (bounds.Between v d n w) h = between_named d
  where
    between_named : (d : Direction) → AreNamed names (statements (plain.between v d (name_in text n) w))
    between_named upward = (h.2, (h.2, tt))
    between_named downward = (h.2, (h.2, tt))
bound_named text names (bounds.Free n w) h = (h, (h, tt))

bounds_named : (text : List ℕ) (names : List Name) (bs : List Bound) → AllByRecursion (IsFitBound text names) bs → AllByRecursion (λ b. AreNamed names (statements b)) (map (bound_in text) bs)
bounds_named text names [] h = tt
bounds_named text names (b ∷ bs) h = (bound_named text names b h.0, bounds_named text names bs h.1)

list_named : (text : List ℕ) (names : List Name) (ns : List TextRange) → AllByRecursion (IsKnown text names) ns → AllByRecursion (Contains names) (map (name_in text) ns)
list_named text names [] h = tt
list_named text names (n ∷ ns) h = (h.0, list_named text names ns h.1)

part_named : (text : List ℕ) (names : List Name) (p : Part) → IsFitPart text names p → HasNames names (part_in text p)
part_named text names (parts.Bounds bs) h = bounds_named text names bs (recursion_from_All (IsFitBound text names) bs h)
part_named text names (parts.Generals ns) h = list_named text names ns (recursion_from_All (IsKnown text names) ns h)
part_named text names (parts.Binaries ns) h = list_named text names ns (recursion_from_All (IsKnown text names) ns h)

parts_named : (text : List ℕ) (names : List Name) (ps : List Part) → AllByRecursion (IsFitPart text names) ps → AllByRecursion (HasNames names) (map (part_in text) ps)
parts_named text names [] h = tt
parts_named text names (p ∷ ps) h = (part_named text names p h.0, parts_named text names ps h.1)

-- the table of a text's tree
pub text_tells : (limits : Limits) (text : List ℕ) (tokens : List Tok) (t : Tree) (names : List Name) (table : List Stated)
    → IsTextOf limits text tokens (tree_in text t) → names ≡ variables (tokens_of (tree_in text t))
    → table ≡ table_of names (map (part_in text) t.parts) → Tells (tree_in text t) table
text_tells limits text tokens t names table h e made =
    let fit : FitsWell text names t = text_fits limits text tokens t names h e in
    let there : AllByRecursion (HasNames names) (map (part_in text) t.parts) =
    parts_named text names t.parts (recursion_from_All (IsFitPart text names) t.parts fit.fit.parts) in
    let own : AllByRecursion (HasNames (variables (tokens_of (tree_in text t)))) (map (part_in text) t.parts) =
    subst (λ ns. AllByRecursion (HasNames ns) (map (part_in text) t.parts)) e there in
    subst (Tells (tree_in text t)) (sym (made ∙ ap (λ ns. table_of ns (map (part_in text) t.parts)) e)) (table_tells (tree_in text t) own)

-- a fault of variables is the tree's first
variable_first : (limits : Limits) (t : plain.SyntaxTree) (f : ℕ × LpKind) → variable_fault t ≡ Some f → meaning_fault limits t ≡ Some f
unfolding meaning_fault
variable_first limits t f e = ap (λ o. or_else o (or_else (digits_fault limits t) (activity_fault t))) e

digits_first : (limits : Limits) (t : plain.SyntaxTree) (f : ℕ × LpKind) → variable_fault t ≡ None → digits_fault limits t ≡ Some f → meaning_fault limits t ≡ Some f
unfolding meaning_fault
digits_first limits t f none e = ap (λ o. or_else o (or_else (digits_fault limits t) (activity_fault t))) none ∙ ap (λ o. or_else o (activity_fault t)) e

-- what a table's first fault is for the tree
pub refused : (limits : Limits) (t : plain.SyntaxTree) (table : List Stated) (fault : MeaningFault) → Tells t table → IsFaultOfTable table fault → IsRefused limits t fault
refused limits t table (At v kind) h first = (omega (arith, first.there, h.long), variable_first limits t _ (first_variable t table v kind h first))
refused limits t table (Sums row) h first = absurd first
refused limits t table NoMemory h first = tt

-- what is too many digits for the tree
pub refused_past : (limits : Limits) (t : plain.SyntaxTree) (table : List Stated) (spans : List Span) (v : ℕ) → Tells t table → All (λ s. fault_in s ≡ None) table
    → spans ≡ map (λ s. span_of (ends_in s)) table → IsFirstPast limits spans v → IsRefused limits t (At v Limit)
refused_past limits t table spans v h sound e past = (
  omega (arith, past.there, ap length e, length-map table (λ s. span_of (ends_in s)), h.long),
  digits_first limits t _ (no_variable t table h sound) (many_digits limits t spans v (e ∙ spans_are t table h) past),
)

pub variables_sound : (limits : Limits) (t : plain.SyntaxTree) (table : List Stated) (spans : List Span) → Tells t table → All (λ s. fault_in s ≡ None) table
    → spans ≡ map (λ s. span_of (ends_in s)) table → zone_bits spans ≤ most_digits limits → AreVariablesSound limits t
variables_sound limits t table spans h sound e few = record {
  variables = no_variable t table h sound;
  digits = few_digits limits t spans (e ∙ spans_are t table h) few;
}

-- the terms of rows and of the objective name variables of the list, and are few
abbrev pub IsBelow : ℕ → theory.Term → Type 0
IsBelow n t = t.var < n

term_below : (text : List ℕ) (names : List Name) (turned : Bool) (t : Term) → IsFitTerm text names t → IsBelow (length names) (raw_term names turned (term_in text t))
term_below text names turned t h = number_within names (name_in text t.variable) h.known

pub row_raw : (text : List ℕ) (names : List Name) (e : Sum Term)
    → raw_terms names false (as_items (sum_in (term_in text) e)) ≡ raw_term names false (term_in text e.first) ∷ map (λ (m : Sign × Term). raw_term names (turned_by false m.0) (term_in text m.1)) e.more
row_raw text names e =
    sym (row_terms text names e (length e.more) e.more (raw_term names false (term_in text e.first) ∷ map (λ (m : Sign × Term). raw_term names (turned_by false m.0) (term_in text m.1)) e.more)
    refl (omega arith)
    (ap (λ ms. raw_term names false (term_in text e.first) ∷ map (λ (m : Sign × Term). raw_term names (turned_by false m.0) (term_in text m.1)) ms) (sym (take_all (length e.more) e.more (omega arith)))))

sum_below : (text : List ℕ) (names : List Name) (e : Sum Term) → IsFitSum (IsFitTerm text names) e
    → AllByRecursion (IsBelow (length names)) (raw_terms names false (as_items (sum_in (term_in text) e)))
sum_below text names e h =
    subst (AllByRecursion (IsBelow (length names))) (sym (row_raw text names e))
    (term_below text names false e.first h.first, each e.more (recursion_from_All (λ (m : Sign × Term). IsFitTerm text names m.1) e.more h.more))
  where
    each : (more : List (Sign × Term)) → AllByRecursion (λ (m : Sign × Term). IsFitTerm text names m.1) more
        → AllByRecursion (IsBelow (length names)) (map (λ (m : Sign × Term). raw_term names (turned_by false m.0) (term_in text m.1)) more)
    each [] all = tt
    each (m ∷ more) all = (term_below text names (turned_by false m.0) m.1 all.0, each more all.1)

sum_few : (text : List ℕ) (names : List Name) (e : Sum Term) → sum_size e ≤ most_terms Large
    → length (raw_terms names false (as_items (sum_in (term_in text) e))) < 2 ^ 32
sum_few text names e l =
    omega (arith, l, ap length (row_raw text names e), length-map e.more (λ (m : Sign × Term). raw_term names (turned_by false m.0) (term_in text m.1)))

pub row_below : (text : List ℕ) (names : List Name) (r : Row) → IsFitRow text names r → AllByRecursion (IsBelow (length names)) (raw_row names (row_in text r)).terms
row_below text names (rows.ExpressionFirst label e c v) h = sum_below text names e h.0
row_below text names (rows.NumberFirst label v c e) h = sum_below text names e h.0
row_below text names (rows.Ranged label v upward e w) h = sum_below text names e h.0
row_below text names (rows.Ranged label v downward e w) h = sum_below text names e h.0

row_few : (text : List ℕ) (names : List Name) (r : Row) → row_size r ≤ most_terms Large → length (raw_row names (row_in text r)).terms < 2 ^ 32
row_few text names (rows.ExpressionFirst label e c v) l = sum_few text names e l
row_few text names (rows.NumberFirst label v c e) l = sum_few text names e l
row_few text names (rows.Ranged label v upward e w) l = sum_few text names e l
row_few text names (rows.Ranged label v downward e w) l = sum_few text names e l

rows_each : (P : theory_row.Row → Type 0) (text : List ℕ) (names : List Name) → (rs : List Row) → AllByRecursion (λ r. P (raw_row names (row_in text r))) rs
    → AllByRecursion P (map (raw_row names) (map (row_in text) rs))
rows_each P text names [] h = tt
rows_each P text names (r ∷ rs) h = (h.0, rows_each P text names rs h.1)

-- the objective's items
pub items_raw : (text : List ℕ) (names : List Name) (turned : Bool) (e : Sum Item)
    → raw_terms names turned (items_of (sum_in (item_in text) e))
    ≡ cons_option (raw_item names turned (item_in text e.first)) (filter_map (λ (m : Sign × Item). raw_item names (turned_by turned m.0) (item_in text m.1)) e.more)
items_raw text names turned e = ap (cons_option (raw_item names turned (item_in text e.first))) (sym (more_items (item_in text) names turned e.more))

joined_below : (n : ℕ) (o : Option theory.Term) (ts : List theory.Term) → MatchOption o (Unit {0}) (IsBelow n) → AllByRecursion (IsBelow n) ts → AllByRecursion (IsBelow n) (cons_option o ts)
joined_below n None ts h all = all
joined_below n (Some t) ts h all = (h, all)

item_below : (text : List ℕ) (names : List Name) (turned : Bool) (i : Item) → IsFitItem text names i → MatchOption (raw_item names turned (item_in text i)) (Unit {0}) (IsBelow (length names))
item_below text names turned (items.Term t) h = term_below text names turned t h
item_below text names turned (items.Constant c) h = tt

items_below : (text : List ℕ) (names : List Name) (turned : Bool) (e : Sum Item) → IsFitSum (IsFitItem text names) e
    → AllByRecursion (IsBelow (length names)) (raw_terms names turned (items_of (sum_in (item_in text) e)))
items_below text names turned e h =
    subst (AllByRecursion (IsBelow (length names))) (sym (items_raw text names turned e))
    (joined_below (length names) (raw_item names turned (item_in text e.first)) (filter_map (λ (m : Sign × Item). raw_item names (turned_by turned m.0) (item_in text m.1)) e.more)
    (item_below text names turned e.first h.first) (each e.more (recursion_from_All (λ (m : Sign × Item). IsFitItem text names m.1) e.more h.more)))
  where
    each : (more : List (Sign × Item)) → AllByRecursion (λ (m : Sign × Item). IsFitItem text names m.1) more
        → AllByRecursion (IsBelow (length names)) (filter_map (λ (m : Sign × Item). raw_item names (turned_by turned m.0) (item_in text m.1)) more)
    each [] all = tt
    each (m ∷ more) all =
        joined_below (length names) (raw_item names (turned_by turned m.0) (item_in text m.1)) (filter_map (λ (k : Sign × Item). raw_item names (turned_by turned k.0) (item_in text k.1)) more)
        (item_below text names (turned_by turned m.0) m.1 all.0) (each more all.1)

pub item_size : (text : List ℕ) (names : List Name) (turned : Bool) (i : Item) (ts : List theory.Term) → length (cons_option (raw_item names turned (item_in text i)) ts) ≡ item_weight i + length ts
item_size text names turned (items.Term t) ts = omega arith
item_size text names turned (items.Constant c) ts = omega arith

items_few : (text : List ℕ) (names : List Name) (turned : Bool) (e : Sum Item) → weight_of item_weight e.more ≤ most_terms Large
    → length (raw_terms names turned (items_of (sum_in (item_in text) e))) < 2 ^ 32
items_few text names turned e l =
    omega (
      arith,
      l,
      ap length (items_raw text names turned e),
      item_size text names turned e.first (filter_map (λ (m : Sign × Item). raw_item names (turned_by turned m.0) (item_in text m.1)) e.more),
      at_most_one e.first,
      each e.more,
    )
  where
    at_most_one : (i : Item) → item_weight i ≤ 1
    at_most_one (items.Term t) = omega arith
    at_most_one (items.Constant c) = omega arith

    each : (more : List (Sign × Item)) → length (filter_map (λ (m : Sign × Item). raw_item names (turned_by turned m.0) (item_in text m.1)) more) ≡ weight_of item_weight more
    each [] = refl
    each (m ∷ more) =
        item_size text names (turned_by turned m.0) m.1 (filter_map (λ (k : Sign × Item). raw_item names (turned_by turned k.0) (item_in text k.1)) more)
        ∙ ap (λ k. item_weight m.1 + k) (each more)

pub objective_below : (text : List ℕ) (names : List Name) (turned : Bool) (o : Option (Sum Item)) → MatchOption o (Unit {0}) (IsFitSum (IsFitItem text names))
    → AllByRecursion (IsBelow (length names)) (raw_terms names turned (elim (option_map (sum_in (item_in text)) o) [ None ↦ [] | Some e ↦ items_of e ]))
objective_below text names turned None h = tt
objective_below text names turned (Some e) h = items_below text names turned e h

objective_few : (text : List ℕ) (names : List Name) (turned : Bool) (o : Option (Sum Item)) → objective_size o ≤ most_terms Large
    → length (raw_terms names turned (elim (option_map (sum_in (item_in text)) o) [ None ↦ [] | Some e ↦ items_of e ])) < 2 ^ 32
objective_few text names turned None l = omega arith
objective_few text names turned (Some e) l = items_few text names turned e l

-- the parts fit together
pub parts_fit : (limits : Limits) (text : List ℕ) (tokens : List Tok) (t : Tree) (p : Parts) → IsTextOf limits text tokens (tree_in text t) → ArePartsOf limits (tree_in text t) p → AreFitting p
parts_fit limits text tokens t p h are =
    let names : List Name = variables (tokens_of (tree_in text t)) in
    let fit : FitsWell text names t = text_fits limits text tokens t names h refl in
    let within : (length (variables (tokens_of (tree_in text t))) ≤ most_variables limits) × (length (row_names (tokens_of (tree_in text t))) ≤ most_rows limits) × _ = within_limits limits (tokens_of (tree_in text t)) h.roles in
    let long : length p.spans ≡ length names = ap length are.spans ∙ length-map names (λ n. span_of (ends (tree_in text t) n)) in
    let tall : length p.rows ≡ length t.rows = ap length are.rows ∙ length-map (map (row_in text) t.rows) (raw_row names) ∙ length-map t.rows (row_in text) in
    let rows_named : length (row_names (tokens_of (tree_in text t))) ≡ length t.rows = length-row_names (tree_in text t) ∙ length-map t.rows (row_in text) in
    record {
      named = ap length are.names ∙ sym long;
      row_named = ap length are.row_names ∙ rows_named ∙ sym tall;
      variables = omega (arith, long, within.0, few_variables limits);
      rows = omega (arith, tall, rows_named, within.1, few_rows limits);
      few_costs = omega (arith, ap length are.costs, objective_few text names t.maximises t.objective fit.few_costs);
      few_terms = subst (All (λ (row : theory_row.Row). length row.terms < 2 ^ 32)) (sym are.rows)
          (All-from_recursion (λ (row : theory_row.Row). length row.terms < 2 ^ 32) (map (raw_row names) (map (row_in text) t.rows))
          (rows_each (λ (row : theory_row.Row). length row.terms < 2 ^ 32) text names t.rows (few_each t.rows fit.few_terms)));
      costs = subst (λ n. HasVariablesBelow n p.costs) (sym long) (subst (HasVariablesBelow (length names)) (sym are.costs)
          (All-from_recursion (IsBelow (length names)) (raw_terms names t.maximises (objective_items (tree_in text t)))
          (objective_below text names t.maximises t.objective fit.fit.objective)));
      terms = subst (λ n. All (λ (row : theory_row.Row). HasVariablesBelow n row.terms) p.rows) (sym long)
          (subst (All (λ (row : theory_row.Row). HasVariablesBelow (length names) row.terms)) (sym are.rows)
          (All-from_recursion (λ (row : theory_row.Row). HasVariablesBelow (length names) row.terms) (map (raw_row names) (map (row_in text) t.rows))
          (rows_each (λ (row : theory_row.Row). HasVariablesBelow (length names) row.terms) text names t.rows
          (below_each t.rows (recursion_from_All (IsFitRow text names) t.rows fit.fit.rows)))));
    }
  where
    few_each : (rs : List Row) → AllByRecursion (λ r. row_size r ≤ most_terms Large) rs
        → AllByRecursion (λ r. length (raw_row (variables (tokens_of (tree_in text t))) (row_in text r)).terms < 2 ^ 32) rs
    few_each [] all = tt
    few_each (r ∷ rs) all = (row_few text (variables (tokens_of (tree_in text t))) r all.0, few_each rs all.1)

    below_each : (rs : List Row) → AllByRecursion (IsFitRow text (variables (tokens_of (tree_in text t)))) rs
        → AllByRecursion (λ r. HasVariablesBelow (length (variables (tokens_of (tree_in text t)))) (raw_row (variables (tokens_of (tree_in text t))) (row_in text r)).terms) rs
    below_each [] all = tt
    below_each (r ∷ rs) all = (
      All-from_recursion (IsBelow (length (variables (tokens_of (tree_in text t))))) (raw_row (variables (tokens_of (tree_in text t))) (row_in text r)).terms
          (row_below text (variables (tokens_of (tree_in text t))) r all.0),
      below_each rs all.1,
    )
