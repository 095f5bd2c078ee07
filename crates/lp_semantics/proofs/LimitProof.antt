-- The parts of a text's tree keep the limits of a model.
use Rattle.std.proofs.Common.{◌≡◌, ◌∙◌, refl, sym, ap, subst, ℕ, ◌+◌, ◌<◌, ◌≤◌, ◌^◌, Bool, true, false, not, ◌||◌, ◌&&◌, List, [], ◌∷◌, ◌++◌, map, length, get_or, Option, Some, None, All, arith, if◌then◌else◌}
use Rattle.bp_theory.specs.Limits.{most_rows, most_terms, most_variables}
use Rattle.bp_theory.specs.declared.Limits.{Limits}
use Rattle.std.specs.Prelude.{ℤ, pos, int_le, int_lt, unsigned_abs, flat_map, filter_map, sum_by, ◌≤ℤ◌}
use Rattle.std.specs.List.{AllByRecursion}
use Rattle.std.specs.Option.{option_map}
use Rattle.std.proofs.lemmas.Int.{ints}
use Rattle.std.proofs.lemmas.List.{length-map}
use Rattle.std.proofs.lemmas.List.Sums.{sum_by-cons}
use Rattle.std.proofs.lemmas.List.Elements.{recursion_from_All, All-map}
use Rattle.bp_theory.specs.declared.Span.{Span}
use Rattle.bp_theory.specs.declared.Row as theory_row
use Rattle.bp_model.specs.declared.parts.Parts.{Parts}
use Rattle.bp_model.specs.Named.{HasSmallEnds}
use Rattle.bp_model.specs.Parts.{NoneCrossed, IsWithinLimits}
use Rattle.lp_token.specs.declared.Tok.{Tok}
use Rattle.lp_token.specs.declared.LpKind.TheVariants.{Crossed, Unbounded, Continuous}
use Rattle.lp_syntax.specs.Tree as plain
use Rattle.lp_syntax.specs.declared.tree.Direction.TheVariants.{Upward as upward, Downward as downward}
use Rattle.lp_syntax.specs.declared.tree.Direction.{Direction}
use Rattle.lp_syntax.specs.declared.tree.Comparison.{Comparison}
use Rattle.lp_syntax.specs.declared.tree.Comparison.TheVariants.{AtMost as at_most, AtLeast as at_least, Equal as equal}
use Rattle.lp_syntax.specs.Tree.{Name, written}
use Rattle.lp_syntax.specs.declared.tree.Sign.{Sign}
use Rattle.lp_syntax.specs.TreeIn.{name_in, term_in, item_in, sum_in, row_in, bound_in, part_in, tree_in}
use Rattle.lp_syntax.specs.Roles.{variables, row_names, term_count}
use Rattle.lp_semantics.specs.Meaning.{Extended, below, whole, above, extended_le, value_of, greater, lesser, Ends, end_value, span_of, Side, lower, upper, Statement, statements, part_statements, is_on, last_said, has_name, binary_names, stated_ends, ends, signed, tokens_of, as_items, items_of}
use Rattle.lp_semantics.specs.Reading.{IsTextOf, ends_fault}
use Rattle.lp_semantics.specs.Numbered.{turned_by, raw_term, raw_item, raw_terms, raw_row, ends_in, is_listed_in, fault_in}
use Rattle.lp_semantics.specs.Fit.{IsFitValue, IsFitBound, IsFitPart}
use Rattle.lp_semantics.specs.PartsOf.{ArePartsOf}
use Rattle.lp_semantics.specs.declared.bounds.Stated.{Stated}
use Rattle.lp_syntax.specs.declared.tree.Term.{Term}
use Rattle.lp_syntax.specs.declared.tree.Item.{Item}
use Rattle.lp_syntax.specs.declared.tree.Sum.{Sum}
use Rattle.lp_syntax.specs.declared.tree.Row.{Row}
use Rattle.lp_syntax.specs.declared.tree.Row.TheVariants as rows
use Rattle.lp_syntax.specs.declared.tree.Value.{Value}
use Rattle.lp_syntax.specs.declared.tree.Value.TheVariants as values
use Rattle.lp_syntax.specs.declared.tree.Bound.{Bound}
use Rattle.lp_syntax.specs.declared.tree.Bound.TheVariants as bounds
use Rattle.lp_syntax.specs.declared.tree.Part.{Part}
use Rattle.lp_syntax.specs.declared.tree.Part.TheVariants as parts
use Rattle.lp_syntax.specs.declared.tree.Tree.{Tree}
use Rattle.lp_semantics.proofs.SignLemmas.{size_stays}
use Rattle.lp_semantics.proofs.WalkLemmas.{weight_of}
use Rattle.lp_semantics.proofs.FitProof.{sum_size, row_size, item_weight, FitsWell}
use Rattle.lp_semantics.proofs.FineProof.{within_limits, terms_are}
use Rattle.lp_semantics.proofs.CountProof.{objective_count, terms_counted}
use Rattle.lp_semantics.proofs.PartsProof.{text_fits, row_raw, items_raw, item_size}
use Rattle.lp_semantics.proofs.RowLemmas.{length-row_names}

-- a whole end is a number of texts
abbrev IsSmallEnd : Extended → Type 0
IsSmallEnd (whole z) = unsigned_abs z < 2 ^ 62
IsSmallEnd below = Unit {0}
IsSmallEnd above = Unit {0}

abbrev AreSmall : List Statement → Type 0
AreSmall said = AllByRecursion (λ (s : Statement). IsSmallEnd s.value) said

value_small : (v : Value) → IsFitValue v → IsSmallEnd (value_of v)
value_small (values.Finite v) h = omega (arith, h, size_stays false v.signs v.size)
value_small (values.Endless signs) h = by (int_lt (signed signs 1) (pos 0))
  where
    by : (b : Bool) → IsSmallEnd (if b then below else above)
    by true = tt
    by false = tt

bound_small : (text : List ℕ) (names : List Name) (b : Bound) → IsFitBound text names b → AreSmall (statements (bound_in text b))
bound_small text names (bounds.ValueFirst v c n) h = by c
  where
    by : (c : Comparison) → AreSmall (statements (plain.value_first v c (name_in text n)))
    by at_most = (value_small v h.0, tt)
    by at_least = (value_small v h.0, tt)
    by equal = (value_small v h.0, (value_small v h.0, tt))
bound_small text names (bounds.NameFirst n c v) h = by c
  where
    by : (c : Comparison) → AreSmall (statements (plain.name_first (name_in text n) c v))
    by at_most = (value_small v h.0, tt)
    by at_least = (value_small v h.0, tt)
    by equal = (value_small v h.0, (value_small v h.0, tt))
bound_small text names (bounds.Between v d n w) h = by d
  where
    by : (d : Direction) → AreSmall (statements (plain.between v d (name_in text n) w))
    by upward = (value_small v h.0, (value_small w h.1, tt))
    by downward = (value_small v h.0, (value_small w h.1, tt))
bound_small text names (bounds.Free n w) h = (tt, (tt, tt))

joined_small : (xs ys : List Statement) → AreSmall xs → AreSmall ys → AreSmall (xs ++ ys)
joined_small [] ys h k = k
joined_small (x ∷ xs) ys h k = (h.0, joined_small xs ys h.1 k)

bounds_small : (text : List ℕ) (names : List Name) (bs : List Bound) → AllByRecursion (IsFitBound text names) bs → AreSmall (flat_map statements (map (bound_in text) bs))
bounds_small text names [] h = tt
bounds_small text names (b ∷ bs) h =
    joined_small (statements (bound_in text b)) (flat_map statements (map (bound_in text) bs)) (bound_small text names b h.0) (bounds_small text names bs h.1)

part_small : (text : List ℕ) (names : List Name) (p : Part) → IsFitPart text names p → AreSmall (part_statements (part_in text p))
part_small text names (parts.Bounds bs) h = bounds_small text names bs (recursion_from_All (IsFitBound text names) bs h)
part_small text names (parts.Generals ns) h = tt
part_small text names (parts.Binaries ns) h = tt

parts_small : (text : List ℕ) (names : List Name) (ps : List Part) → AllByRecursion (IsFitPart text names) ps → AreSmall (flat_map part_statements (map (part_in text) ps))
parts_small text names [] h = tt
parts_small text names (p ∷ ps) h =
    joined_small (part_statements (part_in text p)) (flat_map part_statements (map (part_in text) ps)) (part_small text names p h.0) (parts_small text names ps h.1)

choose_small : (b : Bool) (x y : Extended) → IsSmallEnd x → IsSmallEnd y → IsSmallEnd (if b then x else y)
choose_small true x y h k = h
choose_small false x y h k = k

last_small : (n : Name) (side : Side) (d : Extended) (said : List Statement) → IsSmallEnd d → AreSmall said → IsSmallEnd (last_said n side d said)
last_small n side d [] h k = h
last_small n side d (s ∷ said) h k =
    last_small n side (if is_on n side s then s.value else d) said (choose_small (is_on n side s) s.value d k.0 h) k.1

value_of_end : (x : Extended) → IsSmallEnd x → unsigned_abs (end_value x) < 2 ^ 62
value_of_end (whole z) h = h
value_of_end below h = omega arith
value_of_end above h = omega arith

ends_small : (t : plain.SyntaxTree) (n : Name) → AreSmall (flat_map part_statements t.parts) → HasSmallEnds (span_of (ends t n))
unfolding ends stated_ends
ends_small t n h =
    let said : List Statement = flat_map part_statements t.parts in
    let lo : Extended = last_said n lower (whole (pos 0)) said in
    let hi : Extended = last_said n upper above said in
    by (has_name (flat_map binary_names t.parts) n) lo hi (last_small n lower (whole (pos 0)) said (omega arith) h) (last_small n upper above said tt h)
  where
    by : (b : Bool) (lo hi : Extended) → IsSmallEnd lo → IsSmallEnd hi
        → HasSmallEnds (span_of (if b then record { lo = greater lo (whole (pos 0)); hi = lesser hi (whole (pos 1)) } else record { lo = lo; hi = hi }))
    by true lo hi h k = record {
      lo = value_of_end (greater lo (whole (pos 0))) (choose_small (extended_le lo (whole (pos 0))) (whole (pos 0)) lo (omega arith) h);
      hi = value_of_end (lesser hi (whole (pos 1))) (choose_small (extended_le hi (whole (pos 1))) hi (whole (pos 1)) k (omega arith));
    }
    by false lo hi h k = record { lo = value_of_end lo h; hi = value_of_end hi k }

-- sound ends aren't crossed
sound_order : (e : Ends) (listed : Bool) → ends_fault e listed ≡ None → (span_of e).lo ≤ℤ (span_of e).hi
sound_order e listed h = by e.lo e.hi h
  where
    test : (a b : ℤ) (t u : Bool) → int_le a b ≡ t
        → (if not t then Some Crossed else (if false || false then Some Unbounded else (if u then Some Continuous else None))) ≡ None → a ≤ℤ b
    test a b true u e h = grind (arith, ints)
    test a b false u e h = absurd cc

    by : (lo hi : Extended) → ends_fault (record { lo = lo; hi = hi }) listed ≡ None → end_value lo ≤ℤ end_value hi
    by (whole a) (whole b) h = test a b (int_le a b) (not listed && not (int_le b a)) refl h
    by (whole a) below h = absurd cc
    by (whole a) above h = absurd cc
    by below (whole b) h = absurd cc
    by below below h = absurd cc
    by below above h = absurd cc
    by above (whole b) h = absurd cc
    by above below h = absurd cc
    by above above h = absurd cc

pub none_crossed : (table : List Stated) (spans : List Span) → All (λ s. fault_in s ≡ None) table → spans ≡ map (λ s. span_of (ends_in s)) table → NoneCrossed spans
none_crossed table spans sound e =
    subst NoneCrossed (sym e) (All-map (λ (s : Span). s.lo ≤ℤ s.hi) (λ s. span_of (ends_in s)) table
    (λ k d l. sound_order (ends_in (get_or table k d)) (is_listed_in (get_or table k d)) (sound k d l)))

-- as many terms as are counted
row_length : (text : List ℕ) (names : List Name) (r : Row) → length (raw_row names (row_in text r)).terms ≡ 1 + row_size r
row_length text names (rows.ExpressionFirst label e c v) = sum_length text names e
  where
    sum_length : (text : List ℕ) (names : List Name) (e : Sum Term) → length (raw_terms names false (as_items (sum_in (term_in text) e))) ≡ 1 + sum_size e
    sum_length text names e =
        omega (arith, ap length (row_raw text names e), length-map e.more (λ (m : Sign × Term). raw_term names (turned_by false m.0) (term_in text m.1)))
row_length text names (rows.NumberFirst label v c e) =
    omega (arith, ap length (row_raw text names e), length-map e.more (λ (m : Sign × Term). raw_term names (turned_by false m.0) (term_in text m.1)))
row_length text names (rows.Ranged label v upward e w) =
    omega (arith, ap length (row_raw text names e), length-map e.more (λ (m : Sign × Term). raw_term names (turned_by false m.0) (term_in text m.1)))
row_length text names (rows.Ranged label v downward e w) =
    omega (arith, ap length (row_raw text names e), length-map e.more (λ (m : Sign × Term). raw_term names (turned_by false m.0) (term_in text m.1)))

rows_length : (text : List ℕ) (names : List Name) (rs : List Row)
    → sum_by (λ (row : theory_row.Row). length row.terms) (map (raw_row names) (map (row_in text) rs)) ≡ sum_by (λ r. 1 + row_size r) rs
rows_length text names [] = refl
rows_length text names (r ∷ rs) =
    omega (
      arith,
      sum_by-cons (λ (row : theory_row.Row). length row.terms) (raw_row names (row_in text r)) (map (raw_row names) (map (row_in text) rs)),
      sum_by-cons (λ q. 1 + row_size q) r rs,
      row_length text names r,
      rows_length text names rs,
    )

items_length : (text : List ℕ) (names : List Name) (turned : Bool) (o : Option (Sum Item))
    → length (raw_terms names turned (elim (option_map (sum_in (item_in text)) o) [ None ↦ [] | Some e ↦ items_of e ])) ≡ objective_count o
items_length text names turned None = refl
items_length text names turned (Some e) =
    ap length (items_raw text names turned e)
    ∙ item_size text names turned e.first (filter_map (λ (m : Sign × Item). raw_item names (turned_by turned m.0) (item_in text m.1)) e.more)
    ∙ ap (λ k. item_weight e.first + k) (each e.more)
  where
    each : (more : List (Sign × Item)) → length (filter_map (λ (m : Sign × Item). raw_item names (turned_by turned m.0) (item_in text m.1)) more) ≡ weight_of item_weight more
    each [] = refl
    each (m ∷ more) =
        item_size text names (turned_by turned m.0) m.1 (filter_map (λ (k : Sign × Item). raw_item names (turned_by turned k.0) (item_in text k.1)) more)
        ∙ ap (λ k. item_weight m.1 + k) (each more)

-- the parts of a text keep the limits
pub parts_limited : (limits : Limits) (text : List ℕ) (tokens : List Tok) (t : Tree) (p : Parts) → IsTextOf limits text tokens (tree_in text t) → ArePartsOf limits (tree_in text t) p → IsWithinLimits p
parts_limited limits text tokens t p h are =
    let names : List Name = variables (tokens_of (tree_in text t)) in
    let fit : FitsWell text names t = text_fits limits text tokens t names h refl in
    let within : (length (variables (tokens_of (tree_in text t))) ≤ most_variables limits) × (length (row_names (tokens_of (tree_in text t))) ≤ most_rows limits) × (term_count (tokens_of (tree_in text t)) ≤ most_terms limits) =
    within_limits limits (tokens_of (tree_in text t)) h.roles in
    let small : AreSmall (flat_map part_statements (map (part_in text) t.parts)) = parts_small text names t.parts (recursion_from_All (IsFitPart text names) t.parts fit.fit.parts) in
    record {
      variables = omega (arith, ap length are.spans, length-map names (λ n. span_of (ends (tree_in text t) n)), within.0, ap most_variables are.same_limits);
      rows = omega (
        arith,
        ap length are.rows,
        length-map (map (row_in text) t.rows) (raw_row names),
        length-map t.rows (row_in text),
        length-row_names (tree_in text t),
        within.1,
        ap most_rows are.same_limits,
      );
      terms = omega (
        arith,
        ap length are.costs,
        items_length text names t.maximises t.objective,
        ap (sum_by (λ (row : theory_row.Row). length row.terms)) are.rows,
        rows_length text names t.rows,
        terms_counted text t,
        terms_are (tree_in text t),
        within.2,
        ap most_terms are.same_limits,
      );
      ends = subst (All HasSmallEnds) (sym are.spans)
          (All-map HasSmallEnds (λ n. span_of (ends (tree_in text t) n)) names (λ k d l. ends_small (tree_in text t) (get_or names k d) small));
    }
