-- The model that a tree's parts make is the tree's, and what the parts are refused for is the tree's first fault.
use Rattle.std.proofs.Common.{◌≡◌, ◌∙◌, refl, sym, ap, subst, ℕ, zero, suc, ◌+◌, ◌<◌, ◌≤◌, ◌^◌, false, List, [], ◌∷◌, map, length, get_or, Option, Some, None, All, MatchOption, arith, if◌then◌else◌, ⊎_elim, ◌*◌}
use Rattle.bp_theory.specs.declared.Limits.{Limits}
use Rattle.bp_theory.specs.Limits.{most_bytes}
use Rattle.std.specs.Prelude.{pos, unsigned_abs, sum_by, zip, nat_lt, max}
use Rattle.std.specs.Str.{bytes_eq}
use Rattle.std.specs.List.{IsDistinct, AllByRecursion, AllZip}
use Rattle.std.specs.Option.{option_map}
use Rattle.std.proofs.lemmas.Bool.{lt-ltb, le-ltb, cases_lt}
use Rattle.std.proofs.lemmas.List.{length-map}
use Rattle.std.proofs.lemmas.List.Elements.{recursion_from_All}
use Rattle.bp_theory.specs.Program.{Program, activity_limit, KeepsActivity, span_at, reach}
use Rattle.bp_theory.specs.declared.Span.{Span}
use Rattle.bp_theory.specs.declared.Term as theory
use Rattle.bp_theory.specs.declared.Sense.TheVariants.{Le}
use Rattle.bp_theory.specs.declared.Row.{Row}
use Rattle.bp_model.specs.declared.parts.Parts.{Parts}
use Rattle.bp_model.specs.Named.{NamedProgram, cost_limit, IsKept}
use Rattle.bp_model.specs.declared.parts.ModelFault.{ModelFault}
use Rattle.bp_model.specs.declared.parts.ModelFault.TheVariants.{Activity as TooLarge}
use Rattle.bp_theory.proofs.ZipLaws.{AllZip-length}
use Rattle.bp_model.specs.Parts.{HasModelFault, Makes, IsTidied, IsTidiedRow, IsFirstLarge}
use Rattle.lp_token.specs.declared.Tok.{Tok}
use Rattle.lp_token.specs.declared.LpKind.{LpKind}
use Rattle.lp_token.specs.declared.LpKind.TheVariants.{Activity}
use Rattle.lp_syntax.specs.Tree as plain
use Rattle.lp_syntax.specs.declared.tree.Direction.TheVariants.{Upward as upward, Downward as downward}
use Rattle.lp_syntax.specs.Tree.{Name, Item, term, constant}
use Rattle.lp_syntax.specs.declared.tree.Sign.{Sign}
use Rattle.lp_syntax.specs.TreeIn.{term_in, item_in, sum_in, row_in, tree_in}
use Rattle.lp_syntax.specs.Symbols.{greatest}
use Rattle.lp_syntax.specs.Roles.{variables}
use Rattle.lp_semantics.specs.Meaning.{ends, span_of, tokens_of, as_items, items_of, objective_items, minimised, with_sign, item_coefficient, row_meaning, model_row, model_of, TextModel, ModelRow, largest_activity, row_activity}
use Rattle.lp_semantics.specs.Reading.{IsTextOf, first_found, or_else, row_places, activity_fault, digits_fault, meaning_fault}
use Rattle.lp_semantics.specs.Numbered.{raw_row}
use Rattle.lp_semantics.specs.PartsOf.{ArePartsOf, AreVariablesSound, IsRefused, IsModelOf}
use Rattle.lp_semantics.specs.declared.MeaningFault.TheVariants.{Sums}
use Rattle.lp_semantics.specs.Fit.{IsFitTerm, IsFitItem, IsFitSum, IsFitRow}
use Rattle.lp_semantics.specs.Model.{IsRowOf, IsProgramOf, Means}
use Rattle.lp_token.specs.Cut.{Cut}
use Rattle.lp_syntax.specs.declared.tree.Term.{Term}
use Rattle.lp_syntax.specs.declared.tree.Item as read
use Rattle.lp_syntax.specs.declared.tree.Item.TheVariants as items
use Rattle.lp_syntax.specs.declared.tree.Sum.{Sum}
use Rattle.lp_syntax.specs.declared.tree.Row as row
use Rattle.lp_syntax.specs.declared.tree.Row.TheVariants as rows
use Rattle.lp_syntax.specs.declared.tree.Tree.{Tree}
use Rattle.lp_semantics.proofs.FitProof.{FitsWell}
use Rattle.lp_semantics.proofs.FaultLemmas.{variables_distinct}
use Rattle.lp_semantics.proofs.RowLemmas.{length-row_places}
use Rattle.lp_semantics.proofs.CoefficientProof.{IsKnownItem, has_coefficients, activity_is}
use Rattle.lp_semantics.proofs.PartsProof.{text_fits, row_below, objective_below}

-- the items of a row and of an objective are known
sign_known : (names : List Name) (s : Sign) (i : Item) → IsKnownItem names i → IsKnownItem names (with_sign s i)
sign_known names s (term t) h = h
sign_known names s (constant c) h = h

sum_known : (text : List ℕ) (names : List Name) (e : Sum Term) → IsFitSum (IsFitTerm text names) e → AllByRecursion (IsKnownItem names) (as_items (sum_in (term_in text) e))
sum_known text names e h = (h.first.known, each e.more (recursion_from_All (λ (m : Sign × Term). IsFitTerm text names m.1) e.more h.more))
  where
    each : (more : List (Sign × Term)) → AllByRecursion (λ (m : Sign × Term). IsFitTerm text names m.1) more
        → AllByRecursion (IsKnownItem names) (map (λ (m : Sign × plain.Term). with_sign m.0 (term m.1)) (map (λ (m : Sign × Term). (m.0, term_in text m.1)) more))
    each [] all = tt
    each (m ∷ more) all = (sign_known names m.0 (term (term_in text m.1)) all.0.known, each more all.1)

row_known : (text : List ℕ) (names : List Name) (r : row.Row) → IsFitRow text names r → AllByRecursion (IsKnownItem names) (row_meaning (row_in text r)).items
row_known text names (rows.ExpressionFirst label e c v) h = sum_known text names e h.0
row_known text names (rows.NumberFirst label v c e) h = sum_known text names e h.0
row_known text names (rows.Ranged label v upward e w) h = sum_known text names e h.0
row_known text names (rows.Ranged label v downward e w) h = sum_known text names e h.0

item_known : (text : List ℕ) (names : List Name) (i : read.Item) → IsFitItem text names i → IsKnownItem names (item_in text i)
item_known text names (items.Term t) h = h.known
item_known text names (items.Constant c) h = tt

objective_known : (text : List ℕ) (names : List Name) (o : Option (Sum read.Item)) → MatchOption o (Unit {0}) (IsFitSum (IsFitItem text names))
    → AllByRecursion (IsKnownItem names) (elim (option_map (sum_in (item_in text)) o) [ None ↦ [] | Some e ↦ items_of e ])
objective_known text names None h = tt
objective_known text names (Some e) h = (item_known text names e.first h.first, each e.more (recursion_from_All (λ (m : Sign × read.Item). IsFitItem text names m.1) e.more h.more))
  where
    each : (more : List (Sign × read.Item)) → AllByRecursion (λ (m : Sign × read.Item). IsFitItem text names m.1) more
        → AllByRecursion (IsKnownItem names) (map (λ (m : Sign × Item). with_sign m.0 m.1) (map (λ (m : Sign × read.Item). (m.0, item_in text m.1)) more))
    each [] all = tt
    each (m ∷ more) all = (sign_known names m.0 (item_in text m.1) (item_known text names m.1 all.0), each more all.1)

-- a row with its terms added up is the row of the meaning
row_is : (text : List ℕ) (names : List Name) (r : row.Row) (made : Row) → IsDistinct bytes_eq names → IsFitRow text names r
    → IsTidiedRow (raw_row names (row_in text r)) made → IsRowOf (model_row names (row_meaning (row_in text r))) made
row_is text names r made distinct fit h = record {
  sense = h.sense;
  low = h.low;
  rhs = h.rhs;
  terms = has_coefficients names false (row_meaning (row_in text r)).items made.terms distinct (row_known text names r fit) (row_below text names r fit) h.terms;
}

rows_are : (text : List ℕ) (names : List Name) (rs : List row.Row) (made : List Row) → IsDistinct bytes_eq names → AllByRecursion (IsFitRow text names) rs
    → AllZip IsTidiedRow (map (raw_row names) (map (row_in text) rs)) made → AllZip IsRowOf (map (λ r. model_row names (row_meaning r)) (map (row_in text) rs)) made
rows_are text names [] [] distinct fit h = tt
rows_are text names [] (m ∷ made) distinct fit h = absurd h
rows_are text names (r ∷ rs) [] distinct fit h = absurd h
rows_are text names (r ∷ rs) (m ∷ made) distinct fit h = (row_is text names r m distinct fit.0 h.0, rows_are text names rs made distinct fit.1 h.1)

-- what the parts of a tree make is the program of its meaning
pub makes_program : (limits : Limits) (text : List ℕ) (tokens : List Tok) (t : Tree) (p : Parts) (m : NamedProgram) → IsTextOf limits text tokens (tree_in text t) → ArePartsOf limits (tree_in text t) p
    → Makes p m → IsProgramOf (model_of (tree_in text t)) m
unfolding model_of
makes_program limits text tokens t p m h are made =
    let names : List Name = variables (tokens_of (tree_in text t)) in
    let fit : FitsWell text names t = text_fits limits text tokens t names h refl in
    let distinct : IsDistinct bytes_eq names = variables_distinct (tree_in text t) in
    record {
      names = made.names ∙ are.names;
      spans = made.spans ∙ are.spans;
      row_names = made.row_names ∙ are.row_names;
      rows = rows_are text names t.rows m.program.rows distinct (recursion_from_All (IsFitRow text names) t.rows fit.fit.rows)
          (subst (λ rs. AllZip IsTidiedRow rs m.program.rows) are.rows made.rows);
      costs = has_coefficients names t.maximises (objective_items (tree_in text t)) m.program.costs distinct (objective_known text names t.objective fit.fit.objective)
          (objective_below text names t.maximises t.objective fit.fit.objective) (subst (λ ts. IsTidied ts m.program.costs) are.costs made.costs);
      constant = made.constant ∙ are.constant;
      maximises = made.maximises ∙ are.maximises;
    }

-- how much a program's sums may come to is what its meaning's may
cost_same : (meant : TextModel) (m : NamedProgram) → length meant.costs ≡ length meant.spans → IsProgramOf meant m → cost_limit m.program ≡ largest_activity (unsigned_abs meant.constant) meant.costs meant.spans
cost_same meant m long h =
    ap (λ z. unsigned_abs z + sum_by (λ (t : theory.Term). unsigned_abs t.coef * reach (span_at m.program.spans t.var)) m.program.costs) h.constant
    ∙ ap (λ ss. unsigned_abs meant.constant + sum_by (λ (t : theory.Term). unsigned_abs t.coef * reach (span_at ss t.var)) m.program.costs) h.spans
    ∙ activity_is (unsigned_abs meant.constant) meant.costs meant.spans m.program.costs long h.costs

row_same : (spans : List Span) (p : Program) (r : ModelRow) (made : Row) → p.spans ≡ spans → length r.coefficients ≡ length spans → IsRowOf r made
    → activity_limit p made ≡ row_activity spans r
row_same spans p r made e long h =
    ap (λ z. max (unsigned_abs z) (unsigned_abs made.rhs) + sum_by (λ (t : theory.Term). unsigned_abs t.coef * reach (span_at p.spans t.var)) made.terms) h.low
    ∙ ap (λ z. max (unsigned_abs r.low) (unsigned_abs z) + sum_by (λ (t : theory.Term). unsigned_abs t.coef * reach (span_at p.spans t.var)) made.terms) h.rhs
    ∙ ap (λ ss. max (unsigned_abs r.low) (unsigned_abs r.rhs) + sum_by (λ (t : theory.Term). unsigned_abs t.coef * reach (span_at ss t.var)) made.terms) e
    ∙ activity_is (max (unsigned_abs r.low) (unsigned_abs r.rhs)) r.coefficients spans made.terms long h.terms

-- whether an activity is too large
abbrev fault_above : ℕ → ℕ → Option (ℕ × LpKind)
fault_above place a = if nat_lt greatest a then Some (place, Activity) else None

small_enough : (place a : ℕ) → a < 2 ^ 62 → fault_above place a ≡ None
small_enough place a l = ap (λ b. if b then Some (place, Activity) else None) (le-ltb greatest a (omega arith))

too_large : (place a : ℕ) → 2 ^ 62 ≤ a → fault_above place a ≡ Some (place, Activity)
too_large place a l = ap (λ b. if b then Some (place, Activity) else None) (lt-ltb greatest a (omega arith))

abbrev row_fault : List Span → ℕ × ModelRow → Option (ℕ × LpKind)
row_fault spans q = fault_above q.0 (row_activity spans q.1)

rows_small : (spans : List Span) (p : Program) (places : List ℕ) (rs : List ModelRow) (made : List Row) → p.spans ≡ spans
    → AllByRecursion (λ (r : ModelRow). length r.coefficients ≡ length spans) rs → AllZip IsRowOf rs made → AllByRecursion (KeepsActivity p) made
    → first_found (row_fault spans) (zip places rs) ≡ None
rows_small spans p [] rs made e long h keeps = refl
rows_small spans p (i ∷ places) [] made e long h keeps = refl
rows_small spans p (i ∷ places) (r ∷ rs) [] e long h keeps = absurd h
rows_small spans p (i ∷ places) (r ∷ rs) (m ∷ made) e long h keeps =
    ap (λ o. or_else o (first_found (row_fault spans) (zip places rs)))
    (small_enough i (row_activity spans r) (subst (λ a. a < 2 ^ 62) (row_same spans p r m e long.0 h.0) keeps.0))
    ∙ rows_small spans p places rs made e long.1 h.1 keeps.1

row_large : (spans : List Span) (p : Program) (places : List ℕ) (rs : List ModelRow) (made : List Row) (i : ℕ) (d : Row) → p.spans ≡ spans → length places ≡ length rs
    → AllByRecursion (λ (r : ModelRow). length r.coefficients ≡ length spans) rs → AllZip IsRowOf rs made
    → i < length made → 2 ^ 62 ≤ activity_limit p (get_or made i d) → ((k : ℕ) → k < i → activity_limit p (get_or made k d) < 2 ^ 62)
    → first_found (row_fault spans) (zip places rs) ≡ Some (get_or places i 0, Activity)
row_large spans p places rs [] i d e same long h l large before = let none : ⊥ = omega arith in absurd none
row_large spans p places [] (m ∷ made) i d e same long h l large before = absurd h
row_large spans p [] (r ∷ rs) (m ∷ made) i d e same long h l large before = let none : ⊥ = omega arith in absurd none
row_large spans p (i ∷ places) (r ∷ rs) (m ∷ made) zero d e same long h l large before =
    ap (λ o. or_else o (first_found (row_fault spans) (zip places rs)))
    (too_large i (row_activity spans r) (subst (λ a. 2 ^ 62 ≤ a) (row_same spans p r m e long.0 h.0) large))
row_large spans p (j ∷ places) (r ∷ rs) (m ∷ made) (suc i) d e same long h l large before =
    ap (λ o. or_else o (first_found (row_fault spans) (zip places rs)))
    (small_enough j (row_activity spans r) (subst (λ a. a < 2 ^ 62) (row_same spans p r m e long.0 h.0) (before 0 (omega arith))))
    ∙ row_large spans p places rs made i d e (omega arith) long.1 h.1 (omega arith) large (λ k b. before (suc k) (omega arith))

-- the lists of a tree's model have one number for each variable
long_costs : (t : plain.SyntaxTree) → length (model_of t).costs ≡ length (model_of t).spans
unfolding model_of
long_costs t =
    length-map (variables (tokens_of t)) (λ n. minimised t.maximises (item_coefficient (objective_items t) n)) ∙ sym (length-map (variables (tokens_of t)) (λ n. span_of (ends t n)))

long_rows : (t : plain.SyntaxTree) → AllByRecursion (λ (r : ModelRow). length r.coefficients ≡ length (model_of t).spans) (model_of t).rows
unfolding model_of
long_rows t = each t.rows
  where
    each : (rs : List plain.Row) → AllByRecursion (λ (r : ModelRow). length r.coefficients ≡ length (map (λ n. span_of (ends t n)) (variables (tokens_of t))))
        (map (λ r. model_row (variables (tokens_of t)) (row_meaning r)) rs)
    each [] = tt
    each (r ∷ rs) = (
      length-map (variables (tokens_of t)) (item_coefficient (row_meaning r).items) ∙ sym (length-map (variables (tokens_of t)) (λ n. span_of (ends t n))),
      each rs,
    )

length-model_rows : (t : plain.SyntaxTree) → length (model_of t).rows ≡ length t.rows
unfolding model_of
length-model_rows t = length-map t.rows (λ r. model_row (variables (tokens_of t)) (row_meaning r))

-- no sum of a tree is too large
pub no_activity : (limits : Limits) (t : plain.SyntaxTree) (m : NamedProgram) → AreVariablesSound limits t → IsProgramOf (model_of t) m → cost_limit m.program < 2 ^ 62 → All (KeepsActivity m.program) m.program.rows
    → meaning_fault limits t ≡ None
unfolding meaning_fault activity_fault
no_activity limits t m sound h costs keeps =
    ap (λ o. or_else o (or_else (digits_fault limits t) (activity_fault t))) sound.variables
    ∙ ap (λ o. or_else o (activity_fault t)) sound.digits
    ∙ ap (λ o. or_else o (first_found (row_fault (model_of t).spans) (zip (row_places 0 (tokens_of t)) (model_of t).rows)))
    (small_enough 0 (largest_activity (unsigned_abs (model_of t).constant) (model_of t).costs (model_of t).spans)
    (subst (λ a. a < 2 ^ 62) (cost_same (model_of t) m (long_costs t) h) costs))
    ∙ rows_small (model_of t).spans m.program (row_places 0 (tokens_of t)) (model_of t).rows m.program.rows h.spans (long_rows t) h.rows
    (recursion_from_All (KeepsActivity m.program) m.program.rows keeps)

-- the objective's sum is too large
pub objective_activity : (limits : Limits) (t : plain.SyntaxTree) (m : NamedProgram) → AreVariablesSound limits t → IsProgramOf (model_of t) m → 2 ^ 62 ≤ cost_limit m.program → meaning_fault limits t ≡ Some (0, Activity)
unfolding meaning_fault activity_fault
objective_activity limits t m sound h costs =
    ap (λ o. or_else o (or_else (digits_fault limits t) (activity_fault t))) sound.variables
    ∙ ap (λ o. or_else o (activity_fault t)) sound.digits
    ∙ ap (λ o. or_else o (first_found (row_fault (model_of t).spans) (zip (row_places 0 (tokens_of t)) (model_of t).rows)))
    (too_large 0 (largest_activity (unsigned_abs (model_of t).constant) (model_of t).costs (model_of t).spans)
    (subst (λ a. 2 ^ 62 ≤ a) (cost_same (model_of t) m (long_costs t) h) costs))

-- a row's sum is too large
pub row_activity_fault : (limits : Limits) (t : plain.SyntaxTree) (m : NamedProgram) (i : ℕ) → AreVariablesSound limits t → IsProgramOf (model_of t) m → cost_limit m.program < 2 ^ 62 → IsFirstLarge m.program i
    → meaning_fault limits t ≡ Some (get_or (row_places 0 (tokens_of t)) i 0, Activity)
unfolding meaning_fault activity_fault
row_activity_fault limits t m i sound h costs first =
    let d : Row = record { sense = Le; low = pos 0; rhs = pos 0; terms = [] } in
    ap (λ o. or_else o (or_else (digits_fault limits t) (activity_fault t))) sound.variables
    ∙ ap (λ o. or_else o (activity_fault t)) sound.digits
    ∙ ap (λ o. or_else o (first_found (row_fault (model_of t).spans) (zip (row_places 0 (tokens_of t)) (model_of t).rows)))
    (small_enough 0 (largest_activity (unsigned_abs (model_of t).constant) (model_of t).costs (model_of t).spans)
    (subst (λ a. a < 2 ^ 62) (cost_same (model_of t) m (long_costs t) h) costs))
    ∙ row_large (model_of t).spans m.program (row_places 0 (tokens_of t)) (model_of t).rows m.program.rows i d h.spans
    (length-row_places t ∙ sym (length-model_rows t)) (long_rows t) h.rows first.there
    (⊎_elim (λ less. absurd (first.large d less)) (λ more. more) (cases_lt (activity_limit m.program (get_or m.program.rows i d)) (2 ^ 62)))
    (λ k l. first.first k d l)

-- what parts are refused for in their sums is the tree's first fault
pub refused_sums : (limits : Limits) (text : List ℕ) (tokens : List Tok) (t : Tree) (p : Parts) (fault : ModelFault) (row : Option ℕ) → IsTextOf limits text tokens (tree_in text t)
    → ArePartsOf limits (tree_in text t) p → AreVariablesSound limits (tree_in text t) → fault ≡ TooLarge row → HasModelFault p fault → IsRefused limits (tree_in text t) (Sums row)
refused_sums limits text tokens t p fault None h are sound e f =
    let g : HasModelFault p (TooLarge None) = subst (HasModelFault p) e f in
    objective_activity limits (tree_in text t) g.2.0 sound (makes_program limits text tokens t p g.2.0 h are g.2.1) g.2.2
refused_sums limits text tokens t p fault (Some i) h are sound e f =
    let g : HasModelFault p (TooLarge (Some i)) = subst (HasModelFault p) e f in
    let program : IsProgramOf (model_of (tree_in text t)) g.2.0 = makes_program limits text tokens t p g.2.0 h are g.2.1 in (
      omega (arith, g.2.3.there, AllZip-length IsRowOf (model_of (tree_in text t)).rows g.2.0.program.rows program.rows, length-model_rows (tree_in text t)),
      row_activity_fault limits (tree_in text t) g.2.0 i sound program g.2.2 g.2.3,
    )

-- the model of parts is that of the tree
pub model_made : (limits : Limits) (text : List ℕ) (tokens : List Tok) (t : Tree) (p : Parts) (m : NamedProgram) → IsTextOf limits text tokens (tree_in text t)
    → ArePartsOf limits (tree_in text t) p → AreVariablesSound limits (tree_in text t) → Makes p m → IsKept m → IsModelOf limits (tree_in text t) m
model_made limits text tokens t p m h are sound made kept =
    let program : IsProgramOf (model_of (tree_in text t)) m = makes_program limits text tokens t p m h are made in
    record { sound = no_activity limits (tree_in text t) m sound program kept.cost_activity kept.row_activity; program = program; same_limits = made.limits ∙ are.same_limits }

-- a text means the model of its tree
pub means_text : (limits : Limits) (text : List ℕ) (tokens : List Tok) (t : plain.SyntaxTree) (m : NamedProgram) → length text ≤ most_bytes limits → Cut text tokens → IsTextOf limits text tokens t
    → IsModelOf limits t m → Means limits text m
means_text limits text tokens t m size cut h is = (
  model_of t,
  record { tokens = tokens; tree = t; size = size; cut = cut; text_of = h; sound = is.sound; means = refl },
  is.program,
  is.same_limits,
)
