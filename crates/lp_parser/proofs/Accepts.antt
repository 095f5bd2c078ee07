-- The automaton reads the text of each tree, and keeps the tree.
use Rattle.std.proofs.Common.{◌≡◌, ℕ, Bool, true, false, not, ◌&&◌, List, [], ◌∷◌, ◌++◌, map, take, length, refl, sym, ◌∙◌, ap, subst, append_assoc, Option, None, Some}
use Rattle.std.proofs.lemmas.List.{append-nil}
use Rattle.std.proofs.lemmas.Bool.{and_parts}
use Rattle.lp_token.specs.declared.LpKind.{LpKind}
use Rattle.std.specs.Prelude.{zero, suc, slice_get, flat_map, if◌then◌else◌}
use Rattle.std.specs.List.{list_all}
use Rattle.lp_token.specs.declared.Section.{Section}
use Rattle.lp_token.specs.declared.Section.TheVariants as sections
use Rattle.lp_syntax.specs.Tree.{Name, Symbol, word, name, number, infinity, sign, comparison, colon, Term, Item, term, constant, Sum, Row, expression_first, number_first, ranged, Bound, value_first, name_first, between, free, Part, bounds, generals, binaries, SyntaxTree, Written, placed, headed, comparison_of, spelled_label, spelled_signs, spelled_signed, spelled_factor, spelled_term, spelled_item, spelled_sum, spelled_row, spelled_value, written_objective, written_row, written_bound, written_part, written_word, written, begins_signed, ends_with_expression, are_apart, has_free_word, part_has_free_words, IsText, spelling, sites}
use Rattle.lp_syntax.specs.declared.tree.Sign.{Sign}
use Rattle.lp_syntax.specs.declared.tree.Comparison.{Comparison}
use Rattle.lp_syntax.specs.declared.tree.Signed.{Signed}
use Rattle.lp_syntax.specs.declared.tree.Direction.{Direction}
use Rattle.lp_syntax.specs.declared.tree.Direction.TheVariants.{Upward as upward, Downward as downward}
use Rattle.lp_syntax.specs.declared.tree.Value.{Value}
use Rattle.lp_syntax.specs.declared.tree.Value.TheVariants.{Finite as finite, Endless as endless}
use Rattle.lp_syntax.specs.declared.tree.Site.{Site}
use Rattle.lp_syntax.specs.declared.tree.Site.TheVariants.{ObjectiveFirst as objective_first, ObjectiveMore as objective_more, RowFirst as row_first, RowMore as row_more, Listed as listed, Other as other}
use Rattle.lp_parser.specs.Parser.{Open, opening, further, more_sign, lone, longer, put, named, signed_by, Front, front_of, with_row, Within, with_bound, Stage, start, o_word, o_name, o_open, o_number, o_sum, r_row, r_name, r_signs, r_number, r_open, r_factor, r_sum, r_compared, n_open, n_factor, n_sum, n_compared, p_generals, p_binaries, p_bounds, b_signs, b_value, b_compared, b_half, b_between, b_name, b_named, done, Step, to, rows_word, from_word, free_word, step}
pub use Rattle.lp_parser.specs.Parser.{Leads}

-- through a run of signs
through : (S : List Sign → Stage) (site : Site) → ((signs : List Sign) (s : Sign) → step (S signs) (sign s) ≡ Some (site, S (signs ++ s ∷ [])))
    → (so_far signs : List Sign) (rest : List Symbol) (more : List Written) (z : Stage)
    → Leads (S (so_far ++ signs)) (placed site rest ++ more) z → Leads (S so_far) (placed site (spelled_signs signs ++ rest) ++ more) z
through S site h so_far [] rest more z r = subst (λ x. Leads (S x) (placed site rest ++ more) z) (append-nil so_far) r
through S site h so_far (s ∷ signs) rest more z r =
    (S (so_far ++ s ∷ []), h so_far s, through S site h (so_far ++ s ∷ []) signs rest more z (subst (λ x. Leads (S x) (placed site rest ++ more) z) (sym (append_assoc so_far (s ∷ []) signs)) r))

-- regroup a front of symbols before a rest
regroup : (site : Site) (a b c : List Symbol) (more : List Written) (x z : Stage) → Leads x (placed site (a ++ (b ++ c)) ++ more) z → Leads x (placed site ((a ++ b) ++ c) ++ more) z
regroup site a b c more x z r = rw append_assoc r

-- an objective

-- an item behind these signs
abbrev core : Item → List Sign → Item
core (term t) signs = term (named t.factor t.variable signs)
core (constant c) signs = constant (signed_by c.size signs)

abbrev item_signs : Item → List Sign
item_signs (term t) = t.signs
item_signs (constant c) = c.signs

-- the stage behind an item
abbrev ended : Bool → Option Name → Open Item → Item → Stage
ended b label o (term t) = o_sum b label (put o (λ signs. term (named t.factor t.variable signs)))
ended b label o (constant c) = o_number b label o c.size

-- an item, at a place whose signs grow
item_read : (b : Bool) (label : Option Name) (P : List Sign → Open Item) → ((signs : List Sign) (s : Sign) → more_sign (P signs) s ≡ P (signs ++ s ∷ []))
    → (so_far : List Sign) (i : Item) (rest : List Symbol) (more : List Written) (z : Stage)
    → Leads (ended b label (P (so_far ++ item_signs i)) i) (placed objective_more rest ++ more) z → Leads (o_open b label (P so_far)) (placed objective_more (spelled_item i ++ rest) ++ more) z
item_read b label P h so_far (term t) rest more z r =
    regroup objective_more (spelled_signs t.signs) (spelled_factor t.factor ++ (name t.variable ∷ [])) rest more _ z
    (through (λ signs. o_open b label (P signs)) objective_more (λ signs s. ap (λ o. to objective_more (o_open b label o)) (h signs s)) so_far t.signs _ more z (go t.factor r))
  where
    go : (factor : Option ℕ) → Leads (o_sum b label (put (P (so_far ++ t.signs)) (λ signs. term (named factor t.variable signs)))) (placed objective_more rest ++ more) z
        → Leads (o_open b label (P (so_far ++ t.signs))) (placed objective_more ((spelled_factor factor ++ (name t.variable ∷ [])) ++ rest) ++ more) z
    go None r = (_, refl, r)
    go (Some k) r = (_, refl, (_, refl, r))
item_read b label P h so_far (constant c) rest more z r =
    regroup objective_more (spelled_signs c.signs) (number c.size ∷ []) rest more _ z
    (through (λ signs. o_open b label (P signs)) objective_more (λ signs s. ap (λ o. to objective_more (o_open b label o)) (h signs s)) so_far c.signs _ more z (_, refl, r))

-- a stage behind a sum of items
record Ends (b : Bool) (label : Option Name) (x : Stage) (sum : Sum Item) : Type 0 where
  on : (s : Sign) → step x (sign s) ≡ to objective_more (o_open b label (further sum s []))
  stop : (w : Section) → step x (word w) ≡ rows_word b label (Some sum) w

ended_ends : (b : Bool) (label : Option Name) (o : Open Item) (i : Item) → Ends b label (ended b label o i) (put o (core i))
ended_ends b label o (term t) = record { on = λ s. refl; stop = λ w. refl }
ended_ends b label o (constant c) = record { on = λ s. refl; stop = λ w. refl }

abbrev with_more : {A : Type 0} → Sum A → List (Sign × A) → Sum A
with_more sum ms = record { first = sum.first; more = sum.more ++ ms }

-- what a list of written symbols does to a stage
record Reaches (b : Bool) (label : Option Name) (x : Stage) (text : List Written) (sum : Sum Item) : Type 0 where
  stage : Stage
  ends : Ends b label stage sum
  leads : (more : List Written) (z : Stage) → Leads stage more z → Leads x (text ++ more) z

abbrev more_items : List (Sign × Item) → List Symbol
more_items ms = flat_map (λ m. sign m.0 ∷ spelled_item m.1) ms

items_read : (b : Bool) (label : Option Name) (x : Stage) (sum : Sum Item) (ms : List (Sign × Item)) → Ends b label x sum → Reaches b label x (placed objective_more (more_items ms)) (with_more sum ms)
items_read b label x sum [] e = record { stage = x; ends = subst (λ ms. Ends b label x (record { first = sum.first; more = ms })) (sym (append-nil sum.more)) e; leads = λ more z r. r }
items_read b label x sum (m ∷ ms) e =
    let o : List Sign → Open Item = λ signs. further sum m.0 signs in
    let next : Reaches b label (ended b label (o (item_signs m.1)) m.1) (placed objective_more (more_items ms)) (with_more (put (o (item_signs m.1)) (core m.1)) ms)
    = items_read b label _ _ ms (ended_ends b label (o (item_signs m.1)) m.1) in
    record {
      stage = next.stage;
      ends = subst (λ ms. Ends b label next.stage (record { first = sum.first; more = ms })) (ap (λ i. (sum.more ++ (m.0, i) ∷ []) ++ ms) (core_is m.1) ∙ append_assoc sum.more (m ∷ []) ms) next.ends;
      leads = λ more z r. (_, e.on m.0, item_read b label o (λ signs s. refl) [] m.1 (more_items ms) more z (next.leads more z r));
    }
  where
    core_is : (i : Item) → core i (item_signs i) ≡ i
    core_is (term t) = refl
    core_is (constant c) = refl

-- a whole sum, from the stage behind its first item
sum_read : (b : Bool) (label : Option Name) (e : Sum Item) (x : Stage) → Ends b label x (lone e.first) → Reaches b label x (placed objective_more (more_items e.more)) e
sum_read b label e x ends = items_read b label x (lone e.first) e.more ends

-- what an objective leads to, from its word
record Objective (b : Bool) (label : Option Name) (objective : Option (Sum Item)) (text : List Written) : Type 0 where
  stage : Stage
  stop : (w : Section) → step stage (word w) ≡ rows_word b label objective w
  leads : (more : List Written) (z : Stage) → Leads stage more z → Leads (o_word b) (text ++ more) z

-- a sum behind a label
labelled : (b : Bool) (n : Name) (e : Sum Item) → Objective b (Some n) (Some e) (headed objective_first objective_more (spelled_label (Some n) ++ spelled_sum spelled_item e))
labelled b n e =
    let o : List Sign → Open Item = λ signs. opening signs in
    let r : Reaches b (Some n) (ended b (Some n) (o (item_signs e.first)) e.first) (placed objective_more (more_items e.more)) e = sum_read b (Some n) e _ (first_ends e.first) in
    record {
      stage = r.stage;
      stop = r.ends.stop;
      leads = λ more z h. (_, refl, (_, refl, item_read b (Some n) o (λ signs s. refl) [] e.first (more_items e.more) more z (r.leads more z h)));
    }
  where
    first_ends : (i : Item) → Ends b (Some n) (ended b (Some n) (opening (item_signs i)) i) (lone i)
    first_ends (term t) = record { on = λ s. refl; stop = λ w. refl }
    first_ends (constant c) = record { on = λ s. refl; stop = λ w. refl }

-- from the word of an objective with no label, over its first item
record FirstItem (b : Bool) (i : Item) : Type 0 where
  stage : Stage
  ends : Ends b None stage (lone i)
  leads : (rest : List Symbol) (more : List Written) (z : Stage) → Leads stage (placed objective_more rest ++ more) z → Leads (o_word b) (headed objective_first objective_more (spelled_item i ++ rest) ++ more) z

first_item : (b : Bool) (i : Item) → FirstItem b i
first_item b (term t) = go t.signs t.factor t.variable
  where
    go : (signs : List Sign) (factor : Option ℕ) (n : Name) → FirstItem b (term (named factor n signs))
    go [] None n = record { stage = o_name b n; ends = record { on = λ s. refl; stop = λ w. refl }; leads = λ rest more z r. (_, refl, r) }
    go [] (Some k) n = record { stage = o_sum b None (lone (term (named (Some k) n []))); ends = record { on = λ s. refl; stop = λ w. refl }; leads = λ rest more z r. (_, refl, (_, refl, r)) }
    go (s ∷ signs) factor n = record {
      stage = o_sum b None (lone (term (named factor n (s ∷ signs))));
      ends = record { on = λ s. refl; stop = λ w. refl };
      leads = λ rest more z r. (_, refl, item_read b None (λ signs. opening signs) (λ signs s. refl) (s ∷ []) (term (named factor n signs)) rest more z r);
    }
first_item b (constant c) = go c.signs c.size
  where
    go : (signs : List Sign) (k : ℕ) → FirstItem b (constant (signed_by k signs))
    go [] k = record { stage = o_number b None (opening []) k; ends = record { on = λ s. refl; stop = λ w. refl }; leads = λ rest more z r. (_, refl, r) }
    go (s ∷ signs) k = record {
      stage = o_number b None (opening (s ∷ signs)) k;
      ends = record { on = λ s. refl; stop = λ w. refl };
      leads = λ rest more z r. (_, refl, item_read b None (λ signs. opening signs) (λ signs s. refl) (s ∷ []) (constant (signed_by k signs)) rest more z r);
    }

objective_read : (b : Bool) (label : Option Name) (objective : Option (Sum Item)) → Objective b label objective (headed objective_first objective_more (spelled_label label ++ (elim objective [ None ↦ [] | Some e ↦ spelled_sum spelled_item e ])))
objective_read b None None = record { stage = o_word b; stop = λ w. refl; leads = λ more z r. r }
objective_read b (Some n) None = record { stage = o_open b (Some n) (opening []); stop = λ w. refl; leads = λ more z r. (_, refl, (_, refl, r)) }
objective_read b (Some n) (Some e) = labelled b n e
objective_read b None (Some e) =
    let f : FirstItem b e.first = first_item b e.first in
    let r : Reaches b None f.stage (placed objective_more (more_items e.more)) e = sum_read b None e f.stage f.ends in
    record { stage = r.stage; stop = r.ends.stop; leads = λ more z h. f.leads (more_items e.more) more z (r.leads more z h) }

-- rows

-- a place for a term in a row, whose signs grow, and the stages behind its number and its name
record Awaits (S : List Sign → Stage) (F : List Sign → ℕ → Stage) (E : List Sign → Option ℕ → Name → Stage) : Type 0 where
  signs : (so_far : List Sign) (s : Sign) → step (S so_far) (sign s) ≡ to row_more (S (so_far ++ s ∷ []))
  factor : (so_far : List Sign) (k : ℕ) → step (S so_far) (number k) ≡ to row_more (F so_far k)
  alone : (so_far : List Sign) (n : Name) → step (S so_far) (name n) ≡ to row_more (E so_far None n)
  both : (so_far : List Sign) (k : ℕ) (n : Name) → step (F so_far k) (name n) ≡ to row_more (E so_far (Some k) n)

term_read : (S : List Sign → Stage) (F : List Sign → ℕ → Stage) (E : List Sign → Option ℕ → Name → Stage) → Awaits S F E
    → (so_far : List Sign) (t : Term) (rest : List Symbol) (more : List Written) (z : Stage)
    → Leads (E (so_far ++ t.signs) t.factor t.variable) (placed row_more rest ++ more) z → Leads (S so_far) (placed row_more (spelled_term t ++ rest) ++ more) z
term_read S F E a so_far t rest more z r =
    regroup row_more (spelled_signs t.signs) (spelled_factor t.factor ++ (name t.variable ∷ [])) rest more _ z
    (through S row_more a.signs so_far t.signs _ more z (go t.factor r))
  where
    go : (factor : Option ℕ) → Leads (E (so_far ++ t.signs) factor t.variable) (placed row_more rest ++ more) z
        → Leads (S (so_far ++ t.signs)) (placed row_more ((spelled_factor factor ++ (name t.variable ∷ [])) ++ rest) ++ more) z
    go None r = (_, a.alone _ _, r)
    go (Some k) r = (_, a.factor _ k, (_, a.both _ k _, r))

abbrev more_terms : List (Sign × Term) → List Symbol
more_terms ms = flat_map (λ m. sign m.0 ∷ spelled_term m.1) ms

-- further terms, where T is the stage behind a sum and S that behind a sum and a sign
terms_read : (T : Sum Term → Stage) (S : Sum Term → Sign → List Sign → Stage) (F : Sum Term → Sign → List Sign → ℕ → Stage)
    → ((sum : Sum Term) (s : Sign) → step (T sum) (sign s) ≡ to row_more (S sum s []))
    → ((sum : Sum Term) (s : Sign) → Awaits (S sum s) (F sum s) (λ signs factor n. T (longer sum s (named factor n signs))))
    → (sum : Sum Term) (ms : List (Sign × Term)) (rest : List Symbol) (more : List Written) (z : Stage)
    → Leads (T (with_more sum ms)) (placed row_more rest ++ more) z → Leads (T sum) (placed row_more (more_terms ms ++ rest) ++ more) z
terms_read T S F h a sum [] rest more z r = subst (λ ms. Leads (T (record { first = sum.first; more = ms })) (placed row_more rest ++ more) z) (append-nil sum.more) r
terms_read T S F h a sum (m ∷ ms) rest more z r = (
  _,
  h sum m.0,
  regroup row_more (spelled_term m.1) (more_terms ms) rest more _ z
      (term_read (S sum m.0) (F sum m.0) _ (a sum m.0) [] m.1 (more_terms ms ++ rest) more z
      (terms_read T S F h a (longer sum m.0 m.1) ms rest more z
      (subst (λ ms. Leads (T (record { first = sum.first; more = ms })) (placed row_more rest ++ more) z) (sym (append_assoc sum.more (m ∷ []) ms)) r))),
)

-- a signed number, at a place whose signs grow
signed_read : (S : List Sign → Stage) (site : Site) (E : List Sign → ℕ → Stage)
    → ((signs : List Sign) (s : Sign) → step (S signs) (sign s) ≡ Some (site, S (signs ++ s ∷ [])))
    → ((signs : List Sign) (k : ℕ) → step (S signs) (number k) ≡ Some (site, E signs k))
    → (v : Signed) (rest : List Symbol) (more : List Written) (z : Stage)
    → Leads (E v.signs v.size) (placed site rest ++ more) z → Leads (S []) (placed site (spelled_signed v ++ rest) ++ more) z
signed_read S site E h k v rest more z r =
    regroup site (spelled_signs v.signs) (number v.size ∷ []) rest more _ z
    (through S site h [] v.signs _ more z (_, k v.signs v.size, r))

-- the terms of a row whose expression comes first, and of one whose number does
r_terms : (f : Front) (label : Option Name) (sum : Sum Term) (ms : List (Sign × Term)) (rest : List Symbol) (more : List Written) (z : Stage)
    → Leads (r_sum f label (with_more sum ms)) (placed row_more rest ++ more) z → Leads (r_sum f label sum) (placed row_more (more_terms ms ++ rest) ++ more) z
r_terms f label = terms_read (r_sum f label) (r_open f label) (r_factor f label) (λ sum s. refl)
    (λ sum s. record { signs = λ g t. refl; factor = λ g k. refl; alone = λ g n. refl; both = λ g k n. refl })

n_terms : (f : Front) (label : Option Name) (v : Signed) (c : Comparison) (sum : Sum Term) (ms : List (Sign × Term)) (rest : List Symbol) (more : List Written) (z : Stage)
    → Leads (n_sum f label v c (with_more sum ms)) (placed row_more rest ++ more) z → Leads (n_sum f label v c sum) (placed row_more (more_terms ms ++ rest) ++ more) z
n_terms f label v c = terms_read (n_sum f label v c) (λ sum s signs. n_open f label v c (further sum s signs)) (λ sum s signs k. n_factor f label v c (further sum s signs) k) (λ sum s. refl)
    (λ sum s. record { signs = λ g t. refl; factor = λ g k. refl; alone = λ g n. refl; both = λ g k n. refl })

-- the first term behind signs
r_term : (f : Front) (label : Option Name) (so_far : List Sign) (t : Term) (rest : List Symbol) (more : List Written) (z : Stage)
    → Leads (r_sum f label (lone (named t.factor t.variable (so_far ++ t.signs)))) (placed row_more rest ++ more) z → Leads (r_signs f label so_far) (placed row_more (spelled_term t ++ rest) ++ more) z
r_term f label = term_read (r_signs f label) (r_number f label) (λ signs factor n. r_sum f label (lone (named factor n signs)))
    (record { signs = λ g t. refl; factor = λ g k. refl; alone = λ g n. refl; both = λ g k n. refl })

-- a sum behind the comparison of a row whose number comes first
n_sum_read : (f : Front) (label : Option Name) (v : Signed) (c : Comparison) (e : Sum Term) (rest : List Symbol) (more : List Written) (z : Stage)
    → Leads (n_sum f label v c e) (placed row_more rest ++ more) z → Leads (n_open f label v c (opening [])) (placed row_more (spelled_sum spelled_term e ++ rest) ++ more) z
n_sum_read f label v c e rest more z r =
    regroup row_more (spelled_term e.first) (more_terms e.more) rest more _ z
    (term_read (λ signs. n_open f label v c (opening signs)) (λ signs k. n_factor f label v c (opening signs) k) (λ signs factor n. n_sum f label v c (lone (named factor n signs)))
    (record { signs = λ g t. refl; factor = λ g k. refl; alone = λ g n. refl; both = λ g k n. refl })
    [] e.first (more_terms e.more ++ rest) more z (n_terms f label v c (lone e.first) e.more rest more z r))

-- the stage behind a row
abbrev row_end : Front → Row → Stage
row_end f (expression_first label e c v) = r_row (with_row f (expression_first label e c v))
row_end f (number_first label v c e) = n_sum f label v c e
row_end f (ranged label v d e w) = r_row (with_row f (ranged label v d e w))

-- behind the sum of a row whose expression comes first
compared_read : (f : Front) (label : Option Name) (e : Sum Term) (c : Comparison) (v : Signed) (more : List Written) (z : Stage)
    → Leads (r_row (with_row f (expression_first label e c v))) more z → Leads (r_compared f label e c []) (placed row_more (spelled_signed v) ++ more) z
compared_read f label e c v more z r =
    subst (λ xs. Leads (r_compared f label e c []) (placed row_more xs ++ more) z) (append-nil (spelled_signed v))
    (signed_read (r_compared f label e c) row_more (λ signs k. r_row (with_row f (expression_first label e c (signed_by k signs)))) (λ g s. refl) (λ g k. refl) v [] more z r)

expression_read : (f : Front) (label : Option Name) (e : Sum Term) (c : Comparison) (v : Signed) (sum : Sum Term) (ms : List (Sign × Term)) → with_more sum ms ≡ e → (more : List Written) (z : Stage)
    → Leads (r_row (with_row f (expression_first label e c v))) more z → Leads (r_sum f label sum) (placed row_more (more_terms ms ++ (comparison c ∷ spelled_signed v)) ++ more) z
expression_read f label e c v sum ms same more z r =
    r_terms f label sum ms (comparison c ∷ spelled_signed v) more z
    (subst (λ x. Leads (r_sum f label x) (placed row_more (comparison c ∷ spelled_signed v) ++ more) z) (sym same) (_, refl, compared_read f label e c v more z r))

-- a row from its first number on
signed_lead : (f : Front) (label : Option Name) (v : Signed) (tail : List Symbol) (more : List Written) (z : Stage)
    → Leads (r_number f label v.signs v.size) (placed row_more tail ++ more) z
    → Leads (r_row f) (headed row_first row_more (spelled_label label ++ (spelled_signed v ++ tail)) ++ more) z
signed_lead f (Some n) v tail more z r =
    (_, refl, (_, refl, signed_read (r_signs f (Some n)) row_more (r_number f (Some n)) (λ g s. refl) (λ g k. refl) v tail more z r))
signed_lead f None v tail more z r = go v.signs v.size r
  where
    go : (signs : List Sign) (k : ℕ) → Leads (r_number f None signs k) (placed row_more tail ++ more) z → Leads (r_row f) (headed row_first row_more (spelled_signed (signed_by k signs) ++ tail) ++ more) z
    go [] k r = (_, refl, r)
    go (s ∷ signs) k r = (_, refl, regroup row_more (spelled_signs signs) (number k ∷ []) tail more _ z (through (r_signs f None) row_more (λ g t. refl) (s ∷ []) signs _ more z (_, refl, r)))

-- a row whose expression comes first
expression_lead : (f : Front) (label : Option Name) (e : Sum Term) (c : Comparison) (v : Signed) (more : List Written) (z : Stage)
    → Leads (r_row (with_row f (expression_first label e c v))) more z → Leads (r_row f) (headed row_first row_more (spelled_row (expression_first label e c v)) ++ more) z
expression_lead f (Some n) e c v more z r = (
  _,
  refl,
  (
    _,
    refl,
    regroup row_more (spelled_term e.first) (more_terms e.more) (comparison c ∷ spelled_signed v) more _ z
        (r_term f (Some n) [] e.first _ more z (expression_read f (Some n) e c v (lone e.first) e.more refl more z r)),
  ),
)
expression_lead f None e c v more z r = go e.first.signs e.first.factor e.first.variable e.more r
  where
    tail : List Symbol
    tail = comparison c ∷ spelled_signed v

    as_sum : (n : Name) (ms : List (Sign × Term)) → Leads (r_sum f None (lone (named None n []))) (placed row_more (more_terms ms ++ tail) ++ more) z
        → Leads (r_name f n) (placed row_more (more_terms ms ++ tail) ++ more) z
    as_sum n [] h = h
    as_sum n (m ∷ ms) h = h

    go : (signs : List Sign) (factor : Option ℕ) (n : Name) (ms : List (Sign × Term)) → Leads (r_row (with_row f (expression_first None (record { first = named factor n signs; more = ms }) c v))) more z
        → Leads (r_row f) (headed row_first row_more ((spelled_term (named factor n signs) ++ more_terms ms) ++ tail) ++ more) z
    go [] None n ms r = (_, refl, as_sum n ms (expression_read f None _ c v (lone (named None n [])) ms refl more z r))
    go [] (Some k) n ms r = (_, refl, (_, refl, expression_read f None _ c v (lone (named (Some k) n [])) ms refl more z r))
    go (s ∷ signs) factor n ms r = (
      _,
      refl,
      regroup row_more (spelled_term (named factor n signs)) (more_terms ms) tail more _ z
          (r_term f None (s ∷ []) (named factor n signs) _ more z (expression_read f None _ c v (lone (named factor n (s ∷ signs))) ms refl more z r)),
    )

-- a row
row_read : (f : Front) (r : Row) (more : List Written) (z : Stage) → Leads (row_end f r) more z → Leads (r_row f) (written_row r ++ more) z
row_read f (expression_first label e c v) more z h = expression_lead f label e c v more z h
row_read f (number_first label v c e) more z h =
    signed_lead f label v (comparison c ∷ spelled_sum spelled_term e) more z
    (_, refl, subst (λ xs. Leads (n_open f label v c (opening [])) (placed row_more xs ++ more) z) (append-nil (spelled_sum spelled_term e)) (n_sum_read f label v c e [] more z h))
row_read f (ranged label v d e w) more z h =
    signed_lead f label v _ more z
    (_, refl, n_sum_read f label v (comparison_of d) e (comparison (comparison_of d) ∷ spelled_signed w) more z (go d h))
  where
    go : (d : Direction) → Leads (r_row (with_row f (ranged label v d e w))) more z → Leads (n_sum f label v (comparison_of d) e) (placed row_more (comparison (comparison_of d) ∷ spelled_signed w) ++ more) z
    go upward h = (
      _,
      refl,
      subst (λ xs. Leads (n_compared f label v upward e []) (placed row_more xs ++ more) z) (append-nil (spelled_signed w))
          (signed_read (n_compared f label v upward e) row_more (λ signs k. r_row (with_row f (ranged label v upward e (signed_by k signs)))) (λ g s. refl) (λ g k. refl) w [] more z h),
    )
    go downward h = (
      _,
      refl,
      subst (λ xs. Leads (n_compared f label v downward e []) (placed row_more xs ++ more) z) (append-nil (spelled_signed w))
          (signed_read (n_compared f label v downward e) row_more (λ signs k. r_row (with_row f (ranged label v downward e (signed_by k signs)))) (λ g s. refl) (λ g k. refl) w [] more z h),
    )

-- what may begin a row, or stand behind all rows; behind an expression no sign may
abbrev may_begin : Bool → Symbol → Bool
may_begin behind (sign s) = not behind
may_begin behind (name n) = true
may_begin behind (number k) = true
may_begin behind (word w) = true
may_begin behind _ = false

-- a stage from which the next row is read
record AtRow (x : Stage) (f : Front) (behind : Bool) : Type 0 where
  same : (s : Symbol) → may_begin behind s ≡ true → step x s ≡ step (r_row f) s

row_end_at : (f : Front) (r : Row) → AtRow (row_end f r) (with_row f r) (ends_with_expression r)
row_end_at f (expression_first label e c v) = record { same = λ s h. refl }
row_end_at f (ranged label v d e w) = record { same = λ s h. refl }
row_end_at f (number_first label v c e) = record { same = go }
  where
    go : (s : Symbol) → may_begin true s ≡ true → step (n_sum f label v c e) s ≡ step (r_row (with_row f (number_first label v c e))) s
    go (sign s) h = absurd cc
    go (name n) h = refl
    go (number k) h = refl
    go (word w) h = refl
    go infinity h = absurd cc
    go (comparison d) h = absurd cc
    go colon h = absurd cc
    go (Symbol.unfit kind) h = absurd cc

not_nil : {A : Type 0} (xs : List A) (y : A) (ys : List A) → xs ++ (y ∷ ys) ≡ [] → ⊥
not_nil [] y ys h = cc
not_nil (x ∷ xs) y ys h = cc

row_nonempty : (r : Row) → spelled_row r ≡ [] → ⊥
row_nonempty (expression_first (Some n) e c v) h = cc
row_nonempty (expression_first None e c v) h = not_nil (spelled_sum spelled_term e) _ _ h
row_nonempty (number_first (Some n) v c e) h = cc
row_nonempty (number_first None v c e) h = not_nil (spelled_signed v) _ _ h
row_nonempty (ranged (Some n) v d e w) h = cc
row_nonempty (ranged None v d e w) h = not_nil (spelled_signed v) _ _ h

abbrev starts_signed : List Symbol → Bool
starts_signed xs = elim xs [ [] ↦ false | s ∷ symbols ↦ elim s [ sign _ ↦ true | _ ↦ false ] ]

-- from such a stage a row is read as from the stage at a row
row_from : (x : Stage) (f : Front) (behind : Bool) (r : Row) → AtRow x f behind → not (behind && begins_signed r) ≡ true → (more : List Written) (z : Stage)
    → Leads (r_row f) (written_row r ++ more) z → Leads x (written_row r ++ more) z
row_from x f behind r at h more z leads = go (spelled_row r) (row_nonempty r) h leads
  where
    begins : (s : Symbol) (b : Bool) → not (b && starts_signed (s ∷ [])) ≡ true → (y : Site × Stage) → step (r_row f) s ≡ Some y → may_begin b s ≡ true
    begins (sign s) true n y e = n
    begins (sign s) false n y e = refl
    begins (name m) b n y e = refl
    begins (number k) b n y e = refl
    begins (word w) b n y e = refl
    begins infinity b n y e = absurd cc
    begins (comparison c) b n y e = absurd cc
    begins colon b n y e = absurd cc
    begins (Symbol.unfit kind) b n y e = absurd cc

    go : (xs : List Symbol) → (xs ≡ [] → ⊥) → not (behind && starts_signed xs) ≡ true → Leads (r_row f) (headed row_first row_more xs ++ more) z → Leads x (headed row_first row_more xs ++ more) z
    go [] n h l = absurd (n refl)
    go (s ∷ ss) n h l = (l.0, at.same s (begins s behind h _ l.1) ∙ l.1, l.2)

abbrev with_rows : Front → List Row → Front
with_rows f rows = record { maximises = f.maximises; label = f.label; objective = f.objective; rows = f.rows ++ rows }

-- whether the first of these rows may stand behind an expression, or behind none
abbrev may_follow : Bool → List Row → Bool
may_follow behind rows = elim rows [ [] ↦ true | s ∷ _ ↦ not (behind && begins_signed s) ]

record RowsRead (x : Stage) (f : Front) (rows : List Row) : Type 0 where
  stage : Stage
  stop : (w : Section) → step stage (word w) ≡ from_word (with_rows f rows) [] w
  leads : (more : List Written) (z : Stage) → Leads stage more z → Leads x (flat_map written_row rows ++ more) z

rows_read : (x : Stage) (f : Front) (behind : Bool) (rows : List Row) → AtRow x f behind → may_follow behind rows ≡ true → are_apart rows ≡ true → RowsRead x f rows
rows_read x f behind [] at h a = record { stage = x; stop = λ w. at.same (word w) refl ∙ ap (λ rows. from_word (record { maximises = f.maximises; label = f.label; objective = f.objective; rows = rows }) [] w) (sym (append-nil f.rows)); leads = λ more z r. r }
rows_read x f behind (r ∷ rows) at h a =
    let parts : (may_follow (ends_with_expression r) rows ≡ true) × (are_apart rows ≡ true) = and_parts _ _ a in
    let next : RowsRead (row_end f r) (with_row f r) rows = rows_read (row_end f r) (with_row f r) (ends_with_expression r) rows (row_end_at f r) parts.0 parts.1 in
    record {
      stage = next.stage;
      stop = λ w. next.stop w ∙ ap (λ rows. from_word (record { maximises = f.maximises; label = f.label; objective = f.objective; rows = rows }) [] w) (append_assoc f.rows (r ∷ []) rows);
      leads = λ more z l. rw append_assoc (row_from x f behind r at h (flat_map written_row rows ++ more) z (row_read f r (flat_map written_row rows ++ more) z (next.leads more z l)));
    }

-- parts

-- a value, from the stage that collects its signs
value_read : (w : Within) (v : Value) (rest : List Symbol) (more : List Written) (z : Stage)
    → Leads (b_value w v) (placed other rest ++ more) z → Leads (b_signs w []) (placed other (spelled_value v ++ rest) ++ more) z
value_read w (finite v) rest more z r = signed_read (b_signs w) other (λ signs k. b_value w (finite (signed_by k signs))) (λ g s. refl) (λ g k. refl) v rest more z r
value_read w (endless signs) rest more z r =
    regroup other (spelled_signs signs) (infinity ∷ []) rest more _ z (through (b_signs w) other (λ g s. refl) [] signs _ more z (_, refl, r))

-- a value that ends a bound
last_value : (S : List Sign → Stage) (E : Value → Stage)
    → ((signs : List Sign) (s : Sign) → step (S signs) (sign s) ≡ Some (other, S (signs ++ s ∷ [])))
    → ((signs : List Sign) (k : ℕ) → step (S signs) (number k) ≡ Some (other, E (finite (signed_by k signs))))
    → ((signs : List Sign) → step (S signs) infinity ≡ Some (other, E (endless signs)))
    → (v : Value) (more : List Written) (z : Stage) → Leads (E v) more z → Leads (S []) (placed other (spelled_value v) ++ more) z
last_value S E h k i (finite v) more z r =
    subst (λ xs. Leads (S []) (placed other xs ++ more) z) (append-nil (spelled_signed v)) (signed_read S other (λ signs n. E (finite (signed_by n signs))) h k v [] more z r)
last_value S E h k i (endless signs) more z r = through S other h [] signs (infinity ∷ []) more z (_, i signs, r)

-- a value that begins a bound
first_value : (w : Within) (v : Value) (rest : List Symbol) (more : List Written) (z : Stage)
    → Leads (b_value w v) (placed other rest ++ more) z → Leads (p_bounds w) (placed other (spelled_value v ++ rest) ++ more) z
first_value w v rest more z r = go v (value_read w v rest more z r)
  where
    go_signed : (signs : List Sign) (k : ℕ) → Leads (b_signs w []) (placed other ((spelled_signs signs ++ (number k ∷ [])) ++ rest) ++ more) z → Leads (p_bounds w) (placed other ((spelled_signs signs ++ (number k ∷ [])) ++ rest) ++ more) z
    go_signed [] k h = h
    go_signed (s ∷ signs) k h = h

    go_endless : (signs : List Sign) → Leads (b_signs w []) (placed other ((spelled_signs signs ++ (infinity ∷ [])) ++ rest) ++ more) z → Leads (p_bounds w) (placed other ((spelled_signs signs ++ (infinity ∷ [])) ++ rest) ++ more) z
    go_endless [] h = h
    go_endless (s ∷ signs) h = h

    go : (v : Value) → Leads (b_signs w []) (placed other (spelled_value v ++ rest) ++ more) z → Leads (p_bounds w) (placed other (spelled_value v ++ rest) ++ more) z
    go (finite v) h = go_signed v.signs v.size h
    go (endless signs) h = go_endless signs h

abbrev bound_end : Within → Bound → Stage
bound_end w (value_first v c n) = b_half w v c n
bound_end w b = p_bounds (with_bound w b)

second_is : (w : Within) (v : Value) (n : Name) (d : Direction) → step (b_half w v (comparison_of d) n) (comparison (comparison_of d)) ≡ to other (b_between w v d n [])
second_is w v n upward = refl
second_is w v n downward = refl

bound_read : (w : Within) (b : Bound) → has_free_word b ≡ true → (more : List Written) (z : Stage) → Leads (bound_end w b) more z → Leads (p_bounds w) (written_bound b ++ more) z
bound_read w (value_first v c n) h more z r =
    rw append_assoc (first_value w v (comparison c ∷ []) (placed listed (name n ∷ []) ++ more) z (_, refl, (_, refl, r)))
bound_read w (name_first n c v) h more z r =
    (_, refl, (_, refl, last_value (b_named w n c) (λ v. p_bounds (with_bound w (name_first n c v))) (λ g s. refl) (λ g k. refl) (λ g. refl) v more z r))
bound_read w (between v d n u) h more z r =
    rw append_assoc (first_value w v (comparison (comparison_of d) ∷ []) _ z (
      _,
      refl,
      (
        _,
        refl,
        (
          _,
          second_is w v n d,
          last_value (b_between w v d n) (λ u. p_bounds (with_bound w (between v d n u))) (λ g s. refl) (λ g k. refl) (λ g. refl) u more z r,
        ),
      ),
    ))
bound_read w (free n m) h more z r = (_, refl, (_, ap (λ b. free_word w n m b) h, r))

abbrev is_comparison : Symbol → Bool
is_comparison (comparison c) = true
is_comparison _ = false

-- a stage from which the next bound is read
record AtBound (x : Stage) (w : Within) : Type 0 where
  same : (s : Symbol) → is_comparison s ≡ false → step x s ≡ step (p_bounds w) s

bound_end_at : (w : Within) (b : Bound) → AtBound (bound_end w b) (with_bound w b)
bound_end_at w (name_first n c v) = record { same = λ s h. refl }
bound_end_at w (between v d n u) = record { same = λ s h. refl }
bound_end_at w (free n m) = record { same = λ s h. refl }
bound_end_at w (value_first v c n) = record { same = go }
  where
    go : (s : Symbol) → is_comparison s ≡ false → step (b_half w v c n) s ≡ step (p_bounds (with_bound w (value_first v c n))) s
    go (sign s) h = refl
    go (name n) h = refl
    go (number k) h = refl
    go (word w) h = refl
    go infinity h = refl
    go (comparison d) h = absurd cc
    go colon h = refl
    go (Symbol.unfit kind) h = refl

bound_from : (x : Stage) (w : Within) (ws : List Written) → AtBound x w → (ws ≡ [] → ⊥) → (z : Stage) → Leads (p_bounds w) ws z → Leads x ws z
bound_from x w [] at n z l = absurd (n refl)
bound_from x w (a ∷ ws) at n z l = (l.0, at.same a.symbol (begins a.symbol _ l.1) ∙ l.1, l.2)
  where
    begins : (s : Symbol) (y : Site × Stage) → step (p_bounds w) s ≡ Some y → is_comparison s ≡ false
    begins (comparison c) y e = absurd cc
    begins (sign s) y e = refl
    begins (name m) y e = refl
    begins (number k) y e = refl
    begins (word w) y e = refl
    begins infinity y e = refl
    begins colon y e = refl
    begins (Symbol.unfit kind) y e = refl

bound_nonempty : (b : Bound) (more : List Written) → written_bound b ++ more ≡ [] → ⊥
bound_nonempty (value_first v c n) more h = not_nil (placed other (spelled_value v ++ (comparison c ∷ []))) _ more (rw append_assoc at h)
bound_nonempty (name_first n c v) more h = cc
bound_nonempty (between v d n u) more h = not_nil (placed other (spelled_value v ++ (comparison (comparison_of d) ∷ []))) _ _ (rw append_assoc at h)
bound_nonempty (free n m) more h = cc

-- a stage from which the next word is read
record AtWord (x : Stage) (f : Front) (parts : List Part) : Type 0 where
  same : (w : Section) → step x (word w) ≡ from_word f parts w

record BoundsRead (x : Stage) (w : Within) (bs : List Bound) : Type 0 where
  stage : Stage
  at : AtWord stage w.front (w.parts ++ bounds (w.so_far ++ bs) ∷ [])
  leads : (more : List Written) (z : Stage) → Leads stage more z → Leads x (flat_map written_bound bs ++ more) z

bounds_read : (x : Stage) (w : Within) (bs : List Bound) → AtBound x w → list_all has_free_word bs ≡ true → BoundsRead x w bs
bounds_read x w [] at h = record {
  stage = x;
  at = record { same = λ s. at.same (word s) refl ∙ ap (λ bs. from_word w.front (w.parts ++ bounds bs ∷ []) s) (sym (append-nil w.so_far)) };
  leads = λ more z r. r;
}
bounds_read x w (b ∷ bs) at h =
    let words : (has_free_word b ≡ true) × (list_all has_free_word bs ≡ true) = and_parts _ _ h in
    let next : BoundsRead (bound_end w b) (with_bound w b) bs = bounds_read (bound_end w b) (with_bound w b) bs (bound_end_at w b) words.1 in
    record {
      stage = next.stage;
      at = record { same = λ s. next.at.same s ∙ ap (λ bs. from_word w.front (w.parts ++ bounds bs ∷ []) s) (append_assoc w.so_far (b ∷ []) bs) };
      leads = λ more z l. rw append_assoc (bound_from x w (written_bound b ++ (flat_map written_bound bs ++ more)) at (bound_nonempty b _) z (bound_read w b words.0 _ z (next.leads more z l)));
    }

record PartRead (x : Stage) (f : Front) (parts : List Part) (text : List Written) : Type 0 where
  stage : Stage
  at : AtWord stage f parts
  leads : (more : List Written) (z : Stage) → Leads stage more z → Leads x (text ++ more) z

generals_read : (f : Front) (parts : List Part) (so_far names : List Name) (more : List Written) (z : Stage) → Leads (p_generals f parts (so_far ++ names)) more z → Leads (p_generals f parts so_far) (placed listed (map name names) ++ more) z
generals_read f parts so_far [] more z r = subst (λ ns. Leads (p_generals f parts ns) more z) (append-nil so_far) r
generals_read f parts so_far (n ∷ names) more z r = (_, refl, generals_read f parts (so_far ++ n ∷ []) names more z (subst (λ ns. Leads (p_generals f parts ns) more z) (sym (append_assoc so_far (n ∷ []) names)) r))

binaries_read : (f : Front) (parts : List Part) (so_far names : List Name) (more : List Written) (z : Stage) → Leads (p_binaries f parts (so_far ++ names)) more z → Leads (p_binaries f parts so_far) (placed listed (map name names) ++ more) z
binaries_read f parts so_far [] more z r = subst (λ ns. Leads (p_binaries f parts ns) more z) (append-nil so_far) r
binaries_read f parts so_far (n ∷ names) more z r = (_, refl, binaries_read f parts (so_far ++ n ∷ []) names more z (subst (λ ns. Leads (p_binaries f parts ns) more z) (sym (append_assoc so_far (n ∷ []) names)) r))

part_read : (x : Stage) (f : Front) (parts : List Part) (p : Part) → AtWord x f parts → part_has_free_words p ≡ true → PartRead x f (parts ++ p ∷ []) (written_part p)
part_read x f parts (generals ns) at h = record {
  stage = p_generals f parts ns;
  at = record { same = λ w. refl };
  leads = λ more z r. (_, at.same sections.Generals, generals_read f parts [] ns more z r);
}
part_read x f parts (binaries ns) at h = record {
  stage = p_binaries f parts ns;
  at = record { same = λ w. refl };
  leads = λ more z r. (_, at.same sections.Binaries, binaries_read f parts [] ns more z r);
}
part_read x f parts (bounds bs) at h =
    let w : Within = record { front = f; parts = parts; so_far = [] } in
    let next : BoundsRead (p_bounds w) w bs = bounds_read (p_bounds w) w bs (record { same = λ s k. refl }) h in
    record { stage = next.stage; at = record { same = next.at.same }; leads = λ more z r. (_, at.same sections.Bounds, next.leads more z r) }

parts_read : (x : Stage) (f : Front) (so_far parts : List Part) → AtWord x f so_far → list_all part_has_free_words parts ≡ true → PartRead x f (so_far ++ parts) (flat_map written_part parts)
parts_read x f so_far [] at h = record { stage = x; at = subst (λ ps. AtWord x f ps) (sym (append-nil so_far)) at; leads = λ more z r. r }
parts_read x f so_far (p ∷ parts) at h =
    let words : (part_has_free_words p ≡ true) × (list_all part_has_free_words parts ≡ true) = and_parts _ _ h in
    let first : PartRead x f (so_far ++ p ∷ []) (written_part p) = part_read x f so_far p at words.0 in
    let next : PartRead first.stage f ((so_far ++ p ∷ []) ++ parts) (flat_map written_part parts) = parts_read first.stage f (so_far ++ p ∷ []) parts first.at words.1 in
    record {
      stage = next.stage;
      at = subst (λ ps. AtWord next.stage f ps) (append_assoc so_far (p ∷ []) parts) next.at;
      leads = λ more z r. rw append_assoc (first.leads (flat_map written_part parts ++ more) z (next.leads more z r));
    }

no_row_yet : (rows : List Row) → may_follow false rows ≡ true
no_row_yet [] = refl
no_row_yet (r ∷ rows) = refl

-- what stands behind the first word of a text
abbrev behind_word : SyntaxTree → List Written
behind_word t = written_objective t ++ (written_word sections.Rows ∷ (flat_map written_row t.rows ++ (flat_map written_part t.parts ++ (written_word sections.End ∷ []))))

body_read : (t : SyntaxTree) → are_apart t.rows ≡ true → list_all part_has_free_words t.parts ≡ true → Leads (o_word t.maximises) (behind_word t) (done t)
body_read t apart words =
    let f : Front = front_of t.maximises t.label t.objective in
    let o : Objective t.maximises t.label t.objective (written_objective t) = objective_read t.maximises t.label t.objective in
    let r : RowsRead (r_row f) f t.rows = rows_read (r_row f) f false t.rows (record { same = λ s h. refl }) (no_row_yet t.rows) apart in
    let p : PartRead r.stage (with_rows f t.rows) t.parts (flat_map written_part t.parts) = parts_read r.stage (with_rows f t.rows) [] t.parts (record { same = r.stop }) words in
    o.leads _ _ (_, o.stop sections.Rows, r.leads _ _ (p.leads _ _ (_, p.at.same sections.End, refl)))

-- the automaton reads the text of a tree
pub accepts : (t : SyntaxTree) → IsText t → Leads start (written t) (done t)
unfolding IsText written
accepts t ok = go t.maximises (body_read t ok.0 ok.1)
  where
    go : (b : Bool) → Leads (o_word b) (behind_word t) (done t) → Leads start (written_word (if b then sections.Maximize else sections.Minimize) ∷ behind_word t) (done t)
    go true h = (_, refl, h)
    go false h = (_, refl, h)

pub same_pair : {A B : Type 0} (a c : A) (b d : B) → ◌≡◌ {A = Option (A × B)} (Some (a, b)) (Some (c, d)) → (a ≡ c) × (b ≡ d)
same_pair {A = A} {B = B} a c b d e = (ap (first_or a) e, ap (second_or b) e)
  where
    first_or : A → Option (A × B) → A
    first_or x None = x
    first_or x (Some p) = p.0

    second_or : B → Option (A × B) → B
    second_or x None = x
    second_or x (Some p) = p.1

pub same_head : {A : Type 0} (x y : A) (xs ys : List A) → x ∷ xs ≡ y ∷ ys → (x ≡ y) × (xs ≡ ys)
same_head x y xs ys e = (cc, cc)

-- the symbols determine where they lead, and their sites
pub one_way : (x y z : Stage) (us vs : List Written) → Leads x us y → Leads x vs z → map (λ w. w.symbol) us ≡ map (λ w. w.symbol) vs → y ≡ z
one_way x y z [] [] h k e = sym h ∙ k
one_way x y z [] (v ∷ vs) h k e = absurd cc
one_way x y z (u ∷ us) [] h k e = absurd cc
one_way x y z (u ∷ us) (v ∷ vs) h k e =
    let heads : (u.symbol ≡ v.symbol) × (map (λ w. w.symbol) us ≡ map (λ w. w.symbol) vs) = same_head _ _ _ _ e in
    let both : (u.site ≡ v.site) × (h.0 ≡ k.0) = same_pair _ _ _ _ (sym h.1 ∙ ap (step x) heads.0 ∙ k.1) in
    one_way k.0 y z us vs (subst (λ s. Leads s us y) both.1 h.2) k.2 heads.1

pub one_siting : (x y z : Stage) (us vs : List Written) (front more other_more : List Symbol) → Leads x us y → Leads x vs z
    → map (λ w. w.symbol) us ≡ front ++ more → map (λ w. w.symbol) vs ≡ front ++ other_more → take (length front) (map (λ w. w.site) us) ≡ take (length front) (map (λ w. w.site) vs)
one_siting x y z us vs [] more other_more h k e f = refl
one_siting x y z [] vs (s ∷ front) more other_more h k e f = absurd cc
one_siting x y z (u ∷ us) [] (s ∷ front) more other_more h k e f = absurd cc
one_siting x y z (u ∷ us) (v ∷ vs) (s ∷ front) more other_more h k e f =
    let left : (u.symbol ≡ s) × (map (λ w. w.symbol) us ≡ front ++ more) = same_head _ _ _ _ e in
    let right : (v.symbol ≡ s) × (map (λ w. w.symbol) vs ≡ front ++ other_more) = same_head _ _ _ _ f in
    let both : (u.site ≡ v.site) × (h.0 ≡ k.0) = same_pair _ _ _ _ (sym h.1 ∙ ap (step x) (left.0 ∙ sym right.0) ∙ k.1) in
    λ i. both.0 i ∷ one_siting k.0 y z us vs front more other_more (subst (λ s. Leads s us y) both.1 h.2) k.2 left.1 right.1 i

-- a text has one tree
pub one_tree : (t u : SyntaxTree) → IsText t → IsText u → spelling t ≡ spelling u → t ≡ u
unfolding spelling
one_tree t u h k e = done_is t u (one_way start (done t) (done u) (written t) (written u) (accepts t h) (accepts u k) e)
  where
    done_is : (t u : SyntaxTree) → done t ≡ done u → t ≡ u
    done_is t u e = cc

-- trees whose texts have one front place it alike
pub one_front : (t u : SyntaxTree) (front more other_more : List Symbol) → IsText t → IsText u → spelling t ≡ front ++ more → spelling u ≡ front ++ other_more → take (length front) (sites t) ≡ take (length front) (sites u)
unfolding spelling sites
one_front t u front more other_more h k e f = one_siting start (done t) (done u) (written t) (written u) front more other_more (accepts t h) (accepts u k) e f

-- no stage goes on with a symbol that is at fault by itself
no_unfit : (x : Stage) (kind : LpKind) → step x (Symbol.unfit kind) ≡ None
no_unfit start kind = refl
no_unfit (o_word b) kind = refl
no_unfit (o_name b n) kind = refl
no_unfit (o_open b label o) kind = refl
no_unfit (o_number b label o k) kind = refl
no_unfit (o_sum b label sum) kind = refl
no_unfit (r_row f) kind = refl
no_unfit (r_name f n) kind = refl
no_unfit (r_signs f label signs) kind = refl
no_unfit (r_number f label signs k) kind = refl
no_unfit (r_open f label sum s signs) kind = refl
no_unfit (r_factor f label sum s signs k) kind = refl
no_unfit (r_sum f label sum) kind = refl
no_unfit (r_compared f label sum c signs) kind = refl
no_unfit (n_open f label v c o) kind = refl
no_unfit (n_factor f label v c o k) kind = refl
no_unfit (n_sum f label v c sum) kind = refl
no_unfit (n_compared f label v d sum signs) kind = refl
no_unfit (p_generals f parts names) kind = refl
no_unfit (p_binaries f parts names) kind = refl
no_unfit (p_bounds w) kind = refl
no_unfit (b_signs w signs) kind = refl
no_unfit (b_value w v) kind = refl
no_unfit (b_compared w v c) kind = refl
no_unfit (b_half w v c n) kind = refl
no_unfit (b_between w v d n signs) kind = refl
no_unfit (b_name w n) kind = refl
no_unfit (b_named w n c signs) kind = refl
no_unfit (done t) kind = refl

-- so none stands in a text
pub all_fit : (x z : Stage) (ws : List Written) (i : ℕ) (kind : LpKind) → Leads x ws z → slice_get (map (λ w. w.symbol) ws) i ≡ Some (Symbol.unfit kind) → ⊥
all_fit x z [] i kind h e = cc
all_fit x z (w ∷ ws) zero kind h e = nothing _ (sym (no_unfit x kind) ∙ ap (step x) (sym (same_some _ _ e)) ∙ h.1)
  where
    nothing : (y : Site × Stage) → ◌≡◌ {A = Step} None (Some y) → ⊥
    nothing y e = cc

    same_some : (a b : Symbol) → Some a ≡ Some b → a ≡ b
    same_some a b e = cc
all_fit x z (w ∷ ws) (suc i) kind h e = all_fit h.0 z ws i kind h.2 e

pub text_fits : (t : SyntaxTree) (i : ℕ) (kind : LpKind) → IsText t → slice_get (spelling t) i ≡ Some (Symbol.unfit kind) → ⊥
unfolding spelling
text_fits t i kind h e = all_fit start (done t) (written t) i kind (accepts t h) e
