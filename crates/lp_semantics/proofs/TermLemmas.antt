-- The terms and constants of sums as they are written.
use Rattle.std.proofs.Common.{◌≡◌, ◌∙◌, refl, sym, ap, ℕ, ◌+◌, ◌<◌, ◌≤◌, Bool, true, false, List, [], ◌∷◌, ◌++◌, map, take, length, get_or, Option, Some, None, arith, below_more}
use Rattle.std.specs.Prelude.{ℤ, pos, neg_ℤ, ◌+ℤ◌, filter_map, option_to_list, unwrap_or}
use Rattle.std.proofs.lemmas.List.{take_all, take_more, map_more, get_or_default, append_assoc}
use Rattle.std.specs.List.{cons_option}
use Rattle.std.proofs.lemmas.List.Elements.{filter_map-append}
use Rattle.bp_theory.proofs.SumLaws.{sum_of_more}
use Rattle.std.proofs.lemmas.Int.{ints}
use Rattle.bp_theory.specs.Sums.{sum_of}
use Rattle.bp_theory.specs.declared.Span.{Span}
use Rattle.bp_theory.specs.declared.Term as theory
use Rattle.lp_syntax.specs.Tree as plain
use Rattle.lp_syntax.specs.Tree.{Name, term, constant}
use Rattle.lp_syntax.specs.declared.tree.Sign.{Sign}
use Rattle.lp_syntax.specs.declared.tree.Sign.TheVariants.{Plus as plus, Minus as minus}
use Rattle.lp_syntax.specs.TreeIn.{term_in, item_in, sum_in}
use Rattle.lp_semantics.specs.Meaning.{signed, minimised, with_sign, as_items, items_of, constant_of, total, span_of}
use Rattle.lp_semantics.specs.Numbered.{turned_by, raw_term, raw_item, raw_terms, ends_in, fault_in, stated_at}
use Rattle.lp_semantics.specs.declared.bounds.Stated.{Stated}
use Rattle.lp_syntax.specs.declared.tree.Term.{Term}
use Rattle.lp_syntax.specs.declared.tree.Item.{Item}
use Rattle.lp_syntax.specs.declared.tree.Sum.{Sum}

-- what is there in front
abbrev joined : {A : Type 0} → Option A → List A → List A
joined None xs = xs
joined (Some x) xs = x ∷ xs

joined_is : {A : Type 0} (o : Option A) (xs : List A) → joined o xs ≡ option_to_list o ++ xs
joined_is None xs = refl
joined_is (Some x) xs = refl

-- a sign in front turns what stands behind it
pub sign_turns : (turned : Bool) (s : Sign) (signs : List Sign) (n : ℕ) → minimised turned (signed (s ∷ signs) n) ≡ minimised (turned_by turned s) (signed signs n)
sign_turns turned plus signs n = refl
sign_turns true minus signs n = twice (signed signs n)
  where
    twice : (z : ℤ) → neg_ℤ (neg_ℤ z) ≡ z
    twice z = omega (arith, ints)
sign_turns false minus signs n = refl

pub zero_stays : (turned : Bool) → minimised turned (pos 0) ≡ pos 0
zero_stays true = refl
zero_stays false = refl

-- an item with a sign in front is a term, or a constant, that is turned by it
pub item_turns : (names : List Name) (turned : Bool) (s : Sign) (i : plain.Item) → raw_item names turned (with_sign s i) ≡ raw_item names (turned_by turned s) i
item_turns names turned s (term t) = ap (λ z. Some (made z)) (sign_turns turned s t.signs (unwrap_or t.factor 1))
  where
    made : ℤ → theory.Term
    made z = record { var = (raw_term names turned t).var; coef = z }
item_turns names turned s (constant c) = refl

pub constant_turns : (turned : Bool) (s : Sign) (i : plain.Item) → minimised turned (constant_of (with_sign s i)) ≡ minimised (turned_by turned s) (constant_of i)
constant_turns turned s (term t) = zero_stays turned ∙ sym (zero_stays (turned_by turned s))
constant_turns turned s (constant c) = sign_turns turned s c.signs c.size

-- a constant sum, turned as a whole or piece by piece
pub total_turns : (turned : Bool) (items : List plain.Item) → minimised turned (total (map constant_of items)) ≡ sum_of (λ i. minimised turned (constant_of i)) items
total_turns turned [] = zero_stays turned
total_turns turned (i ∷ items) = spread turned (constant_of i) (total (map constant_of items)) ∙ ap (λ z. minimised turned (constant_of i) +ℤ z) (total_turns turned items)
  where
    spread : (t : Bool) (a b : ℤ) → minimised t (a +ℤ b) ≡ minimised t a +ℤ minimised t b
    spread true a b = omega (arith, ints)
    spread false a b = refl

-- the further summands, each turned by its sign
pub more_items : {A : Type 0} (f : A → plain.Item) (names : List Name) (turned : Bool) (more : List (Sign × A))
    → filter_map (λ (m : Sign × A). raw_item names (turned_by turned m.0) (f m.1)) more
    ≡ raw_terms names turned (map (λ (m : Sign × plain.Item). with_sign m.0 m.1) (map (λ (m : Sign × A). (m.0, f m.1)) more))
more_items {A} f names turned [] = refl
more_items {A} f names turned (m ∷ more) =
    ap (λ o. joined o (filter_map (λ (n : Sign × A). raw_item names (turned_by turned n.0) (f n.1)) more)) (sym (item_turns names turned m.0 (f m.1)))
    ∙ ap (joined (raw_item names turned (with_sign m.0 (f m.1)))) (more_items f names turned more)

pub more_constants : {A : Type 0} (f : A → plain.Item) (turned : Bool) (more : List (Sign × A))
    → sum_of (λ (m : Sign × A). minimised (turned_by turned m.0) (constant_of (f m.1))) more
    ≡ sum_of (λ i. minimised turned (constant_of i)) (map (λ (m : Sign × plain.Item). with_sign m.0 m.1) (map (λ (m : Sign × A). (m.0, f m.1)) more))
more_constants {A} f turned [] = refl
more_constants {A} f turned (m ∷ more) =
    ap (λ z. z +ℤ sum_of (λ (n : Sign × A). minimised (turned_by turned n.0) (constant_of (f n.1))) more) (sym (constant_turns turned m.0 (f m.1)))
    ∙ ap (λ z. minimised turned (constant_of (with_sign m.0 (f m.1))) +ℤ z) (more_constants f turned more)

-- the terms of an objective's sum
pub objective_terms : (text : List ℕ) (names : List Name) (turned : Bool) (e : Sum Item) (i : ℕ) (items : List (Sign × Item)) (start costs : List theory.Term)
    → items ≡ e.more → length items ≤ i
    → start ≡ option_to_list (raw_item names turned (item_in text e.first))
    → costs ≡ start ++ filter_map (λ (m : Sign × Item). raw_item names (turned_by turned m.0) (item_in text m.1)) (take i items)
    → costs ≡ raw_terms names turned (items_of (sum_in (item_in text) e))
objective_terms text names turned e i items start costs same l begin all =
    all
    ∙ ap (λ s. s ++ filter_map (λ (m : Sign × Item). raw_item names (turned_by turned m.0) (item_in text m.1)) (take i items)) begin
    ∙ ap (λ ms. option_to_list (raw_item names turned (item_in text e.first)) ++ filter_map (λ (m : Sign × Item). raw_item names (turned_by turned m.0) (item_in text m.1)) ms) (take_all i items l ∙ same)
    ∙ ap (λ ts. option_to_list (raw_item names turned (item_in text e.first)) ++ ts) (more_items (item_in text) names turned e.more)
    ∙ sym (joined_is (raw_item names turned (item_in text e.first)) (raw_terms names turned (map (λ (m : Sign × plain.Item). with_sign m.0 m.1) (map (λ (m : Sign × Item). (m.0, item_in text m.1)) e.more))))

-- its constant
pub objective_constant : (text : List ℕ) (turned : Bool) (e : Sum Item) (i : ℕ) (items : List (Sign × Item)) (start all : ℤ)
    → items ≡ e.more → length items ≤ i
    → start ≡ minimised turned (constant_of (item_in text e.first))
    → all ≡ start +ℤ sum_of (λ (m : Sign × Item). minimised (turned_by turned m.0) (constant_of (item_in text m.1))) (take i items)
    → all ≡ minimised turned (total (map constant_of (items_of (sum_in (item_in text) e))))
objective_constant text turned e i items start all same l begin sum =
    sum
    ∙ ap (λ z. z +ℤ sum_of (λ (m : Sign × Item). minimised (turned_by turned m.0) (constant_of (item_in text m.1))) (take i items)) begin
    ∙ ap (λ ms. minimised turned (constant_of (item_in text e.first)) +ℤ sum_of (λ (m : Sign × Item). minimised (turned_by turned m.0) (constant_of (item_in text m.1))) ms) (take_all i items l ∙ same)
    ∙ ap (λ z. minimised turned (constant_of (item_in text e.first)) +ℤ z) (more_constants (item_in text) turned e.more)
    ∙ sym (total_turns turned (items_of (sum_in (item_in text) e)))

-- the terms of a row's sum
pub row_terms : (text : List ℕ) (names : List Name) (e : Sum Term) (i : ℕ) (items : List (Sign × Term)) (terms : List theory.Term)
    → items ≡ e.more → length items ≤ i
    → terms ≡ raw_term names false (term_in text e.first) ∷ map (λ (m : Sign × Term). raw_term names (turned_by false m.0) (term_in text m.1)) (take i items)
    → terms ≡ raw_terms names false (as_items (sum_in (term_in text) e))
row_terms text names e i items terms same l all =
    all
    ∙ ap (λ ms. raw_term names false (term_in text e.first) ∷ map (λ (m : Sign × Term). raw_term names (turned_by false m.0) (term_in text m.1)) ms) (take_all i items l ∙ same)
    ∙ ap (λ ts. raw_term names false (term_in text e.first) ∷ ts) (further e.more)
  where
    further : (more : List (Sign × Term)) → map (λ (m : Sign × Term). raw_term names (turned_by false m.0) (term_in text m.1)) more
        ≡ raw_terms names false (map (λ (m : Sign × plain.Term). with_sign m.0 (term m.1)) (map (λ (m : Sign × Term). (m.0, term_in text m.1)) more))
    further [] = refl
    further (m ∷ more) =
        ap (λ o. joined o (map (λ (n : Sign × Term). raw_term names (turned_by false n.0) (term_in text n.1)) more)) (sym (item_turns names false m.0 (term (term_in text m.1))))
        ∙ ap (joined (raw_item names false (with_sign m.0 (term (term_in text m.1))))) (further more)

-- one span more
pub span_more : (table : List Stated) (i : ℕ) (d : Stated) (spans more : List Span) (s : Span) → i < length table
    → spans ≡ map (λ s. span_of (ends_in s)) (take i table) → more ≡ spans ++ s ∷ [] → s ≡ span_of (ends_in (get_or table i d))
    → more ≡ map (λ s. span_of (ends_in s)) (take (i + 1) table)
span_more table i d spans more s l so_far e same =
    e ∙ ap (λ ss. ss ++ s ∷ []) so_far
    ∙ ap (λ x. map (λ s. span_of (ends_in s)) (take i table) ++ x ∷ []) same
    ∙ sym (map_more (λ s. span_of (ends_in s)) table i d l)

-- one variable more that is not at fault
pub sound_more : (table : List Stated) (i : ℕ) (d : Stated) → i < length table
    → ((k : ℕ) → k < i → fault_in (stated_at table k) ≡ None) → fault_in (get_or table i d) ≡ None
    → (k : ℕ) → k < i + 1 → fault_in (stated_at table k) ≡ None
sound_more table i d l so_far here = below_more _ _ so_far (ap fault_in (get_or_default table i _ d l) ∙ here)

-- one summand more of an objective
pub costs_more : {X Y : Type 0} (h : X → Option Y) (xs : List X) (i : ℕ) (x : X) (start before after : List Y) → i < length xs → x ≡ get_or xs i x
    → before ≡ start ++ filter_map h (take i xs) → after ≡ before ++ option_to_list (h x)
    → after ≡ start ++ filter_map h (take (i + 1) xs)
costs_more {X} {Y} h xs i x start before after l here so_far e =
    e ∙ ap (λ ts. ts ++ option_to_list (h x)) so_far
    ∙ append_assoc start (filter_map h (take i xs)) (option_to_list (h x))
    ∙ ap (λ ts. start ++ (filter_map h (take i xs) ++ ts)) (alone (h x) ∙ ap (λ y. cons_option (h y) []) here)
    ∙ ap (λ ts. start ++ ts) (sym (filter_map-append h (take i xs) (get_or xs i x ∷ [])))
    ∙ ap (λ ys. start ++ filter_map h ys) (sym (take_more xs i x l))
  where
    alone : (o : Option Y) → option_to_list o ≡ cons_option o []
    alone None = refl
    alone (Some y) = refl

pub constant_more : {X : Type 0} (f : X → ℤ) (xs : List X) (i : ℕ) (x : X) (start before after : ℤ) → i < length xs → x ≡ get_or xs i x
    → before ≡ start +ℤ sum_of f (take i xs) → after ≡ before +ℤ f x
    → after ≡ start +ℤ sum_of f (take (i + 1) xs)
constant_more f xs i x start before after l here so_far e = omega (arith, ints, sum_of_more f xs i x l, ap f here)
