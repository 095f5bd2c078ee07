-- Which nodes of a merged tree are open, and that neither order nor grouping matters.
use Rattle.std.proofs.Common.{◌≡◌, refl, sym, ap, subst, ◌∙◌, ℕ, Bool, true, false, ◌||◌, List, [], ◌∷◌, Option, Some, None, arith}
use Rattle.std.proofs.Math.IntN.{ℤ}
use Rattle.std.specs.Prelude.{◌≤ℤ◌, ◌<ℤ◌, int_lt, if◌then◌else◌}
use Rattle.std.specs.Int.{int_max}
use Rattle.std.proofs.lemmas.Int.{ints, clamps}
use Rattle.bp_theory.specs.declared.Proof.{Proof}
use Rattle.search_laws.specs.declared.Side.{Side}
use Rattle.search_laws.specs.declared.Side.TheVariants.{Low, High}
use Rattle.search_laws.specs.Grove.{GrowingTree, live, shut, fork}
use Rattle.search_laws.specs.GroveFacts.{IsNoDearer}
use Rattle.search_laws.specs.Verdicts.{cheaper_cost}
use Rattle.tree_merge.specs.Merging.{raised, farther, merged, is_below, shut_by}
use Rattle.tree_merge.specs.Opens.{AgreeInSplits, OpenNode, open_at, open_in_both, live_bound}
use Rattle.tree_merge.specs.Laws.{merged_by, MergedByNode, OrderIsFree}
use Rattle.tree_merge.proofs.TestFacts.{choose, less_by_test, no_less_by_test, same_by, cheaper_first, cheaper_comm, cheaper_assoc}

-- ---- nodes

node : (z w : ℤ) (e f : Bool) → z ≡ w → e ≡ f → ◌≡◌ {A = Option OpenNode} (Some (record { bound = z; is_leaf = e })) (Some (record { bound = w; is_leaf = f }))
node z w e f p q =
    ap {B = Option OpenNode} (λ (n : ℤ). Some (record { bound = n; is_leaf = e })) p ∙ ap {B = Option OpenNode} (λ (n : Bool). Some (record { bound = w; is_leaf = n })) q

max_comm : (z w : ℤ) → int_max z w ≡ int_max w z
max_comm z w = omega (arith, ints, clamps)

max_assoc : (x y z : ℤ) → int_max (int_max x y) z ≡ int_max x (int_max y z)
max_assoc x y z = omega (arith, ints, clamps)

max_less : (z w : ℤ) → z <ℤ w → w ≡ int_max z w
max_less z w h = omega (arith, ints, clamps)

max_more : (z w : ℤ) → w ≤ℤ z → z ≡ int_max z w
max_more z w h = omega (arith, ints, clamps)

or_comm : (e f : Bool) → (e || f) ≡ (f || e)
or_comm true true = refl
or_comm true false = refl
or_comm false true = refl
or_comm false false = refl

or_assoc : (e f g : Bool) → ((e || f) || g) ≡ (e || (f || g))
or_assoc true f g = refl
or_assoc false f g = refl

both_none : (m : Option OpenNode) → open_in_both m None ≡ None
both_none None = refl
both_none (Some m) = refl

both_comm : (m n : Option OpenNode) → open_in_both m n ≡ open_in_both n m
both_comm None None = refl
both_comm None (Some n) = refl
both_comm (Some m) None = refl
both_comm (Some m) (Some n) =
    node (int_max m.bound n.bound) (int_max n.bound m.bound) (m.is_leaf || n.is_leaf) (n.is_leaf || m.is_leaf) (max_comm m.bound n.bound) (or_comm m.is_leaf n.is_leaf)

both_assoc : (m n o : Option OpenNode) → open_in_both (open_in_both m n) o ≡ open_in_both m (open_in_both n o)
both_assoc None n o = refl
both_assoc (Some m) None o = refl
both_assoc (Some m) (Some n) None = refl
both_assoc (Some m) (Some n) (Some o) =
    node (int_max (int_max m.bound n.bound) o.bound) (int_max m.bound (int_max n.bound o.bound))
    ((m.is_leaf || n.is_leaf) || o.is_leaf) (m.is_leaf || (n.is_leaf || o.is_leaf))
    (max_assoc m.bound n.bound o.bound) (or_assoc m.is_leaf n.is_leaf o.is_leaf)

-- a node below a live leaf of this bound
abbrev below : ℤ → Option OpenNode
below bound = Some (record { bound = bound; is_leaf = false })

raised_at : (t : GrowingTree) (proof : Proof) (bound : ℤ) (path : List Side) → open_at (raised t proof bound) path ≡ open_in_both (open_at t path) (below bound)
raised_at (live own least) proof bound [] =
    choose (λ (m : GrowingTree). open_at m [] ≡ Some (record { bound = int_max least bound; is_leaf = true })) (int_lt least bound) (live proof bound) (live own least)
    (λ less. node bound (int_max least bound) true true (max_less least bound (less_by_test least bound less)) refl)
    (λ more. node least (int_max least bound) true true (max_more least bound (no_less_by_test least bound more)) refl)
raised_at (live own least) proof bound (side ∷ path) =
    choose (λ (m : GrowingTree). open_at m (side ∷ path) ≡ Some (record { bound = int_max least bound; is_leaf = false })) (int_lt least bound) (live proof bound) (live own least)
    (λ less. node bound (int_max least bound) false false (max_less least bound (less_by_test least bound less)) refl)
    (λ more. node least (int_max least bound) false false (max_more least bound (no_less_by_test least bound more)) refl)
raised_at (shut own) proof bound path = refl
raised_at (fork v at low high) proof bound [] = refl
raised_at (fork v at low high) proof bound (Low ∷ path) = raised_at low proof bound path
raised_at (fork v at low high) proof bound (High ∷ path) = raised_at high proof bound path

-- of equal splits the parts are merged
parts_are_merged : (v w : ℕ) (a c : ℤ) (low high left right : GrowingTree) → v ≡ w → a ≡ c
    → merged (fork v a low high) (fork w c left right) ≡ fork v a (merged low left) (merged high right)
parts_are_merged v w a c low high left right p q =
    ap (λ (s : Bool). if s then fork v a (merged low left) (merged high right) else farther (fork v a low high) (fork w c left right)) (same_by v w a c p q)

pub merged_by_node_lem : MergedByNode
merged_by_node_lem (shut p) u path h = refl
merged_by_node_lem (live p z) (shut q) [] h = refl
merged_by_node_lem (live p z) (shut q) (side ∷ path) h = refl
merged_by_node_lem (live p z) (live q w) [] h = raised_at (live p z) q w []
merged_by_node_lem (live p z) (live q w) (side ∷ path) h = raised_at (live p z) q w (side ∷ path)
merged_by_node_lem (live p z) (fork w c left right) [] h = refl
merged_by_node_lem (live p z) (fork w c left right) (Low ∷ path) h = raised_at left p z path ∙ both_comm (open_at left path) (below z)
merged_by_node_lem (live p z) (fork w c left right) (High ∷ path) h = raised_at right p z path ∙ both_comm (open_at right path) (below z)
merged_by_node_lem (fork v a low high) (shut q) path h = sym (both_none (open_at (fork v a low high) path))
merged_by_node_lem (fork v a low high) (live q w) [] h = refl
merged_by_node_lem (fork v a low high) (live q w) (Low ∷ path) h = raised_at low q w path
merged_by_node_lem (fork v a low high) (live q w) (High ∷ path) h = raised_at high q w path
merged_by_node_lem (fork v a low high) (fork w c left right) [] h =
    ap (λ (m : GrowingTree). open_at m []) (parts_are_merged v w a c low high left right h.0 h.1)
merged_by_node_lem (fork v a low high) (fork w c left right) (Low ∷ path) h =
    ap (λ (m : GrowingTree). open_at m (Low ∷ path)) (parts_are_merged v w a c low high left right h.0 h.1) ∙ merged_by_node_lem low left path h.2
merged_by_node_lem (fork v a low high) (fork w c left right) (High ∷ path) h =
    ap (λ (m : GrowingTree). open_at m (High ∷ path)) (parts_are_merged v w a c low high left right h.0 h.1) ∙ merged_by_node_lem high right path h.3

-- ---- what the best cost leaves

still_open : Option ℤ → Option OpenNode → Option OpenNode
still_open cost None = None
still_open cost (Some n) = if is_below n.bound cost then Some n else None

shut_at_node : (t : GrowingTree) (cost : Option ℤ) (path : List Side) → open_at (shut_by cost t) path ≡ still_open cost (open_at t path)
unfolding still_open
shut_at_node (live p z) cost [] = by (is_below z cost)
  where
    by : (s : Bool) → open_at (if s then live p z else shut p) [] ≡ if◌then◌else◌ {A = Option OpenNode} s (Some (record { bound = z; is_leaf = true })) None
    by true = refl
    by false = refl
shut_at_node (live p z) cost (side ∷ path) = by (is_below z cost)
  where
    by : (s : Bool) → open_at (if s then live p z else shut p) (side ∷ path) ≡ if◌then◌else◌ {A = Option OpenNode} s (Some (record { bound = z; is_leaf = false })) None
    by true = refl
    by false = refl
shut_at_node (shut p) cost path = refl
shut_at_node (fork v at low high) cost [] = refl
shut_at_node (fork v at low high) cost (Low ∷ path) = shut_at_node low cost path
shut_at_node (fork v at low high) cost (High ∷ path) = shut_at_node high cost path

-- the bound of a node that is a live leaf itself
leaf_bound : Option OpenNode → Option ℤ
leaf_bound None = None
leaf_bound (Some n) = if n.is_leaf then Some n.bound else None

live_bound_is : (t : GrowingTree) (path : List Side) → live_bound t path ≡ leaf_bound (open_at t path)
unfolding leaf_bound
live_bound_is (live p z) [] = refl
live_bound_is (live p z) (side ∷ path) = refl
live_bound_is (shut p) path = refl
live_bound_is (fork v at low high) [] = refl
live_bound_is (fork v at low high) (Low ∷ path) = live_bound_is low path
live_bound_is (fork v at low high) (High ∷ path) = live_bound_is high path

-- what isn't below a cost isn't below a cheaper one, nor is anything greater
not_below : (z w : ℤ) (dear cheap : Option ℤ) → IsNoDearer cheap dear → z ≤ℤ w → is_below z dear ≡ false → is_below w cheap ≡ false
not_below z w None cheap less more not = absurd (cc)
not_below z w (Some x) None less more not = absurd less
not_below z w (Some x) (Some y) less more not = by (int_lt w y) refl
  where
    by : (s : Bool) → int_lt w y ≡ s → s ≡ false
    by true e = absurd (clash (no_less_by_test z x not) (less_by_test w y e))
      where
        clash : x ≤ℤ z → w <ℤ y → ⊥
        clash h k = omega (arith, ints, h, k, less, more)
    by false e = refl

-- a cost that shut what it settles before takes nothing from what a cheaper cost leaves
shut_before : (m n : Option OpenNode) (dear cheap : Option ℤ) → IsNoDearer cheap dear
    → still_open cheap (open_in_both (still_open dear m) n) ≡ still_open cheap (open_in_both m n)
unfolding still_open
shut_before None n dear cheap less = refl
shut_before (Some m) n dear cheap less = by (is_below m.bound dear) refl n
  where
    none : (o : OpenNode) → is_below o.bound cheap ≡ false → None ≡ still_open cheap (Some o)
    none o e = ap (λ (s : Bool). if◌then◌else◌ {A = Option OpenNode} s (Some o) None) (sym e)

    more : (a b : ℤ) → a ≤ℤ int_max a b
    more a b = omega (arith, ints, clamps)

    by : (s : Bool) → is_below m.bound dear ≡ s → (n : Option OpenNode)
        → still_open cheap (open_in_both (if◌then◌else◌ {A = Option OpenNode} s (Some m) None) n) ≡ still_open cheap (open_in_both (Some m) n)
    by true e n = refl
    by false e None = refl
    by false e (Some n) =
        none (record { bound = int_max m.bound n.bound; is_leaf = m.is_leaf || n.is_leaf })
        (not_below m.bound (int_max m.bound n.bound) dear cheap less (more m.bound n.bound) e)

-- ---- trees that agree in splits

agree_sym : (t u : GrowingTree) → AgreeInSplits t u → AgreeInSplits u t
agree_sym (live p z) (live q w) h = tt
agree_sym (live p z) (shut q) h = tt
agree_sym (live p z) (fork w c left right) h = tt
agree_sym (shut p) (live q w) h = tt
agree_sym (shut p) (shut q) h = tt
agree_sym (shut p) (fork w c left right) h = tt
agree_sym (fork v a low high) (live q w) h = tt
agree_sym (fork v a low high) (shut q) h = tt
agree_sym (fork v a low high) (fork w c left right) h = (sym h.0, sym h.1, agree_sym low left h.2, agree_sym high right h.3)

agree_raised : (t w : GrowingTree) (proof : Proof) (bound : ℤ) → AgreeInSplits t w → AgreeInSplits (raised t proof bound) w
agree_raised (live own least) w proof bound h =
    choose (λ (m : GrowingTree). AgreeInSplits m w) (int_lt least bound) (live proof bound) (live own least) (λ less. tt) (λ more. tt)
agree_raised (shut own) w proof bound h = tt
agree_raised (fork v a low high) (live q z) proof bound h = tt
agree_raised (fork v a low high) (shut q) proof bound h = tt
agree_raised (fork v a low high) (fork w c left right) proof bound h = (h.0, h.1, agree_raised low left proof bound h.2, agree_raised high right proof bound h.3)

agree_shut : (t w : GrowingTree) (cost : Option ℤ) → AgreeInSplits t w → AgreeInSplits (shut_by cost t) w
agree_shut (live p z) w cost h = choose (λ (m : GrowingTree). AgreeInSplits m w) (is_below z cost) (live p z) (shut p) (λ less. tt) (λ more. tt)
agree_shut (shut p) w cost h = tt
agree_shut (fork v a low high) (live q z) cost h = tt
agree_shut (fork v a low high) (shut q) cost h = tt
agree_shut (fork v a low high) (fork w c left right) cost h = (h.0, h.1, agree_shut low left cost h.2, agree_shut high right cost h.3)

agree_merged : (t u w : GrowingTree) → AgreeInSplits t u → AgreeInSplits t w → AgreeInSplits u w → AgreeInSplits (merged t u) w
agree_merged (shut p) u w h f g = tt
agree_merged (live p z) (shut q) w h f g = tt
agree_merged (live p z) (live q y) w h f g = agree_raised (live p z) w q y tt
agree_merged (live p z) (fork v a low high) w h f g = agree_raised (fork v a low high) w p z g
agree_merged (fork v a low high) (shut q) w h f g = tt
agree_merged (fork v a low high) (live q y) w h f g = agree_raised (fork v a low high) w q y f
agree_merged (fork v a low high) (fork x c left right) (live r y) h f g =
    subst (λ (m : GrowingTree). AgreeInSplits m (live r y)) (sym (parts_are_merged v x a c low high left right h.0 h.1)) tt
agree_merged (fork v a low high) (fork x c left right) (shut r) h f g =
    subst (λ (m : GrowingTree). AgreeInSplits m (shut r)) (sym (parts_are_merged v x a c low high left right h.0 h.1)) tt
agree_merged (fork v a low high) (fork x c left right) (fork y d first second) h f g =
    subst (λ (m : GrowingTree). AgreeInSplits m (fork y d first second)) (sym (parts_are_merged v x a c low high left right h.0 h.1))
    (f.0, f.1, agree_merged low left first h.2 f.2 g.2, agree_merged high right second h.3 f.3 g.3)

-- ---- order and grouping

-- which leaves are live after merging, by the nodes of both
merged_leaves : (t u : GrowingTree) (x y : Option ℤ) (path : List Side) → AgreeInSplits t u
    → live_bound (merged_by x y t u) path ≡ leaf_bound (still_open (cheaper_cost x y) (open_in_both (open_at t path) (open_at u path)))
merged_leaves t u x y path h =
    live_bound_is (merged_by x y t u) path
    ∙ ap leaf_bound (shut_at_node (merged t u) (cheaper_cost x y) path ∙ ap (still_open (cheaper_cost x y)) (merged_by_node_lem t u path h))

merged_open : (t u : GrowingTree) (x y : Option ℤ) (path : List Side) → AgreeInSplits t u
    → open_at (merged_by x y t u) path ≡ still_open (cheaper_cost x y) (open_in_both (open_at t path) (open_at u path))
merged_open t u x y path h = shut_at_node (merged t u) (cheaper_cost x y) path ∙ ap (still_open (cheaper_cost x y)) (merged_by_node_lem t u path h)

order_by : (t u : GrowingTree) (x y : Option ℤ) (path : List Side) → AgreeInSplits t u → live_bound (merged_by x y t u) path ≡ live_bound (merged_by y x u t) path
order_by t u x y path h =
    merged_leaves t u x y path h
    ∙ ap (λ (c : Option ℤ). leaf_bound (still_open c (open_in_both (open_at t path) (open_at u path)))) (cheaper_comm x y)
    ∙ ap (λ (n : Option OpenNode). leaf_bound (still_open (cheaper_cost y x) n)) (both_comm (open_at t path) (open_at u path))
    ∙ sym (merged_leaves u t y x path (agree_sym t u h))

-- three trees, two of them first
three_first : (t u w : GrowingTree) (x y z : Option ℤ) (path : List Side) → AgreeInSplits t u → AgreeInSplits t w → AgreeInSplits u w
    → live_bound (merged_by (cheaper_cost x y) z (merged_by x y t u) w) path
    ≡ leaf_bound (still_open (cheaper_cost (cheaper_cost x y) z) (open_in_both (open_in_both (open_at t path) (open_at u path)) (open_at w path)))
three_first t u w x y z path h f g =
    let m : Option OpenNode = open_in_both (open_at t path) (open_at u path) in
    let n : Option OpenNode = open_at w path in
    let dear : Option ℤ = cheaper_cost x y in
    let cheap : Option ℤ = cheaper_cost dear z in
    merged_leaves (merged_by x y t u) w dear z path (agree_shut (merged t u) w dear (agree_merged t u w h f g))
    ∙ ap (λ (o : Option OpenNode). leaf_bound (still_open cheap (open_in_both o n))) (merged_open t u x y path h)
    ∙ ap leaf_bound (shut_before m n dear cheap (cheaper_first dear z))

grouping_by : (t u w : GrowingTree) (x y z : Option ℤ) (path : List Side) → AgreeInSplits t u → AgreeInSplits t w → AgreeInSplits u w
    → live_bound (merged_by (cheaper_cost x y) z (merged_by x y t u) w) path ≡ live_bound (merged_by x (cheaper_cost y z) t (merged_by y z u w)) path
grouping_by t u w x y z path h f g =
    let k : Option OpenNode = open_at t path in
    let m : Option OpenNode = open_at u path in
    let n : Option OpenNode = open_at w path in
    let costs : cheaper_cost (cheaper_cost x y) z ≡ cheaper_cost (cheaper_cost y z) x = cheaper_assoc x y z ∙ cheaper_comm x (cheaper_cost y z) in
    three_first t u w x y z path h f g
    ∙ ap (λ (c : Option ℤ). leaf_bound (still_open c (open_in_both (open_in_both k m) n))) costs
    ∙ ap (λ (o : Option OpenNode). leaf_bound (still_open (cheaper_cost (cheaper_cost y z) x) o)) (both_assoc k m n ∙ both_comm k (open_in_both m n))
    ∙ sym (three_first u w t y z x path g (agree_sym t u h) (agree_sym t w f))
    ∙ sym (order_by t (merged_by y z u w) x (cheaper_cost y z) path
    (agree_sym (merged_by y z u w) t (agree_shut (merged u w) t (cheaper_cost y z) (agree_merged u w t g (agree_sym t u h) (agree_sym t w f)))))

pub order_is_free_lem : OrderIsFree
order_is_free_lem = record { order = order_by; grouping = grouping_by }
