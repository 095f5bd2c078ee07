-- A growing tree at the path of a live leaf: its leaves before and behind, and what another tree put there changes.
use Rattle.std.proofs.Common.{◌≡◌, refl, sym, ap, subst, ◌∙◌, ◌+◌, List, [], ◌∷◌, ◌++◌, append_assoc, Some, arith}
use Rattle.std.proofs.lemmas.List.{append-nil}
use Rattle.std.proofs.lemmas.List.Elements.{All-from_recursion, recursion_from_All}
use Rattle.std.specs.Prelude.{All}
use Rattle.std.specs.List.{AllByRecursion}
use Rattle.bp_theory.specs.Trees.{HasSoundSplits, low_part, high_part, steps}
use Rattle.bp_theory.specs.declared.Span.{Span}
use Rattle.search_laws.specs.declared.Side.{Side}
use Rattle.search_laws.specs.declared.Side.TheVariants.{Low, High}
use Rattle.search_laws.specs.Grove.{GrowingTree, live, shut, fork, GrowingLeaf, leaves_below, growing_leaves, LiveLeaf, live_at, zone_at, put_at, live_count, certificate_tree}

-- a fact of each element, some of which are replaced by others
pub recursion-replace : {X : Type 0} (P : X → Type 0) (before after mid : List X) (x : X)
    → AllByRecursion P (before ++ x ∷ after) → AllByRecursion P mid → AllByRecursion P (before ++ (mid ++ after))
recursion-replace P [] after [] x all new = all.1
recursion-replace P [] after (y ∷ ys) x all new = (new.0, recursion-replace P [] after ys x all new.1)
recursion-replace P (z ∷ zs) after mid x all new = (all.0, recursion-replace P zs after mid x all.1 new)

-- a fact of the element in the middle
pub recursion-middle : {X : Type 0} (P : X → Type 0) (before after : List X) (x : X) → AllByRecursion P (before ++ x ∷ after) → P x
recursion-middle P [] after x all = all.0
recursion-middle P (z ∷ zs) after x all = recursion-middle P zs after x all.1

-- a fact of each element of two lists joined
pub recursion_parts : {X : Type 0} (P : X → Type 0) (xs ys : List X) → AllByRecursion P (xs ++ ys) → AllByRecursion P xs × AllByRecursion P ys
recursion_parts P [] ys all = (tt, all)
recursion_parts P (x ∷ xs) ys all = let rest = recursion_parts P xs ys all.1 in ((all.0, rest.0), rest.1)

-- a fact of each element, of two lists joined
pub recursion-append : {X : Type 0} (P : X → Type 0) (xs ys : List X) → AllByRecursion P xs → AllByRecursion P ys → AllByRecursion P (xs ++ ys)
recursion-append P [] ys first second = second
recursion-append P (x ∷ xs) ys first second = (first.0, recursion-append P xs ys first.1 second)

-- a live leaf of a tree, whose node has this path and zone
abbrev pub leaf_of : List Side → List Span → LiveLeaf → GrowingLeaf
leaf_of path zone leaf = record { path = path; zone = zone; proof = leaf.proof; bound = Some leaf.bound }

-- the leaves before and behind the live leaf at a path, which stay whatever is put there
pub record IsPlace (t : GrowingTree) (at : List Side) (zone : List Span) (path full : List Side) (leaf : LiveLeaf) : Type 0 where
  pub before : List GrowingLeaf
  pub after : List GrowingLeaf
  pub now : leaves_below t at zone ≡ before ++ leaf_of full (zone_at t zone path) leaf ∷ after
  pub put : (new : GrowingTree) → leaves_below (put_at t path new) at zone ≡ before ++ (leaves_below new full (zone_at t zone path) ++ after)

place_of : (t : GrowingTree) (at : List Side) (zone : List Span) (path full : List Side) (leaf : LiveLeaf)
    → full ≡ at ++ path → live_at t path ≡ Some leaf → IsPlace t at zone path full leaf
place_of (live proof bound) at zone [] full leaf e h =
    let same : at ≡ full = sym (append-nil at) ∙ sym e in
    let kept : record { proof = proof; bound = bound } ≡ leaf = cc in
    record {
      before = [];
      after = [];
      now = ap (λ (l : LiveLeaf). leaf_of at zone l ∷ []) kept ∙ ap (λ (q : List Side). leaf_of q zone leaf ∷ []) same;
      put = λ new. ap (λ (q : List Side). leaves_below new q zone) same ∙ sym (append-nil (leaves_below new full zone));
    }
place_of (live proof bound) at zone (side ∷ path) full leaf e h = absurd (cc)
place_of (shut proof) at zone path full leaf e h = absurd (cc)
place_of (fork v a low high) at zone [] full leaf e h = absurd (cc)
place_of (fork v a low high) at zone (Low ∷ path) full leaf e h =
    let inner : IsPlace low (at ++ Low ∷ []) (low_part zone v a) path full leaf =
    place_of low (at ++ Low ∷ []) (low_part zone v a) path full leaf (e ∙ sym (append_assoc at (Low ∷ []) path)) h in
    let rest : List GrowingLeaf = leaves_below high (at ++ High ∷ []) (high_part zone v a) in
    let here : GrowingLeaf = leaf_of full (zone_at low (low_part zone v a) path) leaf in
    record {
      before = inner.before;
      after = inner.after ++ rest;
      now = ap (λ (ls : List GrowingLeaf). ls ++ rest) inner.now ∙ append_assoc inner.before (here ∷ inner.after) rest;
      put = λ new.
          let put : List GrowingLeaf = leaves_below new full (zone_at low (low_part zone v a) path) in
          ap (λ (ls : List GrowingLeaf). ls ++ rest) (inner.put new)
          ∙ append_assoc inner.before (put ++ inner.after) rest
          ∙ ap (λ (ls : List GrowingLeaf). inner.before ++ ls) (append_assoc put inner.after rest);
    }
place_of (fork v a low high) at zone (High ∷ path) full leaf e h =
    let inner : IsPlace high (at ++ High ∷ []) (high_part zone v a) path full leaf =
    place_of high (at ++ High ∷ []) (high_part zone v a) path full leaf (e ∙ sym (append_assoc at (High ∷ []) path)) h in
    let first : List GrowingLeaf = leaves_below low (at ++ Low ∷ []) (low_part zone v a) in
    let here : GrowingLeaf = leaf_of full (zone_at high (high_part zone v a) path) leaf in
    record {
      before = first ++ inner.before;
      after = inner.after;
      now = ap (λ (ls : List GrowingLeaf). first ++ ls) inner.now ∙ sym (append_assoc first inner.before (here ∷ inner.after));
      put = λ new.
          let put : List GrowingLeaf = leaves_below new full (zone_at high (high_part zone v a) path) in
          ap (λ (ls : List GrowingLeaf). first ++ ls) (inner.put new)
          ∙ sym (append_assoc first inner.before (put ++ inner.after));
    }

-- the fact of the live leaf at a path
pub leaf_at_path : (P : GrowingLeaf → Type 0) (t : GrowingTree) (zone : List Span) (path : List Side) (leaf : LiveLeaf)
    → live_at t path ≡ Some leaf → All P (growing_leaves t zone) → P (leaf_of path (zone_at t zone path) leaf)
leaf_at_path P t zone path leaf h all =
    let place : IsPlace t [] zone path path leaf = place_of t [] zone path path leaf refl h in
    recursion-middle P place.before place.after (leaf_of path (zone_at t zone path) leaf)
    (subst (AllByRecursion P) place.now (recursion_from_All P (growing_leaves t zone) all))

-- a fact of each leaf, where a tree of which it holds is put in place of a live leaf
pub leaves_put : (P : GrowingLeaf → Type 0) (t : GrowingTree) (zone : List Span) (path : List Side) (leaf : LiveLeaf) (new : GrowingTree)
    → live_at t path ≡ Some leaf → All P (growing_leaves t zone) → All P (leaves_below new path (zone_at t zone path))
    → All P (growing_leaves (put_at t path new) zone)
leaves_put P t zone path leaf new h all there =
    let place : IsPlace t [] zone path path leaf = place_of t [] zone path path leaf refl h in
    let put : List GrowingLeaf = leaves_below new path (zone_at t zone path) in
    All-from_recursion P (growing_leaves (put_at t path new) zone)
    (subst (AllByRecursion P) (sym (place.put new))
    (recursion-replace P place.before place.after put (leaf_of path (zone_at t zone path) leaf)
    (subst (AllByRecursion P) place.now (recursion_from_All P (growing_leaves t zone) all))
    (recursion_from_All P put there)))

-- sound splits, where a tree with sound splits is put in place of a live leaf
pub splits_put : (t : GrowingTree) (zone : List Span) (path : List Side) (leaf : LiveLeaf) (new : GrowingTree)
    → live_at t path ≡ Some leaf → HasSoundSplits (certificate_tree t) zone → HasSoundSplits (certificate_tree new) (zone_at t zone path)
    → HasSoundSplits (certificate_tree (put_at t path new)) zone
splits_put t zone [] leaf new h sound there = there
splits_put (live proof bound) zone (side ∷ path) leaf new h sound there = absurd (cc)
splits_put (shut proof) zone (side ∷ path) leaf new h sound there = absurd (cc)
splits_put (fork v at low high) zone (Low ∷ path) leaf new h sound there =
    (sound.0, splits_put low (low_part zone v at) path leaf new h sound.1 there, sound.2)
splits_put (fork v at low high) zone (High ∷ path) leaf new h sound there =
    (sound.0, sound.1, splits_put high (high_part zone v at) path leaf new h sound.2 there)

-- the steps of the tree that is put are added
pub steps_put : (t : GrowingTree) (path : List Side) (leaf : LiveLeaf) (new : GrowingTree) → live_at t path ≡ Some leaf
    → steps (certificate_tree (put_at t path new)) ≡ steps (certificate_tree t) + steps (certificate_tree new)
steps_put (live proof bound) [] leaf new h = omega arith
steps_put (live proof bound) (side ∷ path) leaf new h = absurd (cc)
steps_put (shut proof) path leaf new h = absurd (cc)
steps_put (fork v at low high) [] leaf new h = absurd (cc)
steps_put (fork v at low high) (Low ∷ path) leaf new h = omega (arith, steps_put low path leaf new h)
steps_put (fork v at low high) (High ∷ path) leaf new h = omega (arith, steps_put high path leaf new h)

-- its live leaves stand in place of one
pub live_count_put : (t : GrowingTree) (path : List Side) (leaf : LiveLeaf) (new : GrowingTree) → live_at t path ≡ Some leaf
    → live_count (put_at t path new) + 1 ≡ live_count t + live_count new
live_count_put (live proof bound) [] leaf new h = omega arith
live_count_put (live proof bound) (side ∷ path) leaf new h = absurd (cc)
live_count_put (shut proof) path leaf new h = absurd (cc)
live_count_put (fork v at low high) [] leaf new h = absurd (cc)
live_count_put (fork v at low high) (Low ∷ path) leaf new h = omega (arith, live_count_put low path leaf new h)
live_count_put (fork v at low high) (High ∷ path) leaf new h = omega (arith, live_count_put high path leaf new h)
