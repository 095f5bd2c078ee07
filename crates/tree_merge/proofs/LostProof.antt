-- What is live in a merged tree was live in one of the two, and in both where no two splits differ.
use Rattle.std.proofs.Common.{◌≡◌, ◌⊎◌, inl, inr, ⊎_elim, refl, sym, ap, subst, ◌∙◌, ℕ, false, List, [], ◌∷◌, append-nil, Option, Some, arith}
use Rattle.std.proofs.Math.IntN.{ℤ}
use Rattle.std.specs.Prelude.{◌≤ℤ◌, ◌<ℤ◌, int_lt}
use Rattle.std.proofs.lemmas.Int.{ints}
use Rattle.std.proofs.lemmas.Bool.{true≢false}
use Rattle.bp_theory.specs.Trees.{HasSoundSplits, IsProper, IsSubzone, low_part, high_part}
use Rattle.bp_theory.specs.declared.Span.{Span}
use Rattle.bp_theory.specs.declared.Proof.{Proof}
use Rattle.bp_theory.proofs.ClassProof.{split_shrinks_lem}
use Rattle.search_laws.specs.declared.Side.{Side}
use Rattle.search_laws.specs.declared.Side.TheVariants.{Low, High}
use Rattle.search_laws.specs.Grove.{GrowingTree, live, shut, fork, LiveLeaf, live_at, zone_at, certificate_tree}
use Rattle.search_laws.specs.Verdicts.{cheaper_cost}
use Rattle.tree_merge.specs.Merging.{same_split, raised, farther, is_beyond, least_live, merged, is_below, shut_by}
use Rattle.tree_merge.specs.Opens.{AgreeInSplits, LiesUnder}
use Rattle.tree_merge.specs.Laws.{merged_by, NothingIsLost}
use Rattle.tree_merge.proofs.TestFacts.{choose, less_by_test, no_less_by_test, split_same, same_by}

-- ---- zones

within_itself : (zone : List Span) → IsSubzone zone zone
within_itself [] = tt
within_itself (s ∷ ss) = (record { above = omega (arith, ints); below = omega (arith, ints) }, within_itself ss)

within_within : (a b c : List Span) → IsSubzone a b → IsSubzone b c → IsSubzone a c
within_within [] [] c h g = g
within_within [] (s ∷ ss) c h g = absurd h
within_within (s ∷ ss) [] c h g = absurd h
within_within (s ∷ ss) (t ∷ ts) [] h g = absurd g
within_within (s ∷ ss) (t ∷ ts) (u ∷ us) h g =
    (record { above = omega (arith, ints, h.0.above, g.0.above); below = omega (arith, ints, h.0.below, g.0.below) }, within_within ss ts us h.1 g.1)

-- the zone of a node lies in that of the root
zone_inside : (t : GrowingTree) (zone : List Span) (path : List Side) → IsProper zone → HasSoundSplits (certificate_tree t) zone → IsSubzone (zone_at t zone path) zone
zone_inside t zone [] proper sound = within_itself zone
zone_inside (live p z) zone (side ∷ path) proper sound = within_itself zone
zone_inside (shut p) zone (side ∷ path) proper sound = within_itself zone
zone_inside (fork v a low high) zone (Low ∷ path) proper sound =
    let part = split_shrinks_lem.low zone v a sound.0 proper in
    within_within (zone_at low (low_part zone v a) path) (low_part zone v a) zone (zone_inside low (low_part zone v a) path part.0 sound.1) part.1
zone_inside (fork v a low high) zone (High ∷ path) proper sound =
    let part = split_shrinks_lem.high zone v a sound.0 proper in
    within_within (zone_at high (high_part zone v a) path) (high_part zone v a) zone (zone_inside high (high_part zone v a) path part.0 sound.2) part.1

-- ---- live leaves at or above a node

-- the live leaf itself
itself : (spans : List Span) (t : GrowingTree) (path : List Side) (own : LiveLeaf) (bound : ℤ) → live_at t path ≡ Some own → own.bound ≤ℤ bound
    → LiesUnder spans t (zone_at t spans path) path bound
itself spans t path own bound there less = record {
  above = path;
  rest = [];
  leaf = own;
  way = sym (append-nil path);
  live = there;
  inside = within_itself (zone_at t spans path);
  no_less = less;
}

-- a live leaf that gave way to all that stands in its zone
whole : (spans zone : List Span) (proof : Proof) (least bound : ℤ) (path : List Side) → IsSubzone zone spans → least ≤ℤ bound
    → LiesUnder spans (live proof least) zone path bound
whole spans zone proof least bound path inside less = record {
  above = [];
  rest = path;
  leaf = record { proof = proof; bound = least };
  way = refl;
  live = refl;
  inside = inside;
  no_less = less;
}

in_low : (spans zone : List Span) (v : ℕ) (a : ℤ) (low high : GrowingTree) (path : List Side) (bound : ℤ) → LiesUnder (low_part spans v a) low zone path bound
    → LiesUnder spans (fork v a low high) zone (Low ∷ path) bound
in_low spans zone v a low high path bound l = record {
  above = Low ∷ l.above;
  rest = l.rest;
  leaf = l.leaf;
  way = ap (λ (q : List Side). Low ∷ q) l.way;
  live = l.live;
  inside = l.inside;
  no_less = l.no_less;
}

in_high : (spans zone : List Span) (v : ℕ) (a : ℤ) (low high : GrowingTree) (path : List Side) (bound : ℤ) → LiesUnder (high_part spans v a) high zone path bound
    → LiesUnder spans (fork v a low high) zone (High ∷ path) bound
in_high spans zone v a low high path bound l = record {
  above = High ∷ l.above;
  rest = l.rest;
  leaf = l.leaf;
  way = ap (λ (q : List Side). High ∷ q) l.way;
  live = l.live;
  inside = l.inside;
  no_less = l.no_less;
}

-- ---- raising

-- a live leaf of a raised tree was one before, with no greater bound, and its bound is no less than that by which the tree was raised
record WasLive (t : GrowingTree) (zone now : List Span) (path : List Side) (by bound : ℤ) : Type 0 where
  own : LiveLeaf
  there : live_at t path ≡ Some own
  no_less : own.bound ≤ℤ bound
  raised : by ≤ℤ bound
  same_zone : now ≡ zone_at t zone path

raised_leaf : (t : GrowingTree) (proof : Proof) (by : ℤ) (zone : List Span) (path : List Side) (leaf : LiveLeaf) → live_at (raised t proof by) path ≡ Some leaf
    → WasLive t zone (zone_at (raised t proof by) zone path) path by leaf.bound
raised_leaf (live own least) proof by zone [] leaf h =
    choose (λ (m : GrowingTree). live_at m [] ≡ Some leaf → WasLive (live own least) zone zone [] by leaf.bound) (int_lt least by) (live proof by) (live own least)
    (λ less g. changed (less_by_test least by less) g) (λ more g. kept (no_less_by_test least by more) g) h
  where
    -- the bounds of a leaf that is known
    changed : least <ℤ by → Some (record { proof = proof; bound = by }) ≡ Some leaf → WasLive (live own least) zone zone [] by leaf.bound
    changed less g =
        let same : record { proof = proof; bound = by } ≡ leaf = cc in
        let is : by ≡ leaf.bound = ap (λ (l : LiveLeaf). l.bound) same in
        record {
          own = record { proof = own; bound = least };
          there = refl;
          no_less = omega (arith, ints, less, is);
          raised = omega (arith, ints, is);
          same_zone = refl;
        }

    kept : by ≤ℤ least → Some (record { proof = own; bound = least }) ≡ Some leaf → WasLive (live own least) zone zone [] by leaf.bound
    kept more g =
        let same : record { proof = own; bound = least } ≡ leaf = cc in
        let is : least ≡ leaf.bound = ap (λ (l : LiveLeaf). l.bound) same in
        record {
          own = record { proof = own; bound = least };
          there = refl;
          no_less = omega (arith, ints, is);
          raised = omega (arith, ints, more, is);
          same_zone = refl;
        }
raised_leaf (live own least) proof by zone (side ∷ path) leaf h =
    absurd (choose (λ (m : GrowingTree). live_at m (side ∷ path) ≡ Some leaf → ⊥) (int_lt least by) (live proof by) (live own least) (λ less g. absurd (cc)) (λ more g. absurd (cc)) h)
raised_leaf (shut own) proof by zone path leaf h = absurd (cc)
raised_leaf (fork v a low high) proof by zone [] leaf h = absurd (cc)
raised_leaf (fork v a low high) proof by zone (Low ∷ path) leaf h =
    let l = raised_leaf low proof by (low_part zone v a) path leaf h in
    record { own = l.own; there = l.there; no_less = l.no_less; raised = l.raised; same_zone = l.same_zone }
raised_leaf (fork v a low high) proof by zone (High ∷ path) leaf h =
    let l = raised_leaf high proof by (high_part zone v a) path leaf h in
    record { own = l.own; there = l.there; no_less = l.no_less; raised = l.raised; same_zone = l.same_zone }

-- ---- merging

-- a node lies at or below a live leaf of both trees; or they differ in splits, and it lies at or below one of either
abbrev Lies : List Span → GrowingTree → GrowingTree → List Span → List Side → ℤ → Type 0
Lies spans t u zone path bound = (LiesUnder spans t zone path bound × LiesUnder spans u zone path bound)
    ⊎ ((AgreeInSplits t u → ⊥) × (LiesUnder spans t zone path bound ⊎ LiesUnder spans u zone path bound))

-- a tree that was raised by a live leaf of the whole zone
raised_lies : (spans : List Span) (t : GrowingTree) (proof : Proof) (by : ℤ) (path : List Side) (leaf : LiveLeaf) → IsProper spans → HasSoundSplits (certificate_tree t) spans
    → live_at (raised t proof by) path ≡ Some leaf
    → LiesUnder spans t (zone_at (raised t proof by) spans path) path leaf.bound × LiesUnder spans (live proof by) (zone_at (raised t proof by) spans path) path leaf.bound
raised_lies spans t proof by path leaf proper sound h =
    let was : WasLive t spans (zone_at (raised t proof by) spans path) path by leaf.bound = raised_leaf t proof by spans path leaf h in (
      subst (λ (z : List Span). LiesUnder spans t z path leaf.bound) (sym was.same_zone) (itself spans t path was.own leaf.bound was.there was.no_less),
      subst (λ (z : List Span). LiesUnder spans (live proof by) z path leaf.bound) (sym was.same_zone)
          (whole spans (zone_at t spans path) proof by leaf.bound path (zone_inside t spans path proper sound) was.raised),
    )

lies_low : (spans zone : List Span) (v : ℕ) (a : ℤ) (low high left right : GrowingTree) (path : List Side) (bound : ℤ) → Lies (low_part spans v a) low left zone path bound
    → Lies spans (fork v a low high) (fork v a left right) zone (Low ∷ path) bound
lies_low spans zone v a low high left right path bound (inl both) =
    inl (in_low spans zone v a low high path bound both.0, in_low spans zone v a left right path bound both.1)
lies_low spans zone v a low high left right path bound (inr one) =
    inr (
      λ agree. one.0 agree.2,
      ⊎_elim (λ l. inl (in_low spans zone v a low high path bound l)) (λ l. inr (in_low spans zone v a left right path bound l)) one.1,
    )

lies_high : (spans zone : List Span) (v : ℕ) (a : ℤ) (low high left right : GrowingTree) (path : List Side) (bound : ℤ) → Lies (high_part spans v a) high right zone path bound
    → Lies spans (fork v a low high) (fork v a left right) zone (High ∷ path) bound
lies_high spans zone v a low high left right path bound (inl both) =
    inl (in_high spans zone v a low high path bound both.0, in_high spans zone v a left right path bound both.1)
lies_high spans zone v a low high left right path bound (inr one) =
    inr (
      λ agree. one.0 agree.3,
      ⊎_elim (λ l. inl (in_high spans zone v a low high path bound l)) (λ l. inr (in_high spans zone v a left right path bound l)) one.1,
    )

-- of different splits one part stays whole
farther_lies : (spans : List Span) (v w : ℕ) (a c : ℤ) (low high left right : GrowingTree) (path : List Side) (leaf : LiveLeaf) → same_split v a w c ≡ false
    → live_at (farther (fork v a low high) (fork w c left right)) path ≡ Some leaf
    → Lies spans (fork v a low high) (fork w c left right) (zone_at (farther (fork v a low high) (fork w c left right)) spans path) path leaf.bound
farther_lies spans v w a c low high left right path leaf differ h =
    choose (λ (m : GrowingTree). live_at m path ≡ Some leaf → Lies spans t u (zone_at m spans path) path leaf.bound) (is_beyond (least_live u) (least_live t)) u t
    (λ beyond g. inr (apart, inr (itself spans u path leaf leaf.bound g (omega (arith, ints)))))
    (λ not g. inr (apart, inl (itself spans t path leaf leaf.bound g (omega (arith, ints)))))
    h
  where
    t : GrowingTree
    t = fork v a low high

    u : GrowingTree
    u = fork w c left right

    apart : AgreeInSplits (fork v a low high) (fork w c left right) → ⊥
    apart agree = true≢false (sym (same_by v w a c agree.0 agree.1) ∙ differ)

merged_lies : (spans : List Span) (t u : GrowingTree) (path : List Side) (leaf : LiveLeaf) → IsProper spans → HasSoundSplits (certificate_tree t) spans
    → HasSoundSplits (certificate_tree u) spans → live_at (merged t u) path ≡ Some leaf → Lies spans t u (zone_at (merged t u) spans path) path leaf.bound
merged_lies spans (shut p) u path leaf proper first second h = absurd (cc)
merged_lies spans (live p z) (shut q) path leaf proper first second h = absurd (cc)
merged_lies spans (live p z) (live q w) path leaf proper first second h = inl (raised_lies spans (live p z) q w path leaf proper tt h)
merged_lies spans (live p z) (fork w c left right) path leaf proper first second h =
    let both = raised_lies spans (fork w c left right) p z path leaf proper second h in
    inl (both.1, both.0)
merged_lies spans (fork v a low high) (shut q) path leaf proper first second h = absurd (cc)
merged_lies spans (fork v a low high) (live q w) path leaf proper first second h = inl (raised_lies spans (fork v a low high) q w path leaf proper first h)
merged_lies spans (fork v a low high) (fork w c left right) path leaf proper first second h =
    choose (λ (m : GrowingTree). live_at m path ≡ Some leaf → Lies spans (fork v a low high) (fork w c left right) (zone_at m spans path) path leaf.bound)
    (same_split v a w c) (fork v a (merged low left) (merged high right)) (farther (fork v a low high) (fork w c left right))
    (λ same g.
    let split = split_same v w a c same in
    let sound : HasSoundSplits (certificate_tree (fork v a left right)) spans =
    subst (λ (n : ℕ). HasSoundSplits (certificate_tree (fork n a left right)) spans) (sym split.0)
    (subst (λ (n : ℤ). HasSoundSplits (certificate_tree (fork w n left right)) spans) (sym split.1) second) in
    let z : List Span = zone_at (fork v a (merged low left) (merged high right)) spans path in
    subst (λ (n : ℕ). Lies spans (fork v a low high) (fork n c left right) z path leaf.bound) split.0
    (subst (λ (n : ℤ). Lies spans (fork v a low high) (fork v n left right) z path leaf.bound) split.1
    (parts path g
    (λ q k. merged_lies (low_part spans v a) low left q leaf (split_shrinks_lem.low spans v a first.0 proper).0 first.1 sound.1 k)
    (λ q k. merged_lies (high_part spans v a) high right q leaf (split_shrinks_lem.high spans v a first.0 proper).0 first.2 sound.2 k))))
    (λ differ g. farther_lies spans v w a c low high left right path leaf differ g)
    h
  where
    parts : (path : List Side) → live_at (fork v a (merged low left) (merged high right)) path ≡ Some leaf
        → ((q : List Side) → live_at (merged low left) q ≡ Some leaf → Lies (low_part spans v a) low left (zone_at (merged low left) (low_part spans v a) q) q leaf.bound)
        → ((q : List Side) → live_at (merged high right) q ≡ Some leaf → Lies (high_part spans v a) high right (zone_at (merged high right) (high_part spans v a) q) q leaf.bound)
        → Lies spans (fork v a low high) (fork v a left right) (zone_at (fork v a (merged low left) (merged high right)) spans path) path leaf.bound
    parts [] g below above = absurd (cc)
    parts (Low ∷ q) g below above =
        lies_low spans (zone_at (merged low left) (low_part spans v a) q) v a low high left right q leaf.bound (below q g)
    parts (High ∷ q) g below above =
        lies_high spans (zone_at (merged high right) (high_part spans v a) q) v a low high left right q leaf.bound (above q g)

-- ---- what the best cost leaves

shut_live : (t : GrowingTree) (cost : Option ℤ) (zone : List Span) (path : List Side) (leaf : LiveLeaf) → live_at (shut_by cost t) path ≡ Some leaf
    → (live_at t path ≡ Some leaf) × (zone_at (shut_by cost t) zone path ≡ zone_at t zone path)
shut_live (live p z) cost zone [] leaf h =
    choose (λ (m : GrowingTree). live_at m [] ≡ Some leaf → (live_at (live p z) [] ≡ Some leaf) × (zone ≡ zone)) (is_below z cost) (live p z) (shut p)
    (λ below g. (g, refl)) (λ not g. absurd (cc)) h
shut_live (live p z) cost zone (side ∷ path) leaf h =
    absurd (choose (λ (m : GrowingTree). live_at m (side ∷ path) ≡ Some leaf → ⊥) (is_below z cost) (live p z) (shut p) (λ below g. absurd (cc)) (λ not g. absurd (cc)) h)
shut_live (shut p) cost zone path leaf h = absurd (cc)
shut_live (fork v a low high) cost zone [] leaf h = absurd (cc)
shut_live (fork v a low high) cost zone (Low ∷ path) leaf h = shut_live low cost (low_part zone v a) path leaf h
shut_live (fork v a low high) cost zone (High ∷ path) leaf h = shut_live high cost (high_part zone v a) path leaf h

lies : (spans : List Span) (t u : GrowingTree) (cost other : Option ℤ) (path : List Side) (leaf : LiveLeaf) → IsProper spans → HasSoundSplits (certificate_tree t) spans
    → HasSoundSplits (certificate_tree u) spans → live_at (merged_by cost other t u) path ≡ Some leaf
    → Lies spans t u (zone_at (merged_by cost other t u) spans path) path leaf.bound
lies spans t u cost other path leaf proper first second h =
    let was = shut_live (merged t u) (cheaper_cost cost other) spans path leaf h in
    subst (λ (z : List Span). Lies spans t u z path leaf.bound) (sym was.1) (merged_lies spans t u path leaf proper first second was.0)

pub nothing_is_lost_lem : NothingIsLost
nothing_is_lost_lem = record {
  either = λ spans t u cost other path leaf proper first second h.
      ⊎_elim (λ both. inl both.0) (λ one. one.1) (lies spans t u cost other path leaf proper first second h);
  first = λ spans t u cost other proper first second agree path leaf h.
      ⊎_elim (λ both. both.0) (λ one. absurd (one.0 agree)) (lies spans t u cost other path leaf proper first second h);
  second = λ spans t u cost other proper first second agree path leaf h.
      ⊎_elim (λ both. both.1) (λ one. absurd (one.0 agree)) (lies spans t u cost other path leaf proper first second h);
}
