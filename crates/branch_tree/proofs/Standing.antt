-- What a grove keeps, when it is planted, and when a leaf is shut or forked.
use Rattle.std.proofs.Common.{◌≡◌, ℕ, ◌+◌, ◌-◌, ◌<◌, ◌≤◌, ◌^◌, max, Bool, true, false, List, [], ◌∷◌, ◌++◌, length, Option, Some, None, ℤ, sym, subst, ap, ◌∙◌, refl, arith, if◌then◌else◌}
use Rattle.std.specs.Prelude.{unsigned_abs}
use Rattle.std.specs.Ordering.{is_eq}
use Rattle.bp_theory.specs.declared.Limits.TheVariants.{Large}
use Rattle.bp_theory.specs.Limits.{greatest_depth}
use Rattle.bp_theory.specs.Bound.{IsBound, plain_proof}
use Rattle.bp_theory.specs.Trees.{HasSoundSplits, IsProper, IsZone, IsSoundSplit, steps, depth, low_part, high_part}
use Rattle.bp_theory.specs.declared.Span.{Span}
use Rattle.bp_theory.specs.declared.Proof.{Proof}
use Rattle.block_program.specs.Blocked.{BlockedProgram}
use Rattle.block_program.proofs.BlockLemmas.{root_zone, part_zones}
use Rattle.search_laws.specs.Grove.{GrowingTree, LiveLeaf, live, shut, fork, live_at, zone_at, shut_at, fork_at, live_count, live_bounds, certificate_tree, planted}
use Rattle.search_laws.specs.GroveFacts.{IsGrove, IsKept, IsSoundProof, KeepsBound, IsLeastOf}
use Rattle.search_laws.specs.Queue.{Queue, IsQueue, IsWith, IsWithout, IsFirstEntry, IsEmptyQueue, SameKey}
use Rattle.search_laws.specs.declared.Side.{Side}
use Rattle.search_laws.specs.declared.Side.TheVariants.{Low, High}
use Rattle.search_laws.proofs.Places.{leaf_at_path, splits_put}
use Rattle.search_laws.proofs.GroveProof.{plant_keeps_lem, shut_keeps_lem, fork_keeps_lem, counts_change_by_one_lem}
use Rattle.search_laws.proofs.QueueProof.{queue_keeps_lem}
use Rattle.open_nodes.specs.Queues.{Entries, queue_of, key_cmp, IsDivided, IsParted}
use Rattle.branch_tree.specs.Groves.{GroveState, IsStanding, AreCounts, IsGroveOf, IsLiveTurn, IsNextTurn, IsShutQueue, IsForkedQueue, made}
use Rattle.branch_tree.specs.Turns.{IsTurn}
use Rattle.open_nodes.specs.declared.turn.Turn.{Turn}
use Rattle.open_nodes.proofs.Keys.{at_itself, at_other, same_key_of, apart_of}

-- the depth of a tree is that of its nodes: where a live leaf is shut it stays, where it is forked the parts are one deeper
depth_shut : (t : GrowingTree) (path : List Side) (leaf : LiveLeaf) (proof : Proof) → live_at t path ≡ Some leaf
    → depth (certificate_tree (shut_at t path proof)) ≡ depth (certificate_tree t)
depth_shut (live p z) [] leaf proof h = refl
depth_shut (live p z) (side ∷ path) leaf proof h = absurd (cc)
depth_shut (shut p) path leaf proof h = absurd (cc)
depth_shut (fork v at low high) [] leaf proof h = absurd (cc)
depth_shut (fork v at low high) (Low ∷ path) leaf proof h = omega (arith, depth_shut low path leaf proof h)
depth_shut (fork v at low high) (High ∷ path) leaf proof h = omega (arith, depth_shut high path leaf proof h)

pub depth_fork : (t : GrowingTree) (path : List Side) (leaf : LiveLeaf) (v : ℕ) (at : ℤ) (proof : Proof) (bound : ℤ) → live_at t path ≡ Some leaf
    → depth (certificate_tree (fork_at t path v at proof bound)) ≡ max (depth (certificate_tree t)) (length path + 1)
depth_fork (live p z) [] leaf v at proof bound h = omega arith
depth_fork (live p z) (side ∷ path) leaf v at proof bound h = absurd (cc)
depth_fork (shut p) path leaf v at proof bound h = absurd (cc)
depth_fork (fork w a low high) [] leaf v at proof bound h = absurd (cc)
depth_fork (fork w a low high) (Low ∷ path) leaf v at proof bound h = omega (arith, depth_fork low path leaf v at proof bound h)
depth_fork (fork w a low high) (High ∷ path) leaf v at proof bound h = omega (arith, depth_fork high path leaf v at proof bound h)

-- a live leaf's path is no longer than the tree is deep
pub path_within_depth : (t : GrowingTree) (path : List Side) (leaf : LiveLeaf) → live_at t path ≡ Some leaf → length path ≤ depth (certificate_tree t)
path_within_depth (live p z) [] leaf h = omega arith
path_within_depth (live p z) (side ∷ path) leaf h = absurd (cc)
path_within_depth (shut p) path leaf h = absurd (cc)
path_within_depth (fork v at low high) [] leaf h = absurd (cc)
path_within_depth (fork v at low high) (Low ∷ path) leaf h = omega (arith, path_within_depth low path leaf h)
path_within_depth (fork v at low high) (High ∷ path) leaf h = omega (arith, path_within_depth high path leaf h)

-- the zone at a live leaf's path is a zone of the root's spans
within_root : (spans zone : List Span) (t : GrowingTree) (path : List Side) (leaf : LiveLeaf) → live_at t path ≡ Some leaf
    → HasSoundSplits (certificate_tree t) zone → IsZone spans zone → IsZone spans (zone_at t zone path)
within_root spans zone t [] leaf h sound fits = fits
within_root spans zone (live p z) (side ∷ path) leaf h sound fits = absurd (cc)
within_root spans zone (shut p) (side ∷ path) leaf h sound fits = absurd (cc)
within_root spans zone (fork v at low high) (Low ∷ path) leaf h sound fits =
    within_root spans (low_part zone v at) low path leaf h sound.1
    (part_zones spans zone (low_part zone v at) (high_part zone v at) v at sound.0 refl refl fits).0
within_root spans zone (fork v at low high) (High ∷ path) leaf h sound fits =
    within_root spans (high_part zone v at) high path leaf h sound.2
    (part_zones spans zone (low_part zone v at) (high_part zone v at) v at sound.0 refl refl fits).1

pub zone_is_zone : (root : List Span) (t : GrowingTree) (path : List Side) (leaf : LiveLeaf) → live_at t path ≡ Some leaf
    → HasSoundSplits (certificate_tree t) root → IsProper root → IsZone root (zone_at t root path)
zone_is_zone root t path leaf h sound proper = within_root root root t path leaf h sound (root_zone root root proper refl)

-- a live leaf is counted
pub one_is_live : (t : GrowingTree) (path : List Side) (leaf : LiveLeaf) → live_at t path ≡ Some leaf → 0 < live_count t
one_is_live t path leaf h = omega (arith, counts_change_by_one_lem.shut_live t path leaf plain_proof h)

-- no live leaf, no entry, and the other way round
pub none_live : (t : GrowingTree) (entry : Queue) (number : ℕ) → IsQueue t entry number → IsEmptyQueue entry → live_count t ≡ 0
none_live t entry number queue empty = by t (λ path leaf h. let e = queue.each path leaf h in not_there (empty leaf.bound e.0) e.1)
  where
    not_there : {o : Option (List Side)} {path : List Side} → o ≡ None → o ≡ Some path → ⊥
    not_there a b = absurd (cc)

    by : (t : GrowingTree) → ((path : List Side) (leaf : LiveLeaf) → live_at t path ≡ Some leaf → ⊥) → live_count t ≡ 0
    by (live p z) none = absurd (none [] (record { proof = p; bound = z }) refl)
    by (shut p) none = refl
    by (fork v at low high) none =
        omega (arith, by low (λ path leaf h. none (Low ∷ path) leaf h), by high (λ path leaf h. none (High ∷ path) leaf h))

-- a number that is still to be given has no entry
pub fresh : (t : GrowingTree) (entry : Queue) (number : ℕ) → IsQueue t entry number → (z : ℤ) (n : ℕ) → number ≤ n → entry z n ≡ None
fresh t entry number queue z n late = by (entry z n) refl
  where
    by : (o : Option (List Side)) → entry z n ≡ o → o ≡ None
    by None e = refl
    by (Some path) e = absurd (let low : n < number = queue.numbered z n path e in omega (arith, low, late))

-- the key of a live leaf's entry
pub entry_of : (t : GrowingTree) (entry : Queue) (number : ℕ) (path : List Side) (proof : Proof) (bound : ℤ) → IsQueue t entry number
    → live_at t path ≡ Some (record { proof = proof; bound = bound }) → (n : ℕ) × (entry bound n ≡ Some path)
entry_of t entry number path proof bound queue h = queue.each path (record { proof = proof; bound = bound }) h

-- a key under which a live leaf's path stands has the leaf's bound
pub key_bound : (t : GrowingTree) (entry : Queue) (number : ℕ) (path : List Side) (proof : Proof) (bound z : ℤ) (n : ℕ) → IsQueue t entry number
    → live_at t path ≡ Some (record { proof = proof; bound = bound }) → entry z n ≡ Some path → z ≡ bound
key_bound t entry number path proof bound z n queue h e = by (queue.live z n path e)
  where
    by : ((leaf : LiveLeaf) × (live_at t path ≡ Some leaf) × (leaf.bound ≡ z)) → z ≡ bound
    by k = let same : Some (record { proof = proof; bound = bound }) ≡ Some k.0 = sym h ∙ k.1 in
        let leaf_same : record { proof = proof; bound = bound } ≡ k.0 = cc in
        sym k.2 ∙ sym (ap (λ (l : LiveLeaf). l.bound) leaf_same)

-- a shut leaf
pub standing_shut : (t : GrowingTree) (root : List Span) (before after : Entries) (path : List Side) (leaf : LiveLeaf) (proof : Proof) (n : ℕ)
    → IsStanding (record { tree = t; root = root; queue = before }) → live_at t path ≡ Some leaf → queue_of before leaf.bound n ≡ Some path
    → IsWithout (queue_of before) leaf.bound n (queue_of after)
    → IsStanding (record { tree = shut_at t path proof; root = root; queue = after })
standing_shut t root before after path leaf proof n s h there without =
    let new : GrowingTree = shut_at t path proof in
    let lives = counts_change_by_one_lem.shut_live t path leaf proof h in
    let one = counts_change_by_one_lem.shut_steps t path leaf proof h in
    let same : made t ≡ made new = omega (arith, lives, one) in
    record {
      proper = s.proper;
      splits = splits_put t root path leaf (shut proof) h s.splits tt;
      queued = subst (IsQueue new (queue_of after)) same
          (queue_keeps_lem.shut t (queue_of before) (queue_of after) (made t) n path leaf proof s.queued h there without);
      deep = omega (arith, s.deep, depth_shut t path leaf proof h);
      few = omega (arith, s.few, same);
      fewer = omega (arith, s.fewer, lives, one);
    }

pub counts_shut : (t : GrowingTree) (path : List Side) (leaf : LiveLeaf) (proof : Proof) (lives count deepest less more : ℕ)
    → AreCounts t lives count deepest → live_at t path ≡ Some leaf → less ≡ lives - 1 → more ≡ count + 1
    → AreCounts (shut_at t path proof) less more deepest
counts_shut t path leaf proof lives count deepest less more c h is_less is_more = record {
  lives_is = omega (arith, c.lives_is, is_less, counts_change_by_one_lem.shut_live t path leaf proof h);
  count_is = omega (arith, c.count_is, is_more, counts_change_by_one_lem.shut_steps t path leaf proof h);
  deepest_is = c.deepest_is ∙ sym (depth_shut t path leaf proof h);
}

-- what stands under each key of a divided queue but the last
last_queue : (before after : Queue) (z : ℤ) (n : ℕ) (next : ℤ) (number : ℕ) (first second : List Side)
    → IsDivided before z n next number first second after → (w : ℤ) (m : ℕ) → (SameKey w m next (number + 1) → ⊥)
    → after w m
    ≡ (if is_eq (key_cmp (next, number) (w, m)) then Some first else (if is_eq (key_cmp (z, n) (w, m)) then None else before w m))
last_queue before after z n next number first second d w m apart =
    by (is_eq (key_cmp (next, number) (w, m))) (is_eq (key_cmp (z, n) (w, m))) refl refl
  where
    by : (s t : Bool) → is_eq (key_cmp (next, number) (w, m)) ≡ s → is_eq (key_cmp (z, n) (w, m)) ≡ t
        → after w m ≡ (if s then Some first else (if t then None else before w m))
    by true t e f =
        let k = same_key_of next number w m e in
        ap (λ x. after x m) k.0 ∙ ap (λ y. after next y) k.1 ∙ d.low
    by false true e f =
        let k = same_key_of z n w m f in
        ap (λ x. after x m) k.0 ∙ ap (λ y. after z y) k.1 ∙ d.gone
    by false false e f = d.others w m (apart_of z n w m f) (apart_of next number w m e) apart

-- the queue of a forked leaf
forked_queue : (t : GrowingTree) (before after : Queue) (number n : ℕ) (path : List Side) (leaf : LiveLeaf) (v : ℕ) (at : ℤ) (proof : Proof) (bound : ℤ)
    → IsQueue t before number → live_at t path ≡ Some leaf → before leaf.bound n ≡ Some path
    → IsDivided before leaf.bound n bound number (path ++ Low ∷ []) (path ++ High ∷ []) after
    → IsQueue (fork_at t path v at proof bound) after (number + 2)
forked_queue t before after number n path leaf v at proof bound queue h there d =
    queue_keeps_lem.forked t before without low after number n path leaf v at proof bound queue h there
    (record { gone = without_here (is_eq (key_cmp (leaf.bound, n) (leaf.bound, n))) (at_itself leaf.bound n); others = λ w m apart. without_other w m (at_other leaf.bound n w m apart) })
    (record { added = low_here (at_itself bound number); others = λ w m apart. low_other w m (at_other bound number w m apart) })
    (record { added = d.high; others = λ w m apart. last w m apart })
  where
    early : n < number
    early = queue.numbered leaf.bound n path there

    without : Queue
    without w m = if is_eq (key_cmp (leaf.bound, n) (w, m)) then None else before w m

    low : Queue
    low w m = if is_eq (key_cmp (bound, number) (w, m)) then Some (path ++ Low ∷ []) else without w m

    without_here : (b : Bool) → b ≡ true → (if b then None else before leaf.bound n) ≡ None
    without_here true e = refl
    without_here false e = absurd (cc)

    without_other : (w : ℤ) (m : ℕ) → is_eq (key_cmp (leaf.bound, n) (w, m)) ≡ false → without w m ≡ before w m
    without_other w m e = ap (λ (b : Bool). if b then None else before w m) e

    low_here : is_eq (key_cmp (bound, number) (bound, number)) ≡ true → low bound number ≡ Some (path ++ Low ∷ [])
    low_here e = ap (λ (b : Bool). if b then Some (path ++ Low ∷ []) else without bound number) e

    low_other : (w : ℤ) (m : ℕ) → is_eq (key_cmp (bound, number) (w, m)) ≡ false → low w m ≡ without w m
    low_other w m e = ap (λ (b : Bool). if b then Some (path ++ Low ∷ []) else without w m) e

    last : (w : ℤ) (m : ℕ) → (SameKey w m bound (number + 1) → ⊥) → after w m ≡ low w m
    last w m apart = last_queue before after leaf.bound n bound number (path ++ Low ∷ []) (path ++ High ∷ []) d w m apart

-- a forked leaf
pub standing_fork : (t : GrowingTree) (root : List Span) (before after : Entries) (path : List Side) (leaf : LiveLeaf) (v : ℕ) (at : ℤ) (proof : Proof) (bound : ℤ) (n : ℕ)
    → IsStanding (record { tree = t; root = root; queue = before }) → live_at t path ≡ Some leaf → queue_of before leaf.bound n ≡ Some path
    → IsDivided (queue_of before) leaf.bound n bound (made t) (path ++ Low ∷ []) (path ++ High ∷ []) (queue_of after)
    → IsSoundSplit (zone_at t root path) v at → length path < greatest_depth Large → steps (certificate_tree t) < 2 ^ 63 - 1
    → IsStanding (record { tree = fork_at t path v at proof bound; root = root; queue = after })
standing_fork t root before after path leaf v at proof bound n s h there d split short few =
    let new : GrowingTree = fork_at t path v at proof bound in
    let lives = counts_change_by_one_lem.fork_live t path leaf v at proof bound h in
    let one = counts_change_by_one_lem.fork_steps t path leaf v at proof bound h in
    let same : made t + 2 ≡ made new = omega (arith, lives, one) in
    record {
      proper = s.proper;
      splits = splits_put t root path leaf (fork v at (live proof bound) (live proof bound)) h s.splits (split, tt, tt);
      queued = subst (IsQueue new (queue_of after)) same
          (forked_queue t (queue_of before) (queue_of after) (made t) n path leaf v at proof bound s.queued h there d);
      deep = omega (arith, s.deep, short, depth_fork t path leaf v at proof bound h);
      few = omega (arith, s.fewer, few, lives, one);
      fewer = omega (arith, s.fewer, lives, one);
    }

pub counts_fork : (t : GrowingTree) (path : List Side) (leaf : LiveLeaf) (v : ℕ) (at : ℤ) (proof : Proof) (bound : ℤ) (lives count deepest more further deeper : ℕ)
    → AreCounts t lives count deepest → live_at t path ≡ Some leaf → more ≡ lives + 1 → further ≡ count + 1 → deeper ≡ max deepest (length path + 1)
    → AreCounts (fork_at t path v at proof bound) more further deeper
counts_fork t path leaf v at proof bound lives count deepest more further deeper c h is_more is_further is_deeper = record {
  lives_is = omega (arith, c.lives_is, is_more, counts_change_by_one_lem.fork_live t path leaf v at proof bound h);
  count_is = omega (arith, c.count_is, is_further, counts_change_by_one_lem.fork_steps t path leaf v at proof bound h);
  deepest_is = omega (arith, c.deepest_is, is_deeper, depth_fork t path leaf v at proof bound h);
}

-- a planted grove
pub standing_planted : (root : List Span) (v : ℤ) (empty after : Entries) → IsProper root → IsEmptyQueue (queue_of empty)
    → IsWith (queue_of empty) v 0 [] (queue_of after) → IsStanding (record { tree = planted v; root = root; queue = after })
standing_planted root v empty after proper none one = record {
  proper = proper;
  splits = tt;
  queued = queue_keeps_lem.planted v (queue_of empty) (queue_of after) none one;
  deep = omega arith;
  few = omega arith;
  fewer = omega arith;
}

pub queue_planted : (v : ℤ) (empty after : Queue) → IsEmptyQueue empty → IsWith empty v 0 [] after → IsWith (λ _ _. None) v 0 [] after
queue_planted v empty after none one = record { added = one.added; others = λ w m apart. one.others w m apart ∙ none w m }

-- what a leaf keeps, a turn of it keeps
pub kept_turn : (b : BlockedProgram) (g : GroveState) (turn : Turn) → IsGroveOf b g → IsStanding g → IsLiveTurn g turn → IsTurn b turn
kept_turn b g turn kept s alive = record {
  in_spans = subst (IsZone b.named.program.spans) (sym alive.in_zone)
      (subst (λ spans. IsZone spans (zone_at g.tree g.root turn.path)) kept.root (zone_is_zone g.root g.tree turn.path leaf alive.live s.splits s.proper));
  sound = fact.sound;
  keeps = subst (λ zone. KeepsBound b.blocking zone turn.proof turn.bound) (sym alive.in_zone) fact.bound;
  length = alive.far;
  shallow = omega (arith, alive.far, path_within_depth g.tree turn.path leaf alive.live, s.deep);
}
  where
    leaf : LiveLeaf
    leaf = record { proof = turn.proof; bound = turn.bound }

    fact : IsKept b.blocking (record { path = turn.path; zone = zone_at g.tree g.root turn.path; proof = turn.proof; bound = Some turn.bound })
    fact = leaf_at_path (IsKept b.blocking) g.tree g.root turn.path leaf alive.live kept.kept.leaves

-- ---- the calls

-- what a turn's leaf keeps
abbrev pub leaf_of_turn : Turn → LiveLeaf
leaf_of_turn turn = record { proof = turn.proof; bound = turn.bound }

-- a turn in the tree of a grove's fields
turn_in : (t : GrowingTree) (root : List Span) (q : Entries) (g : GroveState) (turn : Turn) → record { tree = t; root = root; queue = q } ≡ g → IsLiveTurn g turn
    → IsLiveTurn (record { tree = t; root = root; queue = q }) turn
turn_in t root q g turn is alive = subst (λ h. IsLiveTurn h turn) (sym is) alive

-- a leaf is shut: what stands then
pub shut_whole : (t : GrowingTree) (root : List Span) (q : Entries) (lives count deepest : ℕ) (g : GroveState) (turn : Turn) (proof : Proof) (path : List Side)
    (z : ℤ) (n : ℕ) (after : Entries) (new : GrowingTree)
    → record { tree = t; root = root; queue = q } ≡ g → IsStanding (record { tree = t; root = root; queue = q }) × AreCounts t lives count deepest
    → IsLiveTurn g turn → path ≡ turn.path → queue_of q z n ≡ Some path → IsWithout (queue_of q) z n (queue_of after) → new ≡ shut_at t path proof
    → IsStanding (record { tree = new; root = root; queue = after }) × AreCounts new (lives - 1) (count + 1) deepest
shut_whole t root q lives count deepest g turn proof path z n after new is s alive same found without becomes =
    let h : live_at t path ≡ Some (leaf_of_turn turn) = ap (live_at t) same ∙ (turn_in t root q g turn is alive).live in
    let key : z ≡ turn.bound = key_bound t (queue_of q) (made t) path turn.proof turn.bound z n s.0.queued h found in
    subst (λ (u : GrowingTree). IsStanding (record { tree = u; root = root; queue = after }) × AreCounts u (lives - 1) (count + 1) deepest) (sym becomes) (
      standing_shut t root q after path (leaf_of_turn turn) proof n s.0 h (subst (λ y. queue_of q y n ≡ Some path) key found)
          (subst (λ y. IsWithout (queue_of q) y n (queue_of after)) key without),
      counts_shut t path (leaf_of_turn turn) proof lives count deepest (lives - 1) (count + 1) s.1 h refl refl,
    )

-- there is a live leaf to count down
pub shut_counts : (t : GrowingTree) (root : List Span) (q : Entries) (lives count deepest : ℕ) (g : GroveState) (turn : Turn)
    → record { tree = t; root = root; queue = q } ≡ g → IsStanding (record { tree = t; root = root; queue = q }) × AreCounts t lives count deepest
    → IsLiveTurn g turn → (1 ≤ lives) × (count + 1 < 2 ^ 64)
shut_counts t root q lives count deepest g turn is s alive =
    let one = one_is_live t turn.path (leaf_of_turn turn) (turn_in t root q g turn is alive).live in
    (omega (arith, one, s.1.lives_is), omega (arith, one, s.0.few, s.1.count_is))

pub shut_kept : (b : BlockedProgram) (t : GrowingTree) (root : List Span) (q : Entries) (g : GroveState) (turn : Turn) (proof : Proof) (path : List Side)
    (after : Entries) (new : GrowingTree)
    → record { tree = t; root = root; queue = q } ≡ g → IsGroveOf b g → IsLiveTurn g turn → IsSoundProof b.blocking proof → path ≡ turn.path → new ≡ shut_at t path proof
    → IsGroveOf b (record { tree = new; root = root; queue = after })
shut_kept b t root q g turn proof path after new is kept alive sound same becomes =
    let before : IsGroveOf b (record { tree = t; root = root; queue = q }) = subst (IsGroveOf b) (sym is) kept in
    let h : live_at t path ≡ Some (leaf_of_turn turn) = ap (live_at t) same ∙ (turn_in t root q g turn is alive).live in
    record {
      root = before.root;
      kept = subst (IsGrove b.blocking root) (sym becomes) (shut_keeps_lem b.blocking root t path (leaf_of_turn turn) proof before.kept h sound);
    }

pub shut_from_queue : (t : GrowingTree) (root : List Span) (q : Entries) (g : GroveState) (turn : Turn) (path : List Side)
    (z : ℤ) (n : ℕ) (after : Entries)
    → record { tree = t; root = root; queue = q } ≡ g → IsStanding (record { tree = t; root = root; queue = q })
    → IsLiveTurn g turn → path ≡ turn.path → queue_of q z n ≡ Some path → IsWithout (queue_of q) z n (queue_of after)
    → IsShutQueue (queue_of g.queue) turn (queue_of after)
shut_from_queue t root q g turn path z n after is s alive same found without =
    let h : live_at t path ≡ Some (leaf_of_turn turn) = ap (live_at t) same ∙ (turn_in t root q g turn is alive).live in
    let key : z ≡ turn.bound = key_bound t (queue_of q) (made t) path turn.proof turn.bound z n s.queued h found in
    subst (λ (h : GroveState). IsShutQueue (queue_of h.queue) turn (queue_of after)) is
    (record {
      number = n;
      there = subst (λ y. queue_of q y n ≡ Some path) key found ∙ ap Some same;
      without = subst (λ y. IsWithout (queue_of q) y n (queue_of after)) key without;
    })

-- a divided queue by equal names
divided_as : (before : Queue) (z y : ℤ) (n : ℕ) (next : ℤ) (number made : ℕ) (low high : List Side) (after : Queue)
    → z ≡ y → number ≡ made → IsDivided before z n next number low high after → IsDivided before y n next made low high after
divided_as before z y n next number made low high after z_is number_is d =
    subst (λ y. IsDivided before y n next made low high after) z_is (subst (λ m. IsDivided before z n next m low high after) number_is d)

-- there is a leaf to be forked, and room for its parts in the queue
pub fork_there : (t : GrowingTree) (root : List Span) (q : Entries) (lives count deepest : ℕ) (g : GroveState) (turn : Turn)
    → record { tree = t; root = root; queue = q } ≡ g → IsStanding (record { tree = t; root = root; queue = q }) × AreCounts t lives count deepest
    → IsLiveTurn g turn → (n : ℕ) × (queue_of q turn.bound n ≡ Some turn.path)
fork_there t root q lives count deepest g turn is s alive =
    entry_of t (queue_of q) (made t) turn.path turn.proof turn.bound s.0.queued (turn_in t root q g turn is alive).live

pub fork_free : (t : GrowingTree) (root : List Span) (q : Entries) (lives count deepest : ℕ) (bound : ℤ) (number : ℕ)
    → IsStanding (record { tree = t; root = root; queue = q }) × AreCounts t lives count deepest → lives + count ≤ number → queue_of q bound number ≡ None
fork_free t root q lives count deepest bound number s behind =
    fresh t (queue_of q) (made t) s.0.queued bound number (omega (arith, behind, s.1.lives_is, s.1.count_is))

pub fork_fits : (t : GrowingTree) (root : List Span) (q : Entries) (lives count deepest : ℕ) (g : GroveState) → record { tree = t; root = root; queue = q } ≡ g
    → IsStanding (record { tree = t; root = root; queue = q }) × AreCounts t lives count deepest → steps (certificate_tree g.tree) < 2 ^ 63 - 1
    → lives + count + 1 < 2 ^ 64
fork_fits t root q lives count deepest g is s few =
    let least : steps (certificate_tree t) < 2 ^ 63 - 1 = subst (λ (h : GroveState). steps (certificate_tree h.tree) < 2 ^ 63 - 1) (sym is) few in
    omega (arith, least, s.0.fewer, s.1.lives_is, s.1.count_is)

-- a leaf is forked: what stands then
pub fork_whole : (t : GrowingTree) (root : List Span) (q : Entries) (lives count deepest deeper : ℕ) (g : GroveState) (turn : Turn) (v : ℕ) (at : ℤ) (proof : Proof) (bound : ℤ)
    (number : ℕ) (after : Entries) (new : GrowingTree)
    → record { tree = t; root = root; queue = q } ≡ g → IsStanding (record { tree = t; root = root; queue = q }) × AreCounts t lives count deepest
    → IsLiveTurn g turn → IsSoundSplit turn.zone v at → turn.depth < greatest_depth Large → steps (certificate_tree g.tree) < 2 ^ 63 - 1 → number ≡ lives + count
    → IsParted (queue_of q) turn.path bound number (queue_of after) → new ≡ fork_at t turn.path v at proof bound → deeper ≡ max deepest (turn.depth + 1)
    → IsStanding (record { tree = new; root = root; queue = after }) × AreCounts new (lives + 1) (count + 1) deeper
fork_whole t root q lives count deepest deeper g turn v at proof bound number after new is s alive split short few number_is p becomes deeper_is =
    let here = turn_in t root q g turn is alive in
    let key : p.bound ≡ turn.bound = key_bound t (queue_of q) (made t) turn.path turn.proof turn.bound p.bound p.made s.0.queued here.live p.there in
    let made_is : number ≡ made t = omega (arith, number_is, s.1.lives_is, s.1.count_is) in
    let far : turn.depth ≡ length turn.path = here.far in
    let sound : IsSoundSplit (zone_at t root turn.path) v at = subst (λ zone. IsSoundSplit zone v at) here.in_zone split in
    let least : steps (certificate_tree t) < 2 ^ 63 - 1 = subst (λ (h : GroveState). steps (certificate_tree h.tree) < 2 ^ 63 - 1) (sym is) few in
    subst (λ (u : GrowingTree). IsStanding (record { tree = u; root = root; queue = after }) × AreCounts u (lives + 1) (count + 1) deeper) (sym becomes) (
      standing_fork t root q after turn.path (leaf_of_turn turn) v at proof bound p.made s.0 here.live
          (subst (λ y. queue_of q y p.made ≡ Some turn.path) key p.there)
          (divided_as (queue_of q) p.bound turn.bound p.made bound number (made t) (turn.path ++ Low ∷ []) (turn.path ++ High ∷ []) (queue_of after)
          key made_is p.divided) sound (omega (arith, far, short)) least,
      counts_fork t turn.path (leaf_of_turn turn) v at proof bound lives count deepest (lives + 1) (count + 1) deeper s.1 here.live refl refl
          (deeper_is ∙ ap (λ d. max deepest (d + 1)) far),
    )

pub fork_kept : (b : BlockedProgram) (t : GrowingTree) (root : List Span) (q : Entries) (g : GroveState) (turn : Turn) (v : ℕ) (at : ℤ) (proof : Proof) (bound : ℤ) (path : List Side)
    (after : Entries) (new : GrowingTree)
    → record { tree = t; root = root; queue = q } ≡ g → IsStanding (record { tree = t; root = root; queue = q }) → IsGroveOf b g → IsLiveTurn g turn
    → IsSoundSplit turn.zone v at → IsSoundProof b.blocking proof → KeepsBound b.blocking turn.zone proof bound → path ≡ turn.path
    → new ≡ fork_at t path v at proof bound
    → IsGroveOf b (record { tree = new; root = root; queue = after })
fork_kept b t root q g turn v at proof bound path after new is s kept alive split sound keeps same becomes =
    let before : IsGroveOf b (record { tree = t; root = root; queue = q }) = subst (IsGroveOf b) (sym is) kept in
    let here = turn_in t root q g turn is alive in
    let h : live_at t path ≡ Some (leaf_of_turn turn) = ap (live_at t) same ∙ here.live in
    let zone_is : turn.zone ≡ zone_at t root path = here.in_zone ∙ sym (ap (zone_at t root) same) in
    record {
      root = before.root;
      kept = subst (IsGrove b.blocking root) (sym becomes)
          (fork_keeps_lem b.blocking root t path (leaf_of_turn turn) v at proof bound s.proper before.kept h
          (subst (λ zone. IsSoundSplit zone v at) zone_is split) sound (subst (λ zone. KeepsBound b.blocking zone proof bound) zone_is keeps));
    }

pub fork_from_queue : (t : GrowingTree) (root : List Span) (q : Entries) (lives count deepest : ℕ) (g : GroveState) (turn : Turn) (bound : ℤ) (number : ℕ) (after : Entries)
    → record { tree = t; root = root; queue = q } ≡ g → IsStanding (record { tree = t; root = root; queue = q }) × AreCounts t lives count deepest
    → IsLiveTurn g turn → number ≡ lives + count → IsParted (queue_of q) turn.path bound number (queue_of after)
    → IsForkedQueue (queue_of g.queue) turn bound (made g.tree) (queue_of after)
fork_from_queue t root q lives count deepest g turn bound number after is s alive number_is p =
    let here = turn_in t root q g turn is alive in
    let key : p.bound ≡ turn.bound = key_bound t (queue_of q) (made t) turn.path turn.proof turn.bound p.bound p.made s.0.queued here.live p.there in
    let made_is : number ≡ made t = omega (arith, number_is, s.1.lives_is, s.1.count_is) in
    let d : IsDivided (queue_of q) turn.bound p.made bound (made t) (turn.path ++ Low ∷ []) (turn.path ++ High ∷ []) (queue_of after) =
    divided_as (queue_of q) p.bound turn.bound p.made bound number (made t) (turn.path ++ Low ∷ []) (turn.path ++ High ∷ []) (queue_of after)
    key made_is p.divided in
    subst (λ (h : GroveState). IsForkedQueue (queue_of h.queue) turn bound (made h.tree) (queue_of after)) is
    (record {
      number = p.made;
      there = subst (λ y. queue_of q y p.made ≡ Some turn.path) key p.there;
      gone = d.gone;
      low = d.low;
      high = d.high;
      others = d.others;
    })

-- the first entry's bound is the least
pub least_is_first : (t : GrowingTree) (root : List Span) (q : Entries) (g : GroveState) (z : ℤ) (n : ℕ) (path : List Side)
    → record { tree = t; root = root; queue = q } ≡ g → IsStanding (record { tree = t; root = root; queue = q }) → IsFirstEntry (queue_of q) z n path
    → IsLeastOf (live_bounds g.tree) z
least_is_first t root q g z n path is s first =
    subst (λ (h : GroveState). IsLeastOf (live_bounds h.tree) z) is (queue_keeps_lem.first t (queue_of q) (made t) n z path s.queued first)

-- no entry, no live leaf
pub none_is_live : (t : GrowingTree) (root : List Span) (q : Entries) (g : GroveState) → record { tree = t; root = root; queue = q } ≡ g
    → IsStanding (record { tree = t; root = root; queue = q }) → IsEmptyQueue (queue_of q) → live_count g.tree ≡ 0
none_is_live t root q g is s empty = subst (λ (h : GroveState). live_count h.tree ≡ 0) is (none_live t (queue_of q) (made t) s.queued empty)

-- the first entry's path is short
pub first_is_short : (t : GrowingTree) (root : List Span) (q : Entries) (z : ℤ) (n : ℕ) (path : List Side)
    → IsStanding (record { tree = t; root = root; queue = q }) → IsFirstEntry (queue_of q) z n path → length path < 2 ^ 32
first_is_short t root q z n path s first =
    let found = s.queued.live z n path first.there in
    omega (arith, path_within_depth t path found.0 found.1, s.deep)

-- the turn of the first entry
pub next_turn : (t : GrowingTree) (root copy : List Span) (q : Entries) (g : GroveState) (turn : Turn) (z : ℤ) (n : ℕ) (path : List Side)
    → record { tree = t; root = root; queue = q } ≡ g → IsStanding (record { tree = t; root = root; queue = q }) → IsFirstEntry (queue_of q) z n path
    → copy ≡ root → live_at t path ≡ Some (leaf_of_turn turn) → turn.zone ≡ zone_at t copy path → turn.path ≡ path → turn.depth ≡ length path
    → IsNextTurn g turn
next_turn t root copy q g turn z n path is s first copied h in_zone same far =
    let key : z ≡ turn.bound = key_bound t (queue_of q) (made t) path turn.proof turn.bound z n s.queued h first.there in
    subst (λ (h : GroveState). IsNextTurn h turn) is
    (record {
      live = record {
        live = ap (live_at t) same ∙ h;
        in_zone = in_zone ∙ ap (λ spans. zone_at t spans path) copied ∙ sym (ap (zone_at t root) same);
        far = far ∙ sym (ap length same);
      };
      number = n;
      first = subst (IsFirstEntry (queue_of q) turn.bound n) (sym same) (subst (λ y. IsFirstEntry (queue_of q) y n path) key first);
      least = subst (IsLeastOf (live_bounds t)) key (queue_keeps_lem.first t (queue_of q) (made t) n z path s.queued first);
    })

-- a planted grove with its counts
pub plant_whole : (spans root : List Span) (proof : Proof) (v : ℤ) (empty after : Entries) (key : ℤ × ℕ) (path : List Side) → proof ≡ plain_proof → IsZone spans root
    → IsEmptyQueue (queue_of empty) → key ≡ (v, 0) → path ≡ [] → IsWith (queue_of empty) key.0 key.1 path (queue_of after)
    → IsStanding (record { tree = live proof v; root = root; queue = after }) × AreCounts (live proof v) 1 0 0
plant_whole spans root proof v empty after key path is zone none key_is path_is one =
    subst (λ (p : Proof). IsStanding (record { tree = live p v; root = root; queue = after }) × AreCounts (live p v) 1 0 0) (sym is) (
      standing_planted root v empty after zone.proper none
          (subst (λ (p : List Side). IsWith (queue_of empty) v 0 p (queue_of after)) path_is
          (subst (λ (k : ℤ × ℕ). IsWith (queue_of empty) k.0 k.1 path (queue_of after)) key_is one)),
      record { lives_is = refl; count_is = refl; deepest_is = refl },
    )

pub plant_kept : (b : BlockedProgram) (root : List Span) (proof : Proof) (v : ℤ) (after : Entries) → proof ≡ plain_proof → root ≡ b.named.program.spans
    → IsBound b.blocking b.named.program.spans plain_proof v → unsigned_abs v < 2 ^ 62
    → IsGroveOf b (record { tree = live proof v; root = root; queue = after })
plant_kept b root proof v after is root_is bound small = record {
  root = root_is;
  kept = subst (λ (p : Proof). IsGrove b.blocking root (live p v)) (sym is)
      (plant_keeps_lem b.blocking root v (subst (λ spans. IsBound b.blocking spans plain_proof v) (sym root_is) bound) small);
}

-- what a grove's fields keep, the grove keeps
pub standing_of : (t : GrowingTree) (root : List Span) (q : Entries) (g : GroveState) → record { tree = t; root = root; queue = q } ≡ g
    → IsStanding (record { tree = t; root = root; queue = q }) → IsStanding g
standing_of t root q g is s = subst IsStanding is s
