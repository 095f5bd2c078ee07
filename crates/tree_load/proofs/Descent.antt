-- Certificates as trees from which a search goes on.
use Rattle.std.proofs.Common.{◌≡◌, ℕ, zero, suc, ◌+◌, ◌-◌, ◌*◌, ◌<◌, ◌^◌, Bool, true, false, IsTrue, ◌↔◌, List, [], ◌∷◌, ◌++◌, length, set, Option, Some, None, inl, ⊎_elim, sym, subst, ap, ◌∙◌, refl, arith}
use Rattle.std.proofs.Math.IntN.{ℤ, pos, negsuc, neg_ℤ, ◌-ℤ◌, ◌+ℤ◌, ◌*ℤ◌, zero-*ℤ, pos-*ℤ-negsuc}
use Rattle.std.specs.Prelude.{◌≤ℤ◌, ◌<ℤ◌, unsigned_abs}
use Rattle.std.proofs.lemmas.Int.{ints}
use Rattle.std.proofs.lemmas.Bool.{cases_lt}
use Rattle.std.proofs.lemmas.List.{length-append}
use Rattle.std.proofs.Math.ListN.{length-set}
use Rattle.bp_theory.specs.Program.{span_at}
use Rattle.bp_theory.specs.Blocking.{Blocking}
use Rattle.bp_theory.specs.Bound.{IsBound, IsEndless}
use Rattle.bp_theory.specs.Trees.{Tree, shut_leaf, open_leaf, split, low_part, high_part, IsSoundSplit}
use Rattle.bp_theory.specs.declared.Limits.{Limits}
use Rattle.bp_theory.specs.declared.Span.{Span}
use Rattle.bp_theory.specs.declared.Proof.{Proof}
use Rattle.bp_theory.proofs.Whole.{le-mul_pos}
use Rattle.block_program.specs.Blocked.{BlockedProgram}
use Rattle.search_laws.specs.Grove.{GrowingTree, live, shut, fork}
use Rattle.search_laws.specs.GroveFacts.{Settles}
use Rattle.search_laws.specs.Loading.{LoadsLeaf, Loads}
use Rattle.branch_tree.specs.Groves.{made}
use Rattle.cert_line_check.proofs.Lines.{high_is, back_is, low_zone, high_zone, holds_by, empties_by}
use Rattle.tree_load.specs.Rooms.{rooms, FindsBehind, node_count, CanLoadLeaf, CanLoad, SettlesBy, IsLeaf}
use Rattle.tree_load.specs.Nodes.{MayLoad, IsLoadedNode}
use Rattle.tree_load.specs.declared.walk.Walk.{Walk}
use Rattle.tree_load.proofs.Finding.{finds_both, finds_none}

-- ---- one leaf

-- a bound settles a zone exactly where the proof does
pub settles_by : (b : Blocking) (best : Option ℤ) (zone : List Span) (proof : Proof) (v : ℤ) → IsBound b zone proof v
    → SettlesBy best proof.scale v ↔ Settles b best zone proof
settles_by b None zone proof v bound = empties_by b zone proof v bound
settles_by b (Some z) zone proof v bound = holds_by b zone proof z v bound

pub endless_settles : (b : Blocking) (best : Option ℤ) (zone : List Span) (proof : Proof) → IsEndless b zone proof → Settles b best zone proof
endless_settles b None zone proof h = inl h
endless_settles b (Some z) zone proof h = inl h

-- a positive bound at scale 0 settles a zone whatever the best cost is
scale_zero : (best : Option ℤ) (scale : ℕ) (v : ℤ) → scale ≡ 0 → pos 0 <ℤ v → SettlesBy best scale v
scale_zero None scale v none above = (none, above)
scale_zero (Some z) scale v none above = omega (arith, ints, above, ap (λ s. pos s *ℤ (z -ℤ pos 1)) none, zero-*ℤ (z -ℤ pos 1))

-- the bound of a leaf that isn't settled: its proof has a positive scale, and it can be rounded
pub record CanRound (scale : ℕ) (v : ℤ) : Type 0 where
  pub positive : 0 < scale
  pub above : neg_ℤ (pos (scale * 2 ^ 62)) <ℤ v

pub can_round : (b : Blocking) (best : Option ℤ) (zone : List Span) (proof : Proof) (v : ℤ) → CanLoadLeaf b best zone proof → IsBound b zone proof v
    → (SettlesBy best proof.scale v → ⊥) → CanRound proof.scale v
can_round b best zone proof v can bound not = ⊎_elim (λ settled. absurd (not ((settles_by b best zone proof v bound).1 settled)))
    (λ holds. by ((holds_by b zone proof can.number v bound).1 holds)) can.shown
  where
    zero_scale : proof.scale < 1 → proof.scale ≡ 0
    zero_scale h = omega (arith, h)

    positive_at : (pos proof.scale *ℤ (can.number -ℤ pos 1)) <ℤ v → proof.scale ≡ 0 → pos 0 <ℤ v
    positive_at above e = omega (arith, ints, above, ap (λ s. pos s *ℤ (can.number -ℤ pos 1)) e, zero-*ℤ (can.number -ℤ pos 1))

    far : (z : ℤ) → unsigned_abs z < 2 ^ 62 → negsuc (2 ^ 62 - 1) ≤ℤ (z -ℤ pos 1)
    far z small = omega (arith, ints, small)

    by : (pos proof.scale *ℤ (can.number -ℤ pos 1)) <ℤ v → CanRound proof.scale v
    by above = record {
      positive = ⊎_elim (λ none. absurd (not (scale_zero best proof.scale v (zero_scale none) (positive_at above (zero_scale none))))) (λ some. some) (cases_lt proof.scale 1);
      above = omega (
        arith,
        ints,
        above,
        le-mul_pos proof.scale (negsuc (2 ^ 62 - 1)) (can.number -ℤ pos 1) (far can.number can.small),
        pos-*ℤ-negsuc proof.scale (2 ^ 62 - 1),
      );
    }

pub leaf_is : (b : Blocking) (best : Option ℤ) (zone : List Span) (proof : Proof) (t : GrowingTree) → LoadsLeaf b best zone proof t → IsLeaf t
leaf_is b best zone proof (live own bound) h = tt
leaf_is b best zone proof (shut own) h = tt
leaf_is b best zone proof (fork v at low high) h = absurd h

-- ---- the rooms of a loaded tree: one for each node

one_room : (t : GrowingTree) (deep : ℕ) (zone : List Span) → IsLeaf t → length (rooms t deep zone) ≡ 1
one_room (live own bound) deep zone h = refl
one_room (shut own) deep zone h = refl
one_room (fork v at low high) deep zone h = absurd h

rooms_of : (b : Blocking) (best : Option ℤ) (zone room_zone : List Span) (deep : ℕ) (tree : Tree) (t : GrowingTree) → Loads b best zone tree t
    → length (rooms t deep room_zone) ≡ node_count tree
rooms_of b best zone room_zone deep (shut_leaf p) t h = one_room t deep room_zone (leaf_is b best zone p t h)
rooms_of b best zone room_zone deep (open_leaf p) t h = one_room t deep room_zone (leaf_is b best zone p t h)
rooms_of b best zone room_zone deep (split v at low high) (live own bound) h = absurd h
rooms_of b best zone room_zone deep (split v at low high) (shut own) h = absurd h
rooms_of b best zone room_zone deep (split v at low high) (fork w a first second) h =
    omega (
      arith,
      length-append (rooms first (deep + 1) (low_part room_zone w a)) (rooms second (deep + 1) (high_part room_zone w a)),
      rooms_of b best (low_part zone v at) (low_part room_zone w a) (deep + 1) low first h.2,
      rooms_of b best (high_part zone v at) (high_part room_zone w a) (deep + 1) high second h.3,
    )

one_made : (t : GrowingTree) → IsLeaf t → made t ≡ 1
one_made (live own bound) h = refl
one_made (shut own) h = refl
one_made (fork v at low high) h = absurd h

pub made_of : (b : Blocking) (best : Option ℤ) (zone : List Span) (tree : Tree) (t : GrowingTree) → Loads b best zone tree t → made t ≡ node_count tree
made_of b best zone (shut_leaf p) t h = one_made t (leaf_is b best zone p t h)
made_of b best zone (open_leaf p) t h = one_made t (leaf_is b best zone p t h)
made_of b best zone (split v at low high) (live own bound) h = absurd h
made_of b best zone (split v at low high) (shut own) h = absurd h
made_of b best zone (split v at low high) (fork w a first second) h =
    omega (arith, made_of b best (low_part zone v at) low first h.2, made_of b best (high_part zone v at) high second h.3)

-- ---- on the way down

pub may_low : (b : BlockedProgram) (best : Option ℤ) (at below : Walk) (tree : Tree) (v : ℕ) (s : ℤ) (low high : Tree) → tree ≡ split v s low high
    → MayLoad b best at tree → below.zone ≡ low_part at.zone v s → below.depth ≡ at.depth + 1 → below.line ≡ at.line + 1 → MayLoad b best below low
may_low b best at below tree v s low high is h zone deep line =
    let may : MayLoad b best at (split v s low high) = subst (MayLoad b best at) is h in
    record {
      zone = low_zone b.named.program.spans at.zone below.zone v s may.can.0 zone may.zone;
      can = subst (λ (z : List Span). CanLoad b.blocking best z low) (sym zone) may.can.1;
      shallow = omega (arith, deep, may.shallow);
      few = omega (arith, line, may.few);
    }

pub may_high : (b : BlockedProgram) (best : Option ℤ) (at below passed above : Walk) (tree : Tree) (v : ℕ) (s : ℤ) (span : Span) (low high : Tree) (first : GrowingTree)
    → tree ≡ split v s low high → MayLoad b best at tree → span ≡ span_at at.zone v
    → below.zone ≡ low_part at.zone v s → below.depth ≡ at.depth + 1 → below.line ≡ at.line + 1 → IsLoadedNode b.named.program.limits b.blocking best below low first passed
    → above.zone ≡ set passed.zone v (record { lo = s +ℤ pos 1; hi = span.hi }) → above.depth ≡ passed.depth → above.line ≡ passed.line
    → MayLoad b best above high
may_high b best at below passed above tree v s span low high first is h span_is zone deep line one above_zone above_deep above_line =
    let may : MayLoad b best at (split v s low high) = subst (MayLoad b best at) is h in
    let part : above.zone ≡ high_part at.zone v s = high_is at.zone passed.zone above.zone v s span span_is (one.zone ∙ zone) above_zone in
    record {
      zone = high_zone b.named.program.spans at.zone above.zone v s may.can.0 part may.zone;
      can = subst (λ (z : List Span). CanLoad b.blocking best z high) (sym part) may.can.2;
      shallow = omega (arith, deep, one.depth, above_deep, may.shallow);
      few = omega (arith, line, one.line, above_line, may.few);
    }

pub loaded_fork : (limits : Limits) (b : Blocking) (best : Option ℤ) (at below passed above end last : Walk) (tree : Tree) (v : ℕ) (s : ℤ) (span : Span) (low high : Tree)
    (first second node : GrowingTree)
    → tree ≡ split v s low high → node ≡ fork v s first second → span ≡ span_at at.zone v
    → below.zone ≡ low_part at.zone v s → below.depth ≡ at.depth + 1 → below.line ≡ at.line + 1 → below.deep ≡ at.deep
    → IsLoadedNode limits b best below low first passed
    → above.zone ≡ set passed.zone v (record { lo = s +ℤ pos 1; hi = span.hi }) → above.depth ≡ passed.depth → above.line ≡ passed.line → above.deep ≡ passed.deep
    → IsLoadedNode limits b best above high second end
    → last.zone ≡ set end.zone v span → last.depth ≡ end.depth - 1 → last.line ≡ end.line → last.deep ≡ end.deep
    → IsLoadedNode limits b best at tree node last
loaded_fork limits b best at below passed above end last tree v s span low high first second node is node_is span_is
    low_zone_is low_deep low_line low_found one high_zone_is high_deep high_line high_found two last_zone last_deep last_line last_found =
    subst (λ (u : Tree). IsLoadedNode limits b best at u node last) (sym is)
    (subst (λ (t : GrowingTree). IsLoadedNode limits b best at (split v s low high) t last) (sym node_is)
    (record {
      loads = (
        refl,
        refl,
        subst (λ (z : List Span). Loads b best z low first) low_zone_is one.loads,
        subst (λ (z : List Span). Loads b best z high second) part two.loads,
      );
      zone = back_is at.zone end.zone last.zone v s span span_is (two.zone ∙ part) last_zone;
      depth = omega (arith, low_deep, one.depth, high_deep, two.depth, last_deep);
      line = omega (arith, low_line, one.line, high_line, two.line, last_line);
      deep = found;
    }))
  where
    part : above.zone ≡ high_part at.zone v s
    part = high_is at.zone passed.zone above.zone v s span span_is (one.zone ∙ low_zone_is) high_zone_is

    low_rooms : List ℕ
    low_rooms = rooms first (at.depth + 1) (low_part at.zone v s)

    high_rooms : List ℕ
    high_rooms = rooms second (at.depth + 1) (high_part at.zone v s)

    in_low : FindsBehind limits at.deep low_rooms (at.line + 1) passed.deep
    in_low =
        subst (λ (o : Option ℕ). FindsBehind limits o low_rooms (at.line + 1) passed.deep) low_found
        (subst (λ n. FindsBehind limits below.deep low_rooms n passed.deep) low_line
        (subst (λ (z : List Span). FindsBehind limits below.deep (rooms first (at.depth + 1) z) below.line passed.deep) low_zone_is
        (subst (λ d. FindsBehind limits below.deep (rooms first d below.zone) below.line passed.deep) low_deep one.deep)))

    above_deep : above.depth ≡ at.depth + 1
    above_deep = high_deep ∙ one.depth ∙ low_deep

    in_high : FindsBehind limits passed.deep high_rooms above.line last.deep
    in_high =
        subst (λ (o : Option ℕ). FindsBehind limits passed.deep high_rooms above.line o) (sym last_found)
        (subst (λ (o : Option ℕ). FindsBehind limits o high_rooms above.line end.deep) high_found
        (subst (λ (z : List Span). FindsBehind limits above.deep (rooms second (at.depth + 1) z) above.line end.deep) part
        (subst (λ d. FindsBehind limits above.deep (rooms second d above.zone) above.line end.deep) above_deep two.deep)))

    low_length : length low_rooms ≡ node_count low
    low_length = rooms_of b best below.zone (low_part at.zone v s) (at.depth + 1) low first one.loads

    behind_low : above.line ≡ at.line + 1 + length low_rooms
    behind_low = omega (arith, high_line, one.line, low_line, low_length)

    found : FindsBehind limits at.deep (0 ∷ (low_rooms ++ high_rooms)) at.line last.deep
    found = finds_both limits (0 ∷ []) (low_rooms ++ high_rooms) at.line (at.line + 1) at.deep at.deep last.deep (finds_none limits at.line at.deep) refl
        (finds_both limits low_rooms high_rooms (at.line + 1) above.line at.deep passed.deep last.deep in_low behind_low in_high)

-- a leaf
pub loaded_leaf : (limits : Limits) (b : Blocking) (best : Option ℤ) (at end : Walk) (proof : Proof) (t : GrowingTree) → LoadsLeaf b best at.zone proof t
    → end.zone ≡ at.zone → end.depth ≡ at.depth → end.line ≡ at.line + 1 → FindsBehind limits at.deep (rooms t at.depth at.zone) at.line end.deep
    → IsLoadedNode limits b best at (open_leaf proof) t end
loaded_leaf limits b best at end proof t loads zone deep line found = record { loads = loads; zone = zone; depth = deep; line = line; deep = found }

-- an open leaf and a shut one are loaded alike
pub as_shut : (limits : Limits) (b : Blocking) (best : Option ℤ) (at end : Walk) (tree : Tree) (proof : Proof) (t : GrowingTree) → tree ≡ shut_leaf proof
    → IsLoadedNode limits b best at (open_leaf proof) t end → IsLoadedNode limits b best at tree t end
as_shut limits b best at end tree proof t is h =
    subst (λ (u : Tree). IsLoadedNode limits b best at u t end) (sym is) (record { loads = h.loads; zone = h.zone; depth = h.depth; line = h.line; deep = h.deep })

pub as_open : (limits : Limits) (b : Blocking) (best : Option ℤ) (at end : Walk) (tree : Tree) (proof : Proof) (t : GrowingTree) → tree ≡ open_leaf proof
    → IsLoadedNode limits b best at (open_leaf proof) t end → IsLoadedNode limits b best at tree t end
as_open limits b best at end tree proof t is h = subst (λ (u : Tree). IsLoadedNode limits b best at u t end) (sym is) h

pub may_shut : (b : BlockedProgram) (best : Option ℤ) (at : Walk) (tree : Tree) (proof : Proof) → tree ≡ shut_leaf proof → MayLoad b best at tree
    → MayLoad b best at (open_leaf proof)
may_shut b best at tree proof is h =
    let may : MayLoad b best at (shut_leaf proof) = subst (MayLoad b best at) is h in
    record { zone = may.zone; can = may.can; shallow = may.shallow; few = may.few }

pub may_open : (b : BlockedProgram) (best : Option ℤ) (at : Walk) (tree : Tree) (proof : Proof) → tree ≡ open_leaf proof → MayLoad b best at tree
    → MayLoad b best at (open_leaf proof)
may_open b best at tree proof is h = subst (MayLoad b best at) is h

-- ---- the way back

-- a sound split's variable is there, since the span of none is 0 to 0
pub split_there : (zone : List Span) (v : ℕ) (at : ℤ) → IsSoundSplit zone v at → v < length zone
split_there [] v at sound = let above = sound.above in let below = sound.below in absurd (omega (arith, ints, above, below))
split_there (s ∷ zone) zero at sound = omega arith
split_there (s ∷ zone) (suc v) at sound = omega (arith, split_there zone v at (record { above = sound.above; below = sound.below }))

-- what the way back from a split needs
pub record CanGoBack (v : ℕ) (span : Span) (end : Walk) : Type 0 where
  pub there : v < length end.zone
  pub proper : span.lo ≤ℤ span.hi
  pub below : 0 < end.depth

pub can_go_back : (b : BlockedProgram) (best : Option ℤ) (at below passed above end : Walk) (tree : Tree) (v : ℕ) (s : ℤ) (span : Span) (low high : Tree) (first second : GrowingTree)
    → tree ≡ split v s low high → MayLoad b best at tree → span ≡ span_at at.zone v
    → below.zone ≡ low_part at.zone v s → below.depth ≡ at.depth + 1 → IsLoadedNode b.named.program.limits b.blocking best below low first passed
    → above.zone ≡ set passed.zone v (record { lo = s +ℤ pos 1; hi = span.hi }) → above.depth ≡ passed.depth
    → IsLoadedNode b.named.program.limits b.blocking best above high second end → CanGoBack v span end
can_go_back b best at below passed above end tree v s span low high first second is h span_is zone deep one above_zone above_deep two =
    let may : MayLoad b best at (split v s low high) = subst (MayLoad b best at) is h in
    let sound : IsSoundSplit at.zone v s = may.can.0 in
    let part : above.zone ≡ high_part at.zone v s = high_is at.zone passed.zone above.zone v s span span_is (one.zone ∙ zone) above_zone in
    let long : length end.zone ≡ length at.zone = ap (λ (z : List Span). length z) (two.zone ∙ part) ∙ length-set at.zone v (record { lo = s +ℤ pos 1; hi = (span_at at.zone v).hi }) in
    record {
      there = omega (arith, long, split_there at.zone v s sound);
      proper = by span (span_at at.zone v) span_is sound.above sound.below;
      below = omega (arith, deep, one.depth, above_deep, two.depth);
    }
  where
    by : (x y : Span) → x ≡ y → y.lo ≤ℤ s → s <ℤ y.hi → x.lo ≤ℤ x.hi
    by x y same l m = subst (λ (z : Span). z.lo ≤ℤ z.hi) (sym same) (through y.lo s y.hi l m)
      where
        through : (x y z : ℤ) → x ≤ℤ y → y <ℤ z → x ≤ℤ z
        through x y z l m = omega (arith, ints, l, m)

-- a test's answer as what it says
pub yes_by : {P : Type 0} (t : Bool) → IsTrue t ↔ P → t ≡ true → P
yes_by t same e = same.0 e

pub not_by : {P : Type 0} (t : Bool) → IsTrue t ↔ P → t ≡ false → P → ⊥
not_by t same e p = let yes : t ≡ true = same.1 p in absurd (cc)
