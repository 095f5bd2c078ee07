-- The parts of a class split are zones, and so are the leaves of a tree with such splits.
use Rattle.std.proofs.Common.{◌≡◌, refl, sym, ap, subst, ◌∙◌, ℕ, zero, suc, ◌<◌, true, ◌&&◌, List, [], ◌∷◌, map, length, get_or, set, arith, ⊎_elim}
use Rattle.std.proofs.Math.IntN.{ℤ, pos}
use Rattle.std.specs.Prelude.{◌≤ℤ◌, All}
use Rattle.std.specs.Int.{int_min}
use Rattle.std.specs.List.{AllByRecursion}
use Rattle.std.proofs.lemmas.Bool.{cases_lt}
use Rattle.std.proofs.lemmas.Int.{ints, clamps}
use Rattle.std.proofs.lemmas.List.{get_or_past, get_or-map}
use Rattle.std.proofs.lemmas.List.Elements.{All-set, All-append, All-weaker, All-from_recursion}
use Rattle.bp_theory.specs.Program.{span_at}
use Rattle.bp_theory.specs.Blocking.{Copy, Blocking}
use Rattle.bp_theory.specs.Decomposition.{place_of}
use Rattle.bp_theory.specs.Classes.{IsSame}
use Rattle.bp_theory.specs.Trees.{Leaf, low_part, high_part, IsSubspan, IsSubzone, IsProper}
use Rattle.bp_theory.specs.declared.Span.{Span}
use Rattle.bp_theory.proofs.ZipLaws.{AllZip-set}
use Rattle.bp_theory.proofs.ClassProof.{split_shrinks_lem}
use Rattle.bp_theory.proofs.DecompositionProof.{place_there, var_at_place}
use Rattle.search_laws.specs.Spread.{block_at}
use Rattle.stronger_laws.specs.Alike.{variables_of, is_among, stands_alone, is_alike, home, sibling, is_member, class_of, siblings}
use Rattle.stronger_laws.specs.ClassTrees.{ClassTree, shut_leaf, open_leaf, split, class_split, capped, all_capped, class_low_part, IsSoundClassSplit, HasSoundNodes, class_leaves}
use Rattle.stronger_laws.specs.Laws.{ClassPartsAreZones}
use Rattle.stronger_laws.proofs.SwapProof.{and_true, alike_tells, fused}
use Rattle.stronger_laws.proofs.SwapPointProof.{as_many}
use Rattle.stronger_laws.proofs.ClassCoverProof.{members_there}

within_itself : (zone : List Span) → IsSubzone zone zone
within_itself [] = tt
within_itself (s ∷ ss) = (record { above = omega (arith, ints); below = omega (arith, ints) }, within_itself ss)

within_within : (a b c : List Span) → IsSubzone a b → IsSubzone b c → IsSubzone a c
within_within [] [] c h g = g
within_within [] (s ∷ ss) c h g = absurd h
within_within (s ∷ ss) [] c h g = absurd h
within_within (s ∷ ss) (t ∷ ts) [] h g = absurd g
within_within (s ∷ ss) (t ∷ ts) (u ∷ us) h g =
    (record { above = omega (arith, ints, h.0.above, g.0.above); below = omega (arith, ints, h.0.below, g.0.below) }, within_within ss ts us h.1 g.1)

-- the span of any variable of a proper zone has a number
proper_anywhere : (zone : List Span) (v : ℕ) → IsProper zone → (span_at zone v).lo ≤ℤ (span_at zone v).hi
proper_anywhere zone v proper = ⊎_elim
    (λ l. proper v (record { lo = pos 0; hi = pos 0 }) l)
    (λ past. subst (λ (s : Span). s.lo ≤ℤ s.hi) (sym (get_or_past zone v (record { lo = pos 0; hi = pos 0 }) past)) (omega (arith, ints)))
    (cases_lt v (length zone))

-- a cap leaves the lower ends
low_stays : (zone : List Span) (w u : ℕ) (s : Span) → s.lo ≡ (span_at zone w).lo → (span_at (set zone w s) u).lo ≡ (span_at zone u).lo
low_stays [] w u s e = refl
low_stays (t ∷ ts) zero zero s e = e
low_stays (t ∷ ts) zero (suc u) s e = refl
low_stays (t ∷ ts) (suc w) zero s e = refl
low_stays (t ∷ ts) (suc w) (suc u) s e = low_stays ts w u s e

capped_shrinks : (zone : List Span) (v : ℕ) (at : ℤ) → IsProper zone → (span_at zone v).lo ≤ℤ at
    → IsProper (capped zone v at) × IsSubzone (capped zone v at) zone
capped_shrinks zone v at proper low =
    let part : Span = record { lo = (span_at zone v).lo; hi = int_min (span_at zone v).hi at } in (
      All-set (λ (s : Span). s.lo ≤ℤ s.hi) zone v part (both (span_at zone v).lo (span_at zone v).hi at (proper_anywhere zone v proper) low) proper,
      AllZip-set IsSubspan zone zone (within_itself zone) v part (record { lo = pos 0; hi = pos 0 })
          (record { above = omega (arith, ints); below = lower (span_at zone v).hi at }),
    )
  where
    both : (y h a : ℤ) → y ≤ℤ h → y ≤ℤ a → y ≤ℤ int_min h a
    both y h a l m = omega (arith, ints, clamps, l, m)

    lower : (h a : ℤ) → int_min h a ≤ℤ h
    lower h a = omega (arith, ints, clamps)

all_capped_shrink : (vs : List ℕ) (zone : List Span) (at : ℤ) → IsProper zone → AllByRecursion (λ v. (span_at zone v).lo ≤ℤ at) vs
    → IsProper (all_capped zone vs at) × IsSubzone (all_capped zone vs at) zone
all_capped_shrink [] zone at proper low = (proper, within_itself zone)
all_capped_shrink (v ∷ vs) zone at proper low =
    let here = capped_shrinks zone v at proper low.0 in
    let rest = all_capped_shrink vs (capped zone v at) at here.0 (stay vs low.1) in
    (rest.0, within_within (all_capped (capped zone v at) vs at) (capped zone v at) zone rest.1 here.1)
  where
    stay : (us : List ℕ) → AllByRecursion (λ u. (span_at zone u).lo ≤ℤ at) us → AllByRecursion (λ u. (span_at (capped zone v at) u).lo ≤ℤ at) us
    stay [] h = tt
    stay (u ∷ us) h = (
      subst (λ z. z ≤ℤ at) (sym (low_stays zone v u (record { lo = (span_at zone v).lo; hi = int_min (span_at zone v).hi at }) refl)) h.0,
      stay us h.1,
    )

-- a sibling has the span of its variable
sibling_span : (b : Blocking) (zone : List Span) (v k : ℕ) → is_among v (variables_of (block_at b (home b v))) ≡ true
    → is_member b zone v k ≡ true → span_at zone (sibling b v k) ≡ span_at zone v
sibling_span b zone v k has member =
    let h : ℕ = home b v in
    let us : List ℕ = variables_of (block_at b h) in
    let ws : List ℕ = variables_of (block_at b k) in
    let i : ℕ = place_of us v in
    let s : Span = record { lo = pos 0; hi = pos 0 } in
    let first = and_true (stands_alone b h) (stands_alone b k && is_alike zone (block_at b h) (block_at b k)) member in
    let second = and_true (stands_alone b k) (is_alike zone (block_at b h) (block_at b k)) first.1 in
    let alike : IsSame zone (block_at b h) (block_at b k) = alike_tells zone (block_at b h) (block_at b k) second.1 in
    let spans : map (span_at zone) us ≡ map (span_at zone) ws =
    sym (fused (span_at zone) (λ (c : Copy). c.var) (block_at b h).copies) ∙ alike.spans ∙ fused (span_at zone) (λ (c : Copy). c.var) (block_at b k).copies in
    let there : i < length us = place_there us v has in
    sym (get_or-map (span_at zone) ws i 0 s (omega (arith, there, as_many zone (block_at b h) (block_at b k) alike)))
    ∙ ap (λ (ss : List Span). get_or ss i s) (sym spans)
    ∙ get_or-map (span_at zone) us i 0 s there
    ∙ ap (span_at zone) (var_at_place us v has 0)

siblings_low : (b : Blocking) (zone : List Span) (v : ℕ) (at : ℤ) → is_among v (variables_of (block_at b (home b v))) ≡ true
    → (span_at zone v).lo ≤ℤ at → (ks : List ℕ) → AllByRecursion (λ k. (k < length b.blocks) × (is_member b zone v k ≡ true)) ks
    → AllByRecursion (λ u. (span_at zone u).lo ≤ℤ at) (map (sibling b v) ks)
siblings_low b zone v at has low [] all = tt
siblings_low b zone v at has low (k ∷ ks) all = (
  subst (λ (s : Span). s.lo ≤ℤ at) (sym (sibling_span b zone v k has all.0.1)) low,
  siblings_low b zone v at has low ks all.1,
)

class_low_shrinks : (b : Blocking) (zone : List Span) (v : ℕ) (at : ℤ) → IsSoundClassSplit b zone v at → IsProper zone
    → IsProper (class_low_part b zone v at) × IsSubzone (class_low_part b zone v at) zone
class_low_shrinks b zone v at sound proper =
    all_capped_shrink (siblings b zone v) zone at proper
    (siblings_low b zone v at sound.copied sound.sound.above (class_of b zone v)
    (members_there (is_member b zone v) (length b.blocks) 0 (length b.blocks) (omega arith)))

abbrev IsPart : List Span → Leaf → Type 0
IsPart zone leaf = IsProper leaf.zone × IsSubzone leaf.zone zone

inner_parts : (inner zone : List Span) (ls : List Leaf) → IsSubzone inner zone → All (IsPart inner) ls → All (IsPart zone) ls
inner_parts inner zone ls h all =
    All-weaker (IsPart inner) (IsPart zone) (λ leaf g. (g.0, within_within leaf.zone inner zone g.1 h)) ls all

class_leaves_shrink : (b : Blocking) (t : ClassTree) (zone : List Span) → HasSoundNodes b t zone → IsProper zone → All (IsPart zone) (class_leaves b t zone)
class_leaves_shrink b (shut_leaf proof) zone sound proper =
    All-from_recursion (IsPart zone) (class_leaves b (shut_leaf proof) zone) ((proper, within_itself zone), tt)
class_leaves_shrink b (open_leaf proof) zone sound proper =
    All-from_recursion (IsPart zone) (class_leaves b (open_leaf proof) zone) ((proper, within_itself zone), tt)
class_leaves_shrink b (split v at low high) zone sound proper =
    let l = split_shrinks_lem.low zone v at sound.0 proper in
    let h = split_shrinks_lem.high zone v at sound.0 proper in
    All-append (IsPart zone) (class_leaves b low (low_part zone v at)) (class_leaves b high (high_part zone v at))
    (inner_parts (low_part zone v at) zone (class_leaves b low (low_part zone v at)) l.1 (class_leaves_shrink b low (low_part zone v at) sound.1 l.0))
    (inner_parts (high_part zone v at) zone (class_leaves b high (high_part zone v at)) h.1 (class_leaves_shrink b high (high_part zone v at) sound.2 h.0))
class_leaves_shrink b (class_split v at low high) zone sound proper =
    let l = class_low_shrinks b zone v at sound.0 proper in
    let h = split_shrinks_lem.high zone v at sound.0.sound proper in
    All-append (IsPart zone) (class_leaves b low (class_low_part b zone v at)) (class_leaves b high (high_part zone v at))
    (inner_parts (class_low_part b zone v at) zone (class_leaves b low (class_low_part b zone v at)) l.1
    (class_leaves_shrink b low (class_low_part b zone v at) sound.1 l.0))
    (inner_parts (high_part zone v at) zone (class_leaves b high (high_part zone v at)) h.1 (class_leaves_shrink b high (high_part zone v at) sound.2 h.0))

pub class_parts_are_zones_lem : ClassPartsAreZones
class_parts_are_zones_lem = record {
  low = class_low_shrinks;
  high = λ b zone v at sound proper. split_shrinks_lem.high zone v at sound.sound proper;
  leaves = class_leaves_shrink;
}
