-- Depth and bits: splits at the middle take a bit, so no tree grows too deep.
use Rattle.std.proofs.Common.{◌*◌, ◌≡◌, refl, ℕ, zero, suc, ◌+◌, ◌/◌, ◌<◌, ◌≤◌, ◌^◌, List, [], ◌∷◌, ◌++◌, Option, Some, None, arith, length, set, ⊎_elim, length-append}
use Rattle.std.proofs.Math.IntN.{ℤ, pos, ◌+ℤ◌}
use Rattle.std.proofs.Math.Nat.{pow-suc, pow-le-pow_right}
use Rattle.std.specs.Prelude.{◌≤ℤ◌, ◌<ℤ◌, All}
use Rattle.std.specs.List.{AllByRecursion}
use Rattle.std.specs.Int.{int_gap}
use Rattle.std.proofs.lemmas.Int.{ints}
use Rattle.std.proofs.lemmas.Nat.{pow_pos, leading_length}
use Rattle.std.proofs.lemmas.Bool.{cases_lt}
use Rattle.std.proofs.lemmas.List.Sums.{sum_by-set, sum_by-cons}
use Rattle.std.proofs.lemmas.List.Elements.{All-append, All-weaker, recursion_from_All}
use Rattle.bp_theory.specs.Program.{Program, span_at}
use Rattle.bp_theory.specs.Bound.{plain_proof}
use Rattle.bp_theory.specs.Trees.{IsProper, IsSubspan, IsSubzone, IsSoundSplit, HasSoundSplits, low_part, high_part, depth}
use Rattle.bp_theory.specs.Limits.{greatest_depth, most_digits}
use Rattle.bp_theory.specs.declared.Limits.{Limits}
use Rattle.bp_theory.specs.declared.Span.{Span}
use Rattle.bp_theory.specs.declared.Proof.{Proof}
use Rattle.bp_theory.proofs.CoverProof.{split_var_there}
use Rattle.bp_theory.proofs.ClassProof.{split_shrinks_lem}
use Rattle.search_laws.specs.declared.Side.{Side}
use Rattle.search_laws.specs.declared.Side.TheVariants.{Low, High}
use Rattle.search_laws.specs.Grove.{GrowingTree, live, shut, fork, GrowingLeaf, leaves_below, growing_leaves, LiveLeaf, live_at, zone_at, put_at, certificate_tree}
use Rattle.bp_theory.specs.Digits.{binary_digits, span_bits, zone_bits, middle}
use Rattle.bp_theory.proofs.DigitsProof.{half_has_less, zone_bits_grow}
use Rattle.search_laws.specs.GroveFacts.{KeepsDepth, IsShallow, IsSized, IsTimelySplit}
use Rattle.search_laws.specs.Laws.{MiddleTakesABit, StaysShallow}
use Rattle.search_laws.proofs.Places.{recursion_parts, leaf_at_path, leaves_put}
use Rattle.search_laws.proofs.GroveProof.{All-one, zone_is_proper}

-- a zone whose span at a place loses a bit
loses_bit : (zone : List Span) (v : ℕ) (s : Span) → v < length zone → span_bits s < span_bits (span_at zone v)
    → zone_bits (set zone v s) < zone_bits zone
loses_bit zone v s l h = omega (arith, h, sum_by-set span_bits zone v s (record { lo = pos 0; hi = pos 0 }) l)

low_half : (s : Span) (at : ℤ) → s.lo ≤ℤ at → at <ℤ s.hi → at ≡ middle s → span_bits (record { lo = s.lo; hi = at }) < span_bits s
low_half s at above below e =
    half_has_less (int_gap s.lo at) (int_gap s.lo s.hi) (apart s.lo s.hi at above below) (half s.lo at (int_gap s.lo s.hi / 2) e)
  where
    apart : (a b at : ℤ) → a ≤ℤ at → at <ℤ b → 0 < int_gap a b
    apart a b at h k = grind (arith, ints)

    half : (a at : ℤ) (n : ℕ) → at ≡ a +ℤ pos n → int_gap a at ≤ n
    half a at n e = grind (arith, ints)

high_half : (s : Span) (at : ℤ) → s.lo ≤ℤ at → at <ℤ s.hi → at ≡ middle s → span_bits (record { lo = at +ℤ pos 1; hi = s.hi }) < span_bits s
high_half s at above below e =
    half_has_less (int_gap (at +ℤ pos 1) s.hi) (int_gap s.lo s.hi) (apart s.lo s.hi at above below) (half s.lo s.hi at (int_gap s.lo s.hi) above below refl e)
  where
    apart : (a b at : ℤ) → a ≤ℤ at → at <ℤ b → 0 < int_gap a b
    apart a b at h k = grind (arith, ints)

    half : (a b at : ℤ) (n : ℕ) → a ≤ℤ at → at <ℤ b → n ≡ int_gap a b → at ≡ a +ℤ pos (n / 2) → int_gap (at +ℤ pos 1) b ≤ n / 2
    half a b at n h k g e = grind (arith, ints)

pub middle_takes_a_bit_lem : MiddleTakesABit
middle_takes_a_bit_lem = record {
  low = λ zone v at split e.
      loses_bit zone v (record { lo = (span_at zone v).lo; hi = at }) (split_var_there zone v at split) (low_half (span_at zone v) at split.above split.below e);
  high = λ zone v at split e.
      loses_bit zone v (record { lo = at +ℤ pos 1; hi = (span_at zone v).hi }) (split_var_there zone v at split) (high_half (span_at zone v) at split.above split.below e);
  smaller = zone_bits_grow;
}

-- the zone at a path has no more bits than the root zone
zone_at_bits : (t : GrowingTree) (zone : List Span) (path : List Side) (leaf : LiveLeaf) → live_at t path ≡ Some leaf
    → HasSoundSplits (certificate_tree t) zone → IsProper zone → zone_bits (zone_at t zone path) ≤ zone_bits zone
zone_at_bits t zone [] leaf h sound proper = omega arith
zone_at_bits (live proof bound) zone (side ∷ path) leaf h sound proper = absurd (cc)
zone_at_bits (shut proof) zone (side ∷ path) leaf h sound proper = absurd (cc)
zone_at_bits (fork v at low high) zone (Low ∷ path) leaf h sound proper =
    let part = split_shrinks_lem.low zone v at sound.0 proper in
    omega (arith, zone_at_bits low (low_part zone v at) path leaf h sound.1 part.0, zone_bits_grow (low_part zone v at) zone part.1)
zone_at_bits (fork v at low high) zone (High ∷ path) leaf h sound proper =
    let part = split_shrinks_lem.high zone v at sound.0 proper in
    omega (arith, zone_at_bits high (high_part zone v at) path leaf h sound.2 part.0, zone_bits_grow (high_part zone v at) zone part.1)

-- a part of a timely split is no deeper, with its bits, than is allowed
part_is_shallow : (digits depth whole part : ℕ) → depth + whole ≤ 64 + digits → whole ≤ digits → part ≤ whole → (64 ≤ depth → part < whole)
    → depth + 1 + part ≤ 64 + digits
part_is_shallow digits depth whole part h k l m = ⊎_elim
    (λ early. omega (arith, h, k, l, early))
    (λ late. omega (arith, h, l, m late))
    (cases_lt depth 64)

planted_is_shallow : (bound : ℤ) (p : Program) (proof : Proof) → IsSized p → All (IsShallow p.limits) (growing_leaves (live proof bound) p.spans)
planted_is_shallow bound p proof sized =
    All-one (IsShallow p.limits) (record { path = []; zone = p.spans; proof = proof; bound = Some bound }) (omega (arith, sized.bits))

shut_is_shallow : (limits : Limits) (zone : List Span) (t : GrowingTree) (path : List Side) (leaf : LiveLeaf) (proof : Proof)
    → live_at t path ≡ Some leaf → All (IsShallow limits) (growing_leaves t zone) → All (IsShallow limits) (growing_leaves (put_at t path (shut proof)) zone)
shut_is_shallow limits zone t path leaf proof h all =
    leaves_put (IsShallow limits) t zone path leaf (shut proof) h all
    (All-one (IsShallow limits) (record { path = path; zone = zone_at t zone path; proof = proof; bound = None })
    (lower (length path) (zone_bits (zone_at t zone path)) (leaf_at_path (IsShallow limits) t zone path leaf h all)))
  where
    lower : (d n : ℕ) → d + n ≤ greatest_depth limits → d ≤ greatest_depth limits
    lower d n h = omega arith

forked_is_shallow : (p : Program) (t : GrowingTree) (path : List Side) (leaf : LiveLeaf) (v : ℕ) (at : ℤ) (proof : Proof) (bound : ℤ)
    → IsSized p → HasSoundSplits (certificate_tree t) p.spans → live_at t path ≡ Some leaf
    → IsSoundSplit (zone_at t p.spans path) v at → IsTimelySplit (length path) (zone_at t p.spans path) v at
    → All (IsShallow p.limits) (growing_leaves t p.spans)
    → All (IsShallow p.limits) (growing_leaves (put_at t path (fork v at (live proof bound) (live proof bound))) p.spans)
forked_is_shallow p t path leaf v at proof bound sized sound h split timely all =
    let here : List Span = zone_at t p.spans path in
    let proper : IsProper here = zone_is_proper t p.spans path leaf h sound sized.proper in
    let now : length path + zone_bits here ≤ greatest_depth p.limits = leaf_at_path (IsShallow p.limits) t p.spans path leaf h all in
    let few : zone_bits here ≤ zone_bits p.spans = zone_at_bits t p.spans path leaf h sound sized.proper in
    let small : zone_bits here ≤ most_digits p.limits = omega (arith, few, sized.bits) in
    leaves_put (IsShallow p.limits) t p.spans path leaf (fork v at (live proof bound) (live proof bound)) h all
    (All-append (IsShallow p.limits) (leaves_below (live proof bound) (path ++ Low ∷ []) (low_part here v at))
    (leaves_below (live proof bound) (path ++ High ∷ []) (high_part here v at))
    (part Low (low_part here v at)
    (part_is_shallow (most_digits p.limits) (length path) (zone_bits here) (zone_bits (low_part here v at)) now small
    (zone_bits_grow (low_part here v at) here (split_shrinks_lem.low here v at split proper).1)
    (λ late. middle_takes_a_bit_lem.low here v at split (timely late))))
    (part High (high_part here v at)
    (part_is_shallow (most_digits p.limits) (length path) (zone_bits here) (zone_bits (high_part here v at)) now small
    (zone_bits_grow (high_part here v at) here (split_shrinks_lem.high here v at split proper).1)
    (λ late. middle_takes_a_bit_lem.high here v at split (timely late)))))
  where
    part : (side : Side) (zone : List Span) → length path + 1 + zone_bits zone ≤ greatest_depth p.limits
        → All (IsShallow p.limits) (leaves_below (live proof bound) (path ++ side ∷ []) zone)
    part side zone l =
        All-one (IsShallow p.limits) (record { path = path ++ side ∷ []; zone = zone; proof = proof; bound = Some bound })
        (omega (arith, l, length-append path (side ∷ [])))

-- a leaf's depth alone
depth_of_shallow : (limits : Limits) (depth : ℕ) (zone : List Span) (bound : Option ℤ) → KeepsDepth limits depth zone bound
    → depth ≤ greatest_depth limits
depth_of_shallow limits depth zone None h = h
depth_of_shallow limits depth zone (Some bound) h = omega (arith, h)

-- the depth of a tree is that of its deepest leaf
depth_by_leaves : (t : GrowingTree) (path : List Side) (zone : List Span) (most : ℕ)
    → AllByRecursion (λ (leaf : GrowingLeaf). length leaf.path ≤ most) (leaves_below t path zone)
    → length path + depth (certificate_tree t) ≤ most
depth_by_leaves (live proof bound) path zone most all = omega (arith, all.0)
depth_by_leaves (shut proof) path zone most all = omega (arith, all.0)
depth_by_leaves (fork v at low high) path zone most all =
    let parts = recursion_parts (λ (leaf : GrowingLeaf). length leaf.path ≤ most) (leaves_below low (path ++ Low ∷ []) (low_part zone v at))
    (leaves_below high (path ++ High ∷ []) (high_part zone v at)) all in
    omega (
      arith,
      depth_by_leaves low (path ++ Low ∷ []) (low_part zone v at) most parts.0,
      depth_by_leaves high (path ++ High ∷ []) (high_part zone v at) most parts.1,
      length-append path (Low ∷ []),
      length-append path (High ∷ []),
    )

pub stays_shallow_lem : StaysShallow
stays_shallow_lem = record {
  planted = λ p v sized. planted_is_shallow v p plain_proof sized;
  shut = λ p t path leaf proof h all. shut_is_shallow p.limits p.spans t path leaf proof h all;
  forked = forked_is_shallow;
  depth = λ limits t zone all.
      let found : length {A = Side} [] + depth (certificate_tree t) ≤ greatest_depth limits = depth_by_leaves t [] zone (greatest_depth limits)
      (recursion_from_All (λ (leaf : GrowingLeaf). length leaf.path ≤ greatest_depth limits) (growing_leaves t zone)
      (All-weaker (IsShallow limits) (λ (leaf : GrowingLeaf). length leaf.path ≤ greatest_depth limits)
      (λ leaf h. depth_of_shallow limits (length leaf.path) leaf.zone leaf.bound h) (growing_leaves t zone) all)) in
      omega (arith, found);
}
