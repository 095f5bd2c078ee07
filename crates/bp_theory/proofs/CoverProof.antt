-- The leaves of a tree cover the root zone, without overlap.
use Rattle.std.proofs.Common.{◌≡◌, refl, sym, ap, subst, ◌∙◌, ℕ, zero, suc, ◌+◌, ◌-◌, ◌<◌, ◌≤◌, true, false, List, [], ◌∷◌, ◌++◌, length, get_or, arith, length-append, ⊎_elim}
use Rattle.std.proofs.Math.IntN.{ℤ, pos, ◌+ℤ◌}
use Rattle.std.specs.Prelude.{◌≤ℤ◌, ◌<ℤ◌}
use Rattle.std.proofs.lemmas.Bool.{cases_lt}
use Rattle.std.proofs.lemmas.Int.{ints, by_lt_z}
use Rattle.std.proofs.lemmas.List.{get_or_append_left, get_or-append_right, get_or_past}
use Rattle.bp_theory.specs.Program.{IsWithin, IsInside, span_at, value_at}
use Rattle.bp_theory.specs.Trees.{Tree, shut_leaf, open_leaf, split, Leaf, leaves, low_part, high_part, IsSoundSplit, HasSoundSplits, HoldsOnce}
use Rattle.bp_theory.specs.Laws.{Cover}
use Rattle.bp_theory.specs.declared.Span.{Span}
use Rattle.bp_theory.proofs.ZipLaws.{AllZip_at, AllZip-set, AllZip_from-set, AllZip_at-set}

-- a fact at exactly one place of a list of one
pub HoldsOnce-one : {X : Type 0} (P : X → Type 0) (x : X) → P x → HoldsOnce P (x ∷ [])
HoldsOnce-one P x h = record {
  place = 0;
  there = omega arith;
  holds = λ d. h;
  only = λ k d l _. omega arith;
}

-- a fact at exactly one place of the first list and at none of the second
pub HoldsOnce-append_left : {X : Type 0} (P : X → Type 0) (xs ys : List X) → HoldsOnce P xs
    → ((k : ℕ) (d : X) → k < length ys → P (get_or ys k d) → ⊥) → HoldsOnce P (xs ++ ys)
HoldsOnce-append_left P xs ys once none = record {
  place = once.place;
  there = omega (arith, once.there, length-append xs ys);
  holds = λ d. subst P (sym (get_or_append_left xs ys d once.place once.there)) (once.holds d);
  only = λ k d l h. ⊎_elim
      (λ low. once.only k d low (subst P (get_or_append_left xs ys d k low) h))
      (λ high. absurd (none (k - length xs) d (omega (arith, l, high, length-append xs ys))
      (subst P (get_or-append_right xs ys (length xs) k d refl high) h)))
      (cases_lt k (length xs));
}

-- a fact at no place of the first list and at exactly one of the second
pub HoldsOnce-append_right : {X : Type 0} (P : X → Type 0) (xs ys : List X) → HoldsOnce P ys
    → ((k : ℕ) (d : X) → k < length xs → P (get_or xs k d) → ⊥) → HoldsOnce P (xs ++ ys)
HoldsOnce-append_right P xs ys once none = record {
  place = length xs + once.place;
  there = omega (arith, once.there, length-append xs ys);
  holds = λ d. subst P (sym (get_or-append_right xs ys (length xs) (length xs + once.place) d refl (omega arith)
      ∙ ap (λ k. get_or ys k d) (back (length xs) once.place))) (once.holds d);
  only = λ k d l h. ⊎_elim
      (λ low. absurd (none k d low (subst P (get_or_append_left xs ys d k low) h)))
      (λ high. forth (length xs) k once.place high (once.only (k - length xs) d (omega (arith, l, high, length-append xs ys))
      (subst P (get_or-append_right xs ys (length xs) k d refl high) h)))
      (cases_lt k (length xs));
}
  where
    back : (n k : ℕ) → n + k - n ≡ k
    back n k = omega arith

    forth : (n k m : ℕ) → n ≤ k → k - n ≡ m → k ≡ n + m
    forth n k m h e = omega arith

-- a sound split is at a variable of the zone
pub split_var_there : (zone : List Span) (v : ℕ) (at : ℤ) → IsSoundSplit zone v at → v < length zone
split_var_there zone v at sound = ⊎_elim
    (λ l. l)
    (λ past. absurd (nothing (span_at zone v) (get_or_past zone v (record { lo = pos 0; hi = pos 0 }) past) sound.above sound.below))
    (cases_lt v (length zone))
  where
    nothing : (s : Span) → s ≡ record { lo = pos 0; hi = pos 0 } → s.lo ≤ℤ at → at <ℤ s.hi → ⊥
    nothing s e a b = omega (arith, ints, a, b, ap (λ t. t.lo) e, ap (λ t. t.hi) e)

-- a point of the low part lies in the zone
pub low_part_inside : (zone : List Span) (v : ℕ) (at : ℤ) (x : List ℤ) → IsSoundSplit zone v at
    → IsInside (low_part zone v at) x → IsInside zone x
low_part_inside zone v at x sound inside =
    let here = AllZip_at-set IsWithin zone x v (record { lo = (span_at zone v).lo; hi = at }) inside (split_var_there zone v at sound) (pos 0) in
    AllZip_from-set IsWithin zone x v (record { lo = (span_at zone v).lo; hi = at }) inside (record { lo = pos 0; hi = pos 0 }) (pos 0)
    (record { above = here.above; below = omega (arith, ints, here.below, sound.below) })

-- a point of the high part lies in the zone
pub high_part_inside : (zone : List Span) (v : ℕ) (at : ℤ) (x : List ℤ) → IsSoundSplit zone v at
    → IsInside (high_part zone v at) x → IsInside zone x
high_part_inside zone v at x sound inside =
    let here = AllZip_at-set IsWithin zone x v (record { lo = at +ℤ pos 1; hi = (span_at zone v).hi }) inside (split_var_there zone v at sound) (pos 0) in
    AllZip_from-set IsWithin zone x v (record { lo = at +ℤ pos 1; hi = (span_at zone v).hi }) inside (record { lo = pos 0; hi = pos 0 }) (pos 0)
    (record { above = omega (arith, ints, here.above, sound.above); below = here.below })

-- a point of a leaf lies in the root zone
pub leaf_inside : (t : Tree) (zone : List Span) (x : List ℤ) → HasSoundSplits t zone
    → (k : ℕ) (d : Leaf) → k < length (leaves t zone) → IsInside (get_or (leaves t zone) k d).zone x → IsInside zone x
leaf_inside (shut_leaf proof) zone x sound zero d l inside = inside
leaf_inside (shut_leaf proof) zone x sound (suc k) d l inside = absurd (omega arith)
leaf_inside (open_leaf proof) zone x sound zero d l inside = inside
leaf_inside (open_leaf proof) zone x sound (suc k) d l inside = absurd (omega arith)
leaf_inside (split v at low high) zone x sound k d l inside =
    let P : Leaf → Type 0 = λ leaf. IsInside leaf.zone x in
    let first : List Leaf = leaves low (low_part zone v at) in
    let second : List Leaf = leaves high (high_part zone v at) in
    ⊎_elim
    (λ before. low_part_inside zone v at x sound.0
    (leaf_inside low (low_part zone v at) x sound.1 k d before
    (subst P (get_or_append_left first second d k before) inside)))
    (λ behind. high_part_inside zone v at x sound.0
    (leaf_inside high (high_part zone v at) x sound.2 (k - length first) d (omega (arith, l, behind, length-append first second))
    (subst P (get_or-append_right first second (length first) k d refl behind) inside)))
    (cases_lt k (length first))

pub cover_lem : Cover
cover_lem (shut_leaf proof) zone x sound inside = HoldsOnce-one (λ leaf. IsInside leaf.zone x) (record { zone = zone; proof = proof; is_open = false }) inside
cover_lem (open_leaf proof) zone x sound inside = HoldsOnce-one (λ leaf. IsInside leaf.zone x) (record { zone = zone; proof = proof; is_open = true }) inside
cover_lem (split v at low high) zone x sound inside =
    let there : v < length zone = split_var_there zone v at sound.0 in
    let here = AllZip_at IsWithin zone x inside v (record { lo = pos 0; hi = pos 0 }) (pos 0) there in
    let below : Span = record { lo = (span_at zone v).lo; hi = at } in
    let above : Span = record { lo = at +ℤ pos 1; hi = (span_at zone v).hi } in
    by_lt_z at (value_at x v)
    (λ more. HoldsOnce-append_right (λ leaf. IsInside leaf.zone x) (leaves low (low_part zone v at)) (leaves high (high_part zone v at))
    (cover_lem high (high_part zone v at) x sound.2
    (AllZip-set IsWithin zone x inside v above (pos 0) (record { above = omega (arith, ints, more); below = here.below })))
    (λ k d l h. less_not_more v at x more
    (AllZip_at-set IsWithin zone x v below (leaf_inside low (low_part zone v at) x sound.1 k d l h) there (pos 0)).below))
    (λ less. HoldsOnce-append_left (λ leaf. IsInside leaf.zone x) (leaves low (low_part zone v at)) (leaves high (high_part zone v at))
    (cover_lem low (low_part zone v at) x sound.1
    (AllZip-set IsWithin zone x inside v below (pos 0) (record { above = here.above; below = less })))
    (λ k d l h. more_not_less v at x less
    (AllZip_at-set IsWithin zone x v above (leaf_inside high (high_part zone v at) x sound.2 k d l h) there (pos 0)).above))
  where
    less_not_more : (v : ℕ) (at : ℤ) (x : List ℤ) → at <ℤ value_at x v → value_at x v ≤ℤ at → ⊥
    less_not_more v at x a b = omega (arith, ints)

    more_not_less : (v : ℕ) (at : ℤ) (x : List ℤ) → value_at x v ≤ℤ at → (at +ℤ pos 1) ≤ℤ value_at x v → ⊥
    more_not_less v at x a b = omega (arith, ints)
