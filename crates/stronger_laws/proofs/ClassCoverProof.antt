-- The leaves of a tree with class splits have each feasible point, or another of the same cost.
use Rattle.std.proofs.Common.{◌≡◌, ◌≢◌, ◌⊎◌, refl, sym, ap, subst, ◌∙◌, ℕ, zero, suc, ◌+◌, ◌-◌, ◌<◌, ◌≤◌, Bool, true, false, ◌&&◌, List, [], ◌∷◌, ◌++◌, map, length, get_or, Option, arith, length-append, inl, inr, ⊎_elim}
use Rattle.std.proofs.Math.IntN.{ℤ, pos, ◌+ℤ◌}
use Rattle.std.specs.Prelude.{◌≤ℤ◌, ◌<ℤ◌, Any, filter, if◌then◌else◌}
use Rattle.std.specs.Int.{int_min}
use Rattle.std.specs.List.{AllByRecursion, range_with_len}
use Rattle.std.proofs.lemmas.Bool.{cases_lt}
use Rattle.std.proofs.lemmas.Bool.Decides.{eqb_tells}
use Rattle.std.proofs.lemmas.Int.{ints, clamps, by_lt_z}
use Rattle.std.proofs.lemmas.List.{get_or_append_left, get_or-append_right, get_or_past, get_or-map, length-set}
use Rattle.bp_theory.specs.Program.{Program, IsFeasible, IsInside, IsWithin, cost, value_at, span_at}
use Rattle.bp_theory.specs.Blocking.{Block, Blocking, AddsUp, IsFaithful}
use Rattle.bp_theory.specs.Decomposition.{place_of}
use Rattle.bp_theory.specs.Trees.{Leaf, low_part, high_part}
use Rattle.bp_theory.specs.declared.Span.{Span}
use Rattle.bp_theory.specs.declared.Row.{Row}
use Rattle.bp_theory.proofs.ZipLaws.{AllZip-length, AllZip-set, AllZip_from-set, AllZip_at-set}
use Rattle.bp_theory.proofs.CoverProof.{split_var_there, low_part_inside, high_part_inside}
use Rattle.bp_theory.proofs.DecompositionProof.{place_there, var_at_place}
use Rattle.search_laws.specs.Spread.{block_at, HasEachRow}
use Rattle.stronger_laws.specs.Alike.{variables_of, HasDistinctVariables, is_among, stands_alone, is_alike, home, sibling, is_member, class_of, siblings}
use Rattle.stronger_laws.specs.ClassTrees.{shut_leaf, open_leaf, split, class_split, capped, all_capped, class_low_part, IsSoundClassSplit, class_leaves}
use Rattle.stronger_laws.specs.Laws.{ClassSplitCovers, ClassCover}
use Rattle.stronger_laws.proofs.SwapProof.{and_true, alike_tells, partner, swapped_at}
use Rattle.stronger_laws.proofs.SwapPointProof.{CanSwap, after_swap, partners_there, cost_stays, zone_stays, swap_is_feasible, within_anywhere}

-- ---- capped zones

capped_inside : (zone : List Span) (v : ℕ) (at : ℤ) (x : List ℤ) → IsInside zone x → value_at x v ≤ℤ at → IsInside (capped zone v at) x
capped_inside zone v at x inside l =
    let here = within_anywhere zone x inside v in
    AllZip-set IsWithin zone x inside v (record { lo = (span_at zone v).lo; hi = int_min (span_at zone v).hi at }) (pos 0)
    (record { above = here.above; below = both (value_at x v) (span_at zone v).hi at here.below l })
  where
    both : (y h a : ℤ) → y ≤ℤ h → y ≤ℤ a → y ≤ℤ int_min h a
    both y h a l m = omega (arith, ints, clamps, l, m)

capped_back : (zone : List Span) (v : ℕ) (at : ℤ) (x : List ℤ) → IsInside (capped zone v at) x → IsInside zone x
capped_back zone v at x inside =
    let part : Span = record { lo = (span_at zone v).lo; hi = int_min (span_at zone v).hi at } in
    let none : Span = record { lo = pos 0; hi = pos 0 } in
    AllZip_from-set IsWithin zone x v part inside none (pos 0)
    (⊎_elim
    (λ l.
    let here = AllZip_at-set IsWithin zone x v part inside l (pos 0) in
    record { above = here.above; below = lower (value_at x v) (span_at zone v).hi at here.below })
    (λ past.
    subst (λ (s : Span). IsWithin s (value_at x v)) (sym (get_or_past zone v none past))
    (subst (λ z. IsWithin none z)
    (sym (get_or_past x v (pos 0) (omega (arith, past, AllZip-length IsWithin (capped zone v at) x inside, length-set zone v part))))
    (record { above = omega (arith, ints); below = omega (arith, ints) })))
    (cases_lt v (length zone)))
  where
    lower : (y h a : ℤ) → y ≤ℤ int_min h a → y ≤ℤ h
    lower y h a l = omega (arith, ints, clamps, l)

all_capped_inside : (vs : List ℕ) (zone : List Span) (at : ℤ) (x : List ℤ) → IsInside zone x → AllByRecursion (λ v. value_at x v ≤ℤ at) vs
    → IsInside (all_capped zone vs at) x
all_capped_inside [] zone at x inside h = inside
all_capped_inside (v ∷ vs) zone at x inside h = all_capped_inside vs (capped zone v at) at x (capped_inside zone v at x inside h.0) h.1

pub all_capped_back : (vs : List ℕ) (zone : List Span) (at : ℤ) (x : List ℤ) → IsInside (all_capped zone vs at) x → IsInside zone x
all_capped_back [] zone at x inside = inside
all_capped_back (v ∷ vs) zone at x inside = capped_back zone v at x (all_capped_back vs (capped zone v at) at x inside)

high_inside : (zone : List Span) (v : ℕ) (at : ℤ) (x : List ℤ) → IsInside zone x → at <ℤ value_at x v → IsInside (high_part zone v at) x
high_inside zone v at x inside more =
    let here = within_anywhere zone x inside v in
    AllZip-set IsWithin zone x inside v (record { lo = at +ℤ pos 1; hi = (span_at zone v).hi }) (pos 0)
    (record { above = omega (arith, ints, more); below = here.below })

low_inside : (zone : List Span) (v : ℕ) (at : ℤ) (x : List ℤ) → IsInside zone x → value_at x v ≤ℤ at → IsInside (low_part zone v at) x
low_inside zone v at x inside less =
    let here = within_anywhere zone x inside v in
    AllZip-set IsWithin zone x inside v (record { lo = (span_at zone v).lo; hi = at }) (pos 0) (record { above = here.above; below = less })

-- ---- a sibling above the number

-- a block of the class, and that its sibling is above
pub record IsAbove (b : Blocking) (zone : List Span) (v : ℕ) (at : ℤ) (x : List ℤ) (k : ℕ) : Type 0 where
  pub there : k < length b.blocks
  pub member : is_member b zone v k ≡ true
  pub above : at <ℤ value_at x (sibling b v k)

pub members_there : (q : ℕ → Bool) (n a m : ℕ) → a + m ≤ n → AllByRecursion (λ k. (k < n) × (q k ≡ true)) (filter q (range_with_len a m))
members_there q n a zero l = tt
members_there q n a (suc m) l = by (q a) refl (members_there q n (a + 1) m (omega (arith, l)))
  where
    by : (t : Bool) → q a ≡ t → AllByRecursion (λ k. (k < n) × (q k ≡ true)) (filter q (range_with_len (a + 1) m))
        → AllByRecursion (λ k. (k < n) × (q k ≡ true)) (if t then a ∷ filter q (range_with_len (a + 1) m) else filter q (range_with_len (a + 1) m))
    by true e rest = ((omega (arith, l), e), rest)
    by false e rest = rest

-- no sibling is above, or some is
find_above : (b : Blocking) (zone : List Span) (v : ℕ) (at : ℤ) (x : List ℤ) (ks : List ℕ)
    → AllByRecursion (λ k. (k < length b.blocks) × (is_member b zone v k ≡ true)) ks
    → AllByRecursion (λ u. value_at x u ≤ℤ at) (map (sibling b v) ks) ⊎ ((k : ℕ) × IsAbove b zone v at x k)
find_above b zone v at x [] all = inl tt
find_above b zone v at x (k ∷ ks) all =
    by_lt_z at (value_at x (sibling b v k))
    (λ more. inr (k, record { there = all.0.0; member = all.0.1; above = more }))
    (λ less. ⊎_elim (λ none. inl (less, none)) (λ found. inr found) (find_above b zone v at x ks all.1))

-- a block that has a variable is there
home_there : (b : Blocking) (v h : ℕ) → is_among v (variables_of (block_at b h)) ≡ true → h < length b.blocks
home_there b v h has = ⊎_elim
    (λ l. l)
    (λ past. absurd (nothing (sym (ap (λ (k : Block). is_among v (variables_of k)) (get_or_past b.blocks h (record { copies = []; rows = [] }) past)) ∙ has)))
    (cases_lt h (length b.blocks))
  where
    nothing : false ≡ true → ⊥
    nothing e = cc

-- the blocks of a variable and of a sibling can change their numbers
can_swap : (b : Blocking) (zone : List Span) (v k : ℕ) → HasDistinctVariables b → is_among v (variables_of (block_at b (home b v))) ≡ true
    → k < length b.blocks → is_member b zone v k ≡ true → k ≢ home b v → CanSwap b zone (home b v) k
can_swap b zone v k distinct has there member other =
    let h : ℕ = home b v in
    let first = and_true (stands_alone b h) (stands_alone b k && is_alike zone (block_at b h) (block_at b k)) member in
    let second = and_true (stands_alone b k) (is_alike zone (block_at b h) (block_at b k)) first.1 in
    record {
      first = home_there b v h has;
      second = there;
      others = other;
      alone_first = first.0;
      alone_second = second.0;
      alike = alike_tells zone (block_at b h) (block_at b k) second.1;
      distinct = distinct;
    }

-- the partner of a variable is its sibling
partner_is_sibling : (b : Blocking) (zone : List Span) (v k : ℕ) → is_among v (variables_of (block_at b (home b v))) ≡ true
    → CanSwap b zone (home b v) k
    → partner (variables_of (block_at b (home b v))) (variables_of (block_at b k)) v ≡ sibling b v k
partner_is_sibling b zone v k has can =
    let us : List ℕ = variables_of (block_at b (home b v)) in
    let ws : List ℕ = variables_of (block_at b k) in
    let i : ℕ = place_of us v in
    ap (partner us ws) (sym (var_at_place us v has 0))
    ∙ sym (get_or-map (partner us ws) us i 0 0 (place_there us v has))
    ∙ ap (λ (vs : List ℕ). get_or vs i 0) (partners_there b zone (home b v) k can)

above_by : (p : Program) (rows : List (Option Row)) (b : Blocking) (zone : List Span) (v : ℕ) (at : ℤ) (x : List ℤ) (k : ℕ)
    → IsFaithful p b → AddsUp p rows b → HasEachRow p rows b → HasDistinctVariables b
    → ((y : List ℤ) → IsInside zone y → IsInside p.spans y)
    → IsSoundClassSplit b zone v at → IsFeasible p x → IsInside zone x → IsAbove b zone v at x k
    → (y : List ℤ) × IsFeasible p y × (cost p y ≡ cost p x) × IsInside (high_part zone v at) y
above_by p rows b zone v at x k faithful adds has distinct inner sound feasible inside found = ⊎_elim
    (λ same.
    let itself : sibling b v k ≡ v = ap (sibling b v) same.1 ∙ var_at_place (variables_of (block_at b (home b v))) v sound.copied 0 in
    (x, feasible, refl, high_inside zone v at x inside (subst (λ u. at <ℤ value_at x u) itself found.above)))
    (λ other.
    let can = can_swap b zone v k distinct sound.copied found.there found.member other.1 in
    let y : List ℤ = after_swap b (home b v) k x in
    let there : v < length x = omega (arith, split_var_there zone v at sound.sound, AllZip-length IsWithin zone x inside) in
    let number : value_at y v ≡ value_at x (sibling b v k) =
    swapped_at (variables_of (block_at b (home b v))) (variables_of (block_at b k)) x v (pos 0) there
    ∙ ap (value_at x) (partner_is_sibling b zone v k sound.copied can) in (
      y,
      swap_is_feasible p rows b zone (home b v) k x faithful adds has inner can feasible inside,
      cost_stays p rows b zone (home b v) k x faithful adds feasible can,
      high_inside zone v at y (zone_stays b zone (home b v) k x can inside) (subst (λ z. at <ℤ z) (sym number) found.above),
    ))
    (eqb_tells k (home b v))

pub class_split_covers_lem : ClassSplitCovers
class_split_covers_lem p rows b zone v at x faithful adds has distinct inner sound feasible inside = ⊎_elim
    (λ none. inl (all_capped_inside (siblings b zone v) zone at x inside none))
    (λ found. inr (above_by p rows b zone v at x found.0 faithful adds has distinct inner sound feasible inside found.1))
    (find_above b zone v at x (class_of b zone v) (members_there (is_member b zone v) (length b.blocks) 0 (length b.blocks) (omega arith)))

-- ---- trees

any_left : {X : Type 0} (P : X → Type 0) (xs ys : List X) → Any P xs → Any P (xs ++ ys)
any_left P xs ys h = (h.0, h.1, omega (arith, h.2, length-append xs ys), get_or_append_left xs ys h.1 h.0 h.2 ∙ h.3, h.4)

any_right : {X : Type 0} (P : X → Type 0) (xs ys : List X) → Any P ys → Any P (xs ++ ys)
any_right P xs ys h = (
  length xs + h.0,
  h.1,
  omega (arith, h.2, length-append xs ys),
  get_or-append_right xs ys (length xs) (length xs + h.0) h.1 refl (omega arith) ∙ ap (λ k. get_or ys k h.1) (back (length xs) h.0) ∙ h.3,
  h.4,
)
  where
    back : (n k : ℕ) → n + k - n ≡ k
    back n k = omega arith

-- a point of a zone, or another of the same cost, in a leaf
abbrev pub IsFound : Program → List ℤ → List Leaf → Type 0
IsFound p x found = (y : List ℤ) × IsFeasible p y × (cost p y ≡ cost p x) × Any (λ leaf. IsInside leaf.zone y) found

found_left : (p : Program) (x : List ℤ) (first second : List Leaf) → IsFound p x first → IsFound p x (first ++ second)
found_left p x first second h = (h.0, h.1, h.2, any_left (λ leaf. IsInside leaf.zone h.0) first second h.3)

found_right : (p : Program) (x : List ℤ) (first second : List Leaf) → IsFound p x second → IsFound p x (first ++ second)
found_right p x first second h = (h.0, h.1, h.2, any_right (λ leaf. IsInside leaf.zone h.0) first second h.3)

found_for : (p : Program) (x y : List ℤ) (found : List Leaf) → cost p y ≡ cost p x → IsFound p y found → IsFound p x found
found_for p x y found e h = (h.0, h.1, h.2 ∙ e, h.3)

one_leaf : (p : Program) (x : List ℤ) (leaf : Leaf) → IsFeasible p x → IsInside leaf.zone x → IsFound p x (leaf ∷ [])
one_leaf p x leaf feasible inside = (x, feasible, refl, (0, leaf, omega arith, refl, inside))

pub class_cover_lem : ClassCover
class_cover_lem p rows b (shut_leaf proof) zone x faithful adds has distinct inner sound feasible inside =
    one_leaf p x (record { zone = zone; proof = proof; is_open = false }) feasible inside
class_cover_lem p rows b (open_leaf proof) zone x faithful adds has distinct inner sound feasible inside =
    one_leaf p x (record { zone = zone; proof = proof; is_open = true }) feasible inside
class_cover_lem p rows b (split v at low high) zone x faithful adds has distinct inner sound feasible inside =
    by_lt_z at (value_at x v)
    (λ more. found_right p x (class_leaves b low (low_part zone v at)) (class_leaves b high (high_part zone v at))
    (class_cover_lem p rows b high (high_part zone v at) x faithful adds has distinct
    (λ y h. inner y (high_part_inside zone v at y sound.0 h)) sound.2 feasible (high_inside zone v at x inside more)))
    (λ less. found_left p x (class_leaves b low (low_part zone v at)) (class_leaves b high (high_part zone v at))
    (class_cover_lem p rows b low (low_part zone v at) x faithful adds has distinct
    (λ y h. inner y (low_part_inside zone v at y sound.0 h)) sound.1 feasible (low_inside zone v at x inside less)))
class_cover_lem p rows b (class_split v at low high) zone x faithful adds has distinct inner sound feasible inside = ⊎_elim
    (λ stays. found_left p x (class_leaves b low (class_low_part b zone v at)) (class_leaves b high (high_part zone v at))
    (class_cover_lem p rows b low (class_low_part b zone v at) x faithful adds has distinct
    (λ y h. inner y (all_capped_back (siblings b zone v) zone at y h)) sound.1 feasible stays))
    (λ moved. found_right p x (class_leaves b low (class_low_part b zone v at)) (class_leaves b high (high_part zone v at))
    (found_for p x moved.0 (class_leaves b high (high_part zone v at)) moved.2
    (class_cover_lem p rows b high (high_part zone v at) moved.0 faithful adds has distinct
    (λ y h. inner y (high_part_inside zone v at y sound.0.sound h)) sound.2 moved.1 moved.3)))
    (class_split_covers_lem p rows b zone v at x faithful adds has distinct inner sound.0 feasible inside)
