-- A bound is one number or endless, and it doesn't fall in a smaller zone.
use Rattle.std.proofs.Common.{◌≡◌, refl, sym, ap, subst, ◌∙◌, ℕ, zero, suc, ◌+◌, ◌<◌, Bool, true, false, List, [], ◌∷◌, map, length, get_or, arith, inl, inr, ⊎_elim}
use Rattle.std.proofs.Math.IntN.{ℤ, pos, ◌+ℤ◌}
use Rattle.std.specs.Prelude.{◌≤ℤ◌, ◌⊎◌, if◌then◌else◌}
use Rattle.std.proofs.lemmas.Bool.{cases_lt}
use Rattle.std.proofs.lemmas.Int.{ints}
use Rattle.std.proofs.lemmas.List.{get_or_past}
use Rattle.std.proofs.lemmas.List.Elements.{All-nil}
use Rattle.bp_theory.specs.Sums.{sum_of}
use Rattle.bp_theory.specs.Program.{IsInside, MeetsRow, span_at}
use Rattle.bp_theory.specs.Blocking.{Copy, Block, Blocking}
use Rattle.bp_theory.specs.Bound.{spans_of, IsPoint, is_picked, priced_rows, reduced_cost, IsPart, AreParts, base, IsBound, IsEndless}
use Rattle.bp_theory.specs.Trees.{IsSubspan, IsSubzone, IsProper}
use Rattle.bp_theory.specs.Claims.{Holds, Empties}
use Rattle.bp_theory.specs.Laws.{OneBound, Shrink}
use Rattle.bp_theory.specs.declared.Span.{Span}
use Rattle.bp_theory.specs.declared.Row.{Row}
use Rattle.bp_theory.specs.declared.Picked.{Picked}
use Rattle.bp_theory.specs.declared.Proof.{Proof}
use Rattle.bp_theory.proofs.LeastLaws.{least_or_none}

-- ---- smaller zones

-- the span of each variable is smaller
pub subspan_at : (small large : List Span) → IsSubzone small large → (v : ℕ) → IsSubspan (span_at small v) (span_at large v)
subspan_at [] [] sub v = record { above = omega (arith, ints); below = omega (arith, ints) }
subspan_at [] (t ∷ ts) sub v = absurd sub
subspan_at (s ∷ ss) [] sub v = absurd sub
subspan_at (s ∷ ss) (t ∷ ts) sub zero = sub.0
subspan_at (s ∷ ss) (t ∷ ts) sub (suc v) = subspan_at ss ts sub.1 v

-- numbers inside the small zone's spans are inside the large one's
inside_larger : (small large : List Span) → IsSubzone small large → (cs : List Copy) (y : List ℤ)
    → IsInside (map (λ c. span_at small c.var) cs) y → IsInside (map (λ c. span_at large c.var) cs) y
inside_larger small large sub [] [] inside = tt
inside_larger small large sub [] (v ∷ ys) inside = absurd inside
inside_larger small large sub (c ∷ cs) [] inside = absurd inside
inside_larger small large sub (c ∷ cs) (v ∷ ys) inside =
    let s = subspan_at small large sub c.var in (
      record { above = omega (arith, ints, s.above, inside.0.above); below = omega (arith, ints, s.below, inside.0.below) },
      inside_larger small large sub cs ys inside.1,
    )

-- a point of a block in the small zone is one in the large zone
pub IsPoint-larger : (small large : List Span) → IsSubzone small large → (rows : List Row) (b : Block) (y : List ℤ)
    → IsPoint rows (spans_of small b) y → IsPoint rows (spans_of large b) y
IsPoint-larger small large sub rows b y h = record { inside = inside_larger small large sub b.copies y h.inside; meets = h.meets }

-- the parts don't fall
parts_grow : (small large : List Span) → IsSubzone small large → (proof : Proof) (k : ℕ) (bs : List Block) (vs ws : List ℤ)
    → AreParts large proof k bs vs → AreParts small proof k bs ws → sum_of (λ z. z) vs ≤ℤ sum_of (λ z. z) ws
parts_grow small large sub proof k [] [] [] h g = omega (arith, ints)
parts_grow small large sub proof k [] [] (w ∷ ws) h g = absurd g
parts_grow small large sub proof k [] (v ∷ vs) ws h g = absurd h
parts_grow small large sub proof k (b ∷ bs) [] ws h g = absurd h
parts_grow small large sub proof k (b ∷ bs) (v ∷ vs) [] h g = absurd g
parts_grow small large sub proof k (b ∷ bs) (v ∷ vs) (w ∷ ws) h g =
    let here = h.0.least g.0.point (IsPoint-larger small large sub (priced_rows proof.picked k b) b g.0.point g.0.is_point) in
    omega (arith, ints, here, g.0.reached, parts_grow small large sub proof (suc k) bs vs ws h.1 g.1)

bound_grows : (b : Blocking) (small large : List Span) (proof : Proof) (v w : ℤ) → IsSubzone small large
    → IsBound b large proof v → IsBound b small proof w → v ≤ℤ w
bound_grows b small large proof v w sub h g =
    omega (arith, ints, h.total, g.total, parts_grow small large sub proof 0 b.blocks h.parts g.parts h.are_parts g.are_parts)

stays_endless : (b : Blocking) (small large : List Span) (proof : Proof) → IsSubzone small large
    → IsEndless b large proof → IsEndless b small proof
stays_endless b small large proof sub h = record {
  block = h.block;
  there = h.there;
  picked = h.picked;
  none = λ d y p. h.none d y (IsPoint-larger small large sub (get_or b.blocks h.block d).rows (get_or b.blocks h.block d) y p);
}

-- ---- one bound

IsSubspan_refl : (zone : List Span) → IsSubzone zone zone
IsSubspan_refl [] = tt
IsSubspan_refl (s ∷ ss) = (record { above = omega (arith, ints); below = omega (arith, ints) }, IsSubspan_refl ss)

one_value : (b : Blocking) (zone : List Span) (proof : Proof) (v w : ℤ) → IsBound b zone proof v → IsBound b zone proof w → v ≡ w
one_value b zone proof v w h g =
    omega (arith, ints, bound_grows b zone zone proof v w (IsSubspan_refl zone) h g, bound_grows b zone zone proof w v (IsSubspan_refl zone) g h)

-- the part of a block at a place
pub part_at : (zone : List Span) (proof : Proof) (k : ℕ) (bs : List Block) (vs : List ℤ) → AreParts zone proof k bs vs
    → (j : ℕ) (d : Block) → j < length bs → IsPart zone proof (k + j) (get_or bs j d) (get_or vs j (pos 0))
part_at zone proof k [] [] h j d l = absurd (omega arith)
part_at zone proof k [] (v ∷ vs) h j d l = absurd h
part_at zone proof k (b ∷ bs) [] h j d l = absurd h
part_at zone proof k (b ∷ bs) (v ∷ vs) h zero d l =
    let e : k ≡ k + 0 = omega arith in subst (λ n. IsPart zone proof n b v) e h.0
part_at zone proof k (b ∷ bs) (v ∷ vs) h (suc j) d l =
    let e : suc k + j ≡ k + suc j = omega arith in
    subst (λ n. IsPart zone proof n (get_or bs j d) (get_or vs j (pos 0))) e (part_at zone proof (suc k) bs vs h.1 j d (omega arith))

-- the rows that are priced at a picked block are its own
priced_rows-picked : (picked : Picked) (k : ℕ) (b : Block) → is_picked picked k ≡ true → priced_rows picked k b ≡ b.rows
priced_rows-picked picked k b e = ap (λ t. if t then b.rows else []) e

priced_rows-other : (picked : Picked) (k : ℕ) (b : Block) → is_picked picked k ≡ false → priced_rows picked k b ≡ []
priced_rows-other picked k b e = ap (λ t. if t then b.rows else []) e

not_both : (b : Blocking) (zone : List Span) (proof : Proof) (v : ℤ) → IsEndless b zone proof → IsBound b zone proof v → ⊥
not_both b zone proof v h g =
    let d : Block = record { copies = []; rows = [] } in
    let part = part_at zone proof 0 b.blocks g.parts g.are_parts h.block d h.there in
    h.none d part.point
    (subst (λ rows. IsPoint rows (spans_of zone (get_or b.blocks h.block d)) part.point)
    (same (get_or b.blocks h.block d)) part.is_point)
  where
    same : (k : Block) → priced_rows proof.picked (0 + h.block) k ≡ k.rows
    same k = let e : 0 + h.block ≡ h.block = omega arith in
        ap (λ n. priced_rows proof.picked n k) e ∙ priced_rows-picked proof.picked h.block k h.picked

-- the lower ends of a proper zone's spans
proper_at : (zone : List Span) → IsProper zone → (v : ℕ) → (span_at zone v).lo ≤ℤ (span_at zone v).hi
proper_at zone proper v = ⊎_elim
    (λ there. proper v (record { lo = pos 0; hi = pos 0 }) there)
    (λ past. subst (λ (s : Span). s.lo ≤ℤ s.hi) (sym (get_or_past zone v (record { lo = pos 0; hi = pos 0 }) past)) (omega (arith, ints)))
    (cases_lt v (length zone))

lower_ends : (zone : List Span) → IsProper zone → (cs : List Copy)
    → IsInside (map (λ c. span_at zone c.var) cs) (map (λ c. (span_at zone c.var).lo) cs)
lower_ends zone proper [] = tt
lower_ends zone proper (c ∷ cs) =
    (record { above = omega (arith, ints); below = proper_at zone proper c.var }, lower_ends zone proper cs)

-- some picked block from number k on has no point
record EndlessFrom (zone : List Span) (proof : Proof) (k : ℕ) (bs : List Block) : Type 0 where
  place : ℕ
  there : place < length bs
  picked : is_picked proof.picked (k + place) ≡ true
  none : (d : Block) (y : List ℤ) → IsPoint (get_or bs place d).rows (spans_of zone (get_or bs place d)) y → ⊥

-- a block has a part, or it is picked and has no point
part_or_none : (zone : List Span) (proof : Proof) → IsProper zone → (k : ℕ) (b : Block)
    → ((is_picked proof.picked k ≡ true) × ((y : List ℤ) → IsPoint b.rows (spans_of zone b) y → ⊥))
    ⊎ ((v : ℤ) × IsPart zone proof k b v)
part_or_none zone proof proper k b = ⊎_elim
    (λ none. inl (by none (is_picked proof.picked k) refl))
    (λ some. inr some)
    (least_or_none (priced_rows proof.picked k b) (spans_of zone b) (map (reduced_cost proof) b.copies))
  where
    by : ((y : List ℤ) → IsPoint (priced_rows proof.picked k b) (spans_of zone b) y → ⊥) → (t : Bool) → is_picked proof.picked k ≡ t
        → (is_picked proof.picked k ≡ true) × ((y : List ℤ) → IsPoint b.rows (spans_of zone b) y → ⊥)
    by none true e = (e, λ y h. none y (subst (λ rows. IsPoint rows (spans_of zone b) y) (sym (priced_rows-picked proof.picked k b e)) h))
    by none false e =
        let y : List ℤ = map (λ c. (span_at zone c.var).lo) b.copies in
        absurd (none y (subst (λ rows. IsPoint rows (spans_of zone b) y) (sym (priced_rows-other proof.picked k b e))
        (record { inside = lower_ends zone proper b.copies; meets = All-nil (MeetsRow y) })))

parts_or_endless : (zone : List Span) (proof : Proof) → IsProper zone → (k : ℕ) (bs : List Block)
    → EndlessFrom zone proof k bs ⊎ ((vs : List ℤ) × AreParts zone proof k bs vs)
parts_or_endless zone proof proper k [] = inr ([], tt)
parts_or_endless zone proof proper k (b ∷ bs) = joined (part_or_none zone proof proper k b) (parts_or_endless zone proof proper (suc k) bs)
  where
    joined : ((is_picked proof.picked k ≡ true) × ((y : List ℤ) → IsPoint b.rows (spans_of zone b) y → ⊥))
        ⊎ ((v : ℤ) × IsPart zone proof k b v)
        → EndlessFrom zone proof (suc k) bs ⊎ ((vs : List ℤ) × AreParts zone proof (suc k) bs vs)
        → EndlessFrom zone proof k (b ∷ bs) ⊎ ((vs : List ℤ) × AreParts zone proof k (b ∷ bs) vs)
    joined (inl none) rest = let e : k ≡ k + 0 = omega arith in inl (record {
      place = 0;
      there = omega arith;
      picked = subst (λ n. is_picked proof.picked n ≡ true) e none.0;
      none = λ d y h. none.1 y h;
    })
    joined (inr some) (inl later) = let e : suc k + later.place ≡ k + suc later.place = omega arith in inl (record {
      place = suc later.place;
      there = omega (arith, later.there);
      picked = subst (λ n. is_picked proof.picked n ≡ true) e later.picked;
      none = λ d y h. later.none d y h;
    })
    joined (inr some) (inr rest) = inr (some.0 ∷ rest.0, (some.1, rest.1))

total : (b : Blocking) (zone : List Span) (proof : Proof) → IsProper zone
    → IsEndless b zone proof ⊎ ((v : ℤ) × IsBound b zone proof v)
total b zone proof proper = ⊎_elim
    (λ endless. let e : 0 + endless.place ≡ endless.place = omega arith in inl (record {
      block = endless.place;
      there = endless.there;
      picked = subst (λ n. is_picked proof.picked n ≡ true) e endless.picked;
      none = endless.none;
    }))
    (λ found. inr (base b proof +ℤ sum_of (λ z. z) found.0, record { parts = found.0; are_parts = found.1; total = refl }))
    (parts_or_endless zone proof proper 0 b.blocks)

pub one_bound_lem : OneBound
one_bound_lem = record { total = total; one = one_value; not_both = not_both }

-- ---- what a proof shows, in a smaller zone

holds_in_smaller : (b : Blocking) (small large : List Span) (proof : Proof) (z : ℤ) → IsProper small → IsSubzone small large
    → Holds b large proof z → Holds b small proof z
holds_in_smaller b small large proof z proper sub (inl endless) = inl (stays_endless b small large proof sub endless)
holds_in_smaller b small large proof z proper sub (inr found) = ⊎_elim
    (λ endless. inl endless)
    (λ new. let grown = bound_grows b small large proof found.0 new.0 sub found.1 new.1 in
    inr (new.0, new.1, omega (arith, ints, grown, found.2)))
    (total b small proof proper)

empties_smaller : (b : Blocking) (small large : List Span) (proof : Proof) → IsProper small → IsSubzone small large
    → Empties b large proof → Empties b small proof
empties_smaller b small large proof proper sub (inl endless) = inl (stays_endless b small large proof sub endless)
empties_smaller b small large proof proper sub (inr found) = ⊎_elim
    (λ endless. inl endless)
    (λ new. let grown = bound_grows b small large proof found.0 new.0 sub found.1 new.1 in
    inr (new.0, new.1, found.2, omega (arith, ints, grown, found.3)))
    (total b small proof proper)

pub shrink_lem : Shrink
shrink_lem = record { endless = stays_endless; no_smaller = bound_grows; holds = holds_in_smaller; empties = empties_smaller }
