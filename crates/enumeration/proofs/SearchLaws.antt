-- Laws of the search: what a value, a level and the end cover.
use Rattle.std.proofs.Common.{◌≡◌, ◌≢◌, refl, sym, ap, subst, ◌∙◌, ℕ, zero, suc, ◌+◌, ◌^◌, ◌<◌, ◌≤◌, Bool, true, false, List, [], ◌∷◌, length, get_or, set, arith, ⊎_elim, inl, inr}
use Rattle.std.proofs.Math.IntN.{ℤ, pos, negsuc, ◌+ℤ◌, ◌-ℤ◌}
use Rattle.std.specs.Prelude.{Option, None, Some, ◌≤ℤ◌, ◌⊎◌, unsigned_abs, All}
use Rattle.std.specs.Int.{w128, int_gap}
use Rattle.std.proofs.lemmas.Int.{ints, fits_signed_from_abs, to_z-of_z, by_lt_z}
use mir.Val.{of_z, to_z}
use Rattle.std.proofs.lemmas.Bool.{cases_eq, cases_lt}
use Rattle.bp_theory.specs.Sums.{dot}
use Rattle.bp_theory.specs.Program.{span_at, value_at, IsWithin, IsInside}
use Rattle.bp_theory.specs.Bound.{IsPoint, box_least}
use Rattle.bp_theory.specs.Classes.{width, count_to}
use Rattle.bp_theory.specs.Trees.{IsSubzone, IsSubspan, IsProper}
use Rattle.bp_theory.specs.declared.Span.{Span}
use Rattle.bp_theory.specs.declared.Row.{Row}
use Rattle.bp_theory.proofs.ZipLaws.{AllZip-length, AllZip_at}
use Rattle.pricing_problem.specs.Form.{HasShortEnds}
use Rattle.enumeration.specs.Reach.{CanMeetRow, IsFixedOrWhole, IsNarrowed, lows_of, IsSingle}
use Rattle.enumeration.specs.Best.{IsCovered, AllCovered, IsNoWorse}
use Rattle.enumeration.specs.Search.{single, step_value, step_of}
use Rattle.enumeration.proofs.ReachLaws.{inside_at, span_at-set, span_at-set_other, inside_set, inside_larger, lows_inside, met_single, box_least-single}
use Rattle.enumeration.proofs.PlaceLaws.{set_inside}

-- a small number that was written
pub written : (z : ℤ) → unsigned_abs z ≤ 2 ^ 123 → to_z w128 (of_z w128 z) ≡ z
written z h = to_z-of_z w128 z (fits_signed_from_abs w128 z (omega (arith, h)))

-- a cost that the best doesn't cover is no worse than the best
pub improves : (best : Option ℤ) (least : ℤ) → (IsCovered best least → ⊥) → IsNoWorse best (Some least)
improves None least n cost h = absurd h
improves (Some best) least n cost h = by_lt_z least best
    (λ less. omega (arith, ints, less, h))
    (λ more. absurd (n more))

-- the one point of a zone of single numbers reaches the zone's least cost
pub single_reached : (rows : List Row) (narrow zone : List Span) (costs : List ℤ) (least : ℤ) → IsSubzone narrow zone → IsSingle narrow
    → All (CanMeetRow narrow) rows → least ≡ box_least narrow costs
    → IsPoint rows zone (lows_of narrow) × (dot costs (lows_of narrow) ≡ least)
single_reached rows narrow zone costs least inside one can is = (
  record {
    inside = inside_larger narrow zone (lows_of narrow) inside (lows_inside narrow one);
    meets = λ k d l. met_single narrow (get_or rows k d) one (can k d l);
  },
  sym (is ∙ box_least-single narrow costs one),
)

-- a zone within another, in which a place has all of its numbers
pub record IsWholeAt (zone : List Span) (var : ℕ) (narrow : List Span) : Type 0 where
  pub inside : IsSubzone narrow zone
  pub whole : span_at narrow var ≡ span_at zone var

-- at the end of the order each span has one number
pub narrowed_single : (zone narrow : List Span) (order : List ℕ) (level : ℕ) → length order ≤ level → IsNarrowed zone order level narrow → IsSingle narrow
narrowed_single zone narrow order level l n k = ⊎_elim
    (λ single. single)
    (λ whole. absurd (omega (arith, l, whole.0.1, whole.0.2)))
    (n.each k)

-- one level more, where the level's variable was whole
pub narrowed_more : (zone narrow : List Span) (order : List ℕ) (level var : ℕ) (v : ℤ) → var < length zone → var ≡ get_or order level 0
    → IsNarrowed zone order level narrow → IsWithin (span_at zone var) v
    → IsNarrowed zone order (level + 1) (set narrow var (single v))
narrowed_more zone narrow order level var v l at n within = record {
  inside = set_inside narrow zone var (single v) n.inside (record { above = within.above; below = within.below });
  each = λ k. by k (cases_eq k var);
}
  where
    there : var < length narrow
    there = omega (arith, l, AllZip-length IsSubspan narrow zone n.inside)

    past : (i : ℕ) → level ≤ i → (i ≡ level → ⊥) → level + 1 ≤ i
    past i m o = ⊎_elim (λ less. omega (arith, less)) (λ more. absurd (o (omega (arith, m, more)))) (cases_lt level i)

    by : (k : ℕ) → (k ≡ var) ⊎ (k ≡ var → ⊥) → IsFixedOrWhole order (level + 1) zone (set narrow var (single v)) k
    by k (inl same) =
        let e : span_at (set narrow var (single v)) k ≡ single v =
        ap (span_at (set narrow var (single v))) same ∙ span_at-set narrow var (single v) there in
        inl (ap (λ (s : Span). s.lo) e ∙ sym (ap (λ (s : Span). s.hi) e))
    by k (inr other) =
        let e : span_at (set narrow var (single v)) k ≡ span_at narrow k = span_at-set_other narrow var k (single v) other in
        ⊎_elim
        (λ one. inl (ap (λ (s : Span). s.lo) e ∙ one ∙ sym (ap (λ (s : Span). s.hi) e)))
        (λ whole. inr (
          (whole.0.0, past whole.0.0 whole.0.1 (λ here. other (sym whole.0.3 ∙ ap (λ j. get_or order j 0) here ∙ sym at)), whole.0.2, whole.0.3),
          e ∙ whole.1,
        ))
        (n.each k)

-- one level more, where the level's variable wasn't
pub narrowed_past : (zone narrow : List Span) (order : List ℕ) (level var : ℕ) → var ≡ get_or order level 0 → (span_at narrow var ≡ span_at zone var → ⊥)
    → IsNarrowed zone order level narrow → IsNarrowed zone order (level + 1) narrow
narrowed_past zone narrow order level var at changed n = record { inside = n.inside; each = λ k. by k (n.each k) }
  where
    past : (i : ℕ) → level ≤ i → (i ≡ level → ⊥) → level + 1 ≤ i
    past i m o = ⊎_elim (λ less. omega (arith, less)) (λ more. absurd (o (omega (arith, m, more)))) (cases_lt level i)

    by : (k : ℕ) → IsFixedOrWhole order level zone narrow k → IsFixedOrWhole order (level + 1) zone narrow k
    by k (inl one) = inl one
    by k (inr whole) = inr (
      (
        whole.0.0,
        past whole.0.0 whole.0.1 (λ here. changed (subst (λ j. span_at narrow j ≡ span_at zone j) (sym whole.0.3 ∙ ap (λ j. get_or order j 0) here ∙ sym at) whole.1)),
        whole.0.2,
        whole.0.3,
      ),
      whole.1,
    )

-- a place written twice
pub set_twice : (zone : List Span) (j : ℕ) (s t : Span) → set (set zone j s) j t ≡ set zone j t
set_twice [] j s t = refl
set_twice (u ∷ us) zero s t = refl
set_twice (u ∷ us) (suc j) s t = ap (λ zs. u ∷ zs) (set_twice us j s t)

-- a place written with what it has
pub set_back : (zone : List Span) (j : ℕ) → set zone j (span_at zone j) ≡ zone
set_back [] j = refl
set_back (u ∷ us) zero = refl
set_back (u ∷ us) (suc j) = ap (λ zs. u ∷ zs) (set_back us j)

-- the zone in which a level has its whole span again
pub whole_again : (zone narrow moved : List Span) (level : ℕ) → IsWholeAt zone level narrow → moved ≡ set narrow level (span_at moved level)
    → set moved level (span_at zone level) ≡ narrow
whole_again zone narrow moved level n is =
    ap (λ (zs : List Span). set zs level (span_at zone level)) is
    ∙ set_twice narrow level (span_at moved level) (span_at zone level)
    ∙ ap (set narrow level) (sym n.whole)
    ∙ set_back narrow level

-- the zone of a value, from where the search stands
pub value_zone : (narrow moved new : List Span) (level : ℕ) (v : ℤ) → moved ≡ set narrow level (span_at moved level) → new ≡ set moved level (single v)
    → new ≡ set narrow level (single v)
value_zone narrow moved new level v is e =
    e ∙ ap (λ (zs : List Span). set zs level (single v)) is ∙ set_twice narrow level (span_at moved level) (single v)

-- and it keeps the form of a moved zone
pub moved_form : (narrow new : List Span) (level : ℕ) (v : ℤ) → level < length narrow → new ≡ set narrow level (single v)
    → new ≡ set narrow level (span_at new level)
moved_form narrow new level v l e =
    e ∙ ap (set narrow level) (sym (ap (λ (zs : List Span). span_at zs level) e ∙ span_at-set narrow level (single v) l))

-- how far a number is above another
pub gap_is : (a b : ℤ) → a ≤ℤ b → pos (int_gap a b) ≡ b -ℤ a
gap_is a b h = grind (arith, ints)

-- a number of a span is that of its step
pub value_of_step : (up : Bool) (s : Span) (v : ℤ) → IsWithin s v → v ≡ step_value up s (step_of up s v)
value_of_step true s v h = lower s.lo v (gap_is s.lo v h.above)
  where
    lower : (a b : ℤ) {g : ℤ} → g ≡ b -ℤ a → b ≡ a +ℤ g
    lower a b e = omega (arith, ints, e)
value_of_step false s v h = upper v s.hi (gap_is v s.hi h.below)
  where
    upper : (a b : ℤ) {g : ℤ} → g ≡ b -ℤ a → a ≡ b -ℤ g
    upper a b e = omega (arith, ints, e)

pub step_in_width : (up : Bool) (s : Span) (v : ℤ) → IsWithin s v → step_of up s v < width s
step_in_width true s v h = by (s.hi -ℤ s.lo) refl (gap_is s.lo v h.above)
  where
    by : (d : ℤ) → s.hi -ℤ s.lo ≡ d → pos (int_gap s.lo v) ≡ v -ℤ s.lo → int_gap s.lo v < count_to d
    by (pos n) e g = omega (arith, ints, h.above, h.below, e, g)
    by (negsuc n) e g = absurd (omega (arith, ints, h.above, h.below, e))
step_in_width false s v h = by (s.hi -ℤ s.lo) refl (gap_is v s.hi h.below)
  where
    by : (d : ℤ) → s.hi -ℤ s.lo ≡ d → pos (int_gap v s.hi) ≡ s.hi -ℤ v → int_gap v s.hi < count_to d
    by (pos n) e g = omega (arith, ints, h.above, h.below, e, g)
    by (negsuc n) e g = absurd (omega (arith, ints, h.above, h.below, e))

-- a loop's step: one value more is covered
pub covered_more : (rows : List Row) (zone narrow : List Span) (costs : List ℤ) (level step : ℕ) (up : Bool) (v : ℤ) (before now : Option ℤ)
    → level < length narrow → IsWholeAt zone level narrow
    → v ≡ step_value up (span_at zone level) step
    → ((y : List ℤ) → IsPoint rows narrow y → step_of up (span_at zone level) (value_at y level) < step → IsCovered before (dot costs y))
    → IsNoWorse before now → AllCovered rows (set narrow level (single v)) costs now
    → (y : List ℤ) → IsPoint rows narrow y → step_of up (span_at zone level) (value_at y level) < step + 1 → IsCovered now (dot costs y)
covered_more rows zone narrow costs level step up v before now l n is had better new y point below = ⊎_elim
    (λ less. better (dot costs y) (had y point less))
    (λ more. new y (record { inside = inside (omega (arith, below, more)); meets = point.meets }))
    (cases_lt (step_of up (span_at zone level) (value_at y level)) step)
  where
    within : IsWithin (span_at zone level) (value_at y level)
    within = subst (λ (s : Span). IsWithin s (value_at y level)) (n.whole)
        (inside_at narrow y point.inside level l)

    inside : step_of up (span_at zone level) (value_at y level) ≡ step → IsInside (set narrow level (single v)) y
    inside e =
        subst (λ w. IsInside (set narrow level (single w)) y)
        (value_of_step up (span_at zone level) (value_at y level) within ∙ ap (step_value up (span_at zone level)) e ∙ sym is)
        (inside_set narrow y level point.inside)

-- at the loop's end each point is covered
pub covered_all : (rows : List Row) (zone narrow : List Span) (costs : List ℤ) (level count : ℕ) (up : Bool) (best : Option ℤ)
    → level < length narrow → IsWholeAt zone level narrow → width (span_at zone level) ≤ count
    → ((y : List ℤ) → IsPoint rows narrow y → step_of up (span_at zone level) (value_at y level) < count → IsCovered best (dot costs y))
    → AllCovered rows narrow costs best
covered_all rows zone narrow costs level count up best l n wide had y point =
    had y point (omega (
      arith,
      wide,
      step_in_width up (span_at zone level) (value_at y level)
          (subst (λ (s : Span). IsWithin s (value_at y level)) (n.whole) (inside_at narrow y point.inside level l)),
    ))

-- the ends of a zone within the root are short
pub short_inside : (zone spans : List Span) → IsSubzone zone spans → IsProper zone → All HasShortEnds spans → (k : ℕ) → k < length zone → HasShortEnds (span_at zone k)
short_inside zone spans inside proper short k l =
    let none : Span = record { lo = pos 0; hi = pos 0 } in
    let sub : IsSubspan (span_at zone k) (span_at spans k) = AllZip_at IsSubspan zone spans inside k (record { lo = pos 0; hi = pos 0 }) (record { lo = pos 0; hi = pos 0 }) l in
    let p : (span_at zone k).lo ≤ℤ (span_at zone k).hi = proper k (record { lo = pos 0; hi = pos 0 }) l in
    let e : HasShortEnds (span_at spans k) = short k (record { lo = pos 0; hi = pos 0 }) (omega (arith, l, AllZip-length IsSubspan zone spans inside)) in
    record {
      lo = omega (arith, ints, sub.above, sub.below, p, e.lo, e.hi);
      hi = omega (arith, ints, sub.above, sub.below, p, e.lo, e.hi);
    }

-- a level that isn't the last
pub below_level : (level count : ℕ) → level ≤ count → level ≢ count → level < count
below_level level count l n = omega arith
