-- Laws of a search's moves from level to level.
use Rattle.std.proofs.Common.{◌≡◌, refl, sym, subst, ◌∙◌, ℕ, zero, suc, ◌+◌, ◌-◌, ◌<◌, ◌≤◌, Bool, true, false, List, length, get_or, set, arith}
use Rattle.std.proofs.Math.IntN.{ℤ, pos, negsuc, ◌-ℤ◌}
use Rattle.std.specs.Prelude.{Option, None, Some, IfSome, IfNone, ◌≤ℤ◌, All}
use Rattle.std.proofs.lemmas.Int.{ints}
use Rattle.std.proofs.lemmas.List.{length-set}
use Rattle.bp_theory.specs.Program.{span_at, IsWithin}
use Rattle.bp_theory.specs.Classes.{width, count_to}
use Rattle.bp_theory.specs.declared.Span.{Span}
use Rattle.bp_theory.specs.declared.Row.{Row}
use Rattle.enumeration.specs.Reach.{CanMeetRow}
use Rattle.enumeration.specs.Best.{AllCovered}
use Rattle.enumeration.specs.Search.{single, step_value, Follows}
use Rattle.enumeration.specs.Levels.{AreCoveredTo, widened, IsTried, IsFramed, IsBelow}
use Rattle.enumeration.specs.declared.frame.Frame.{Frame}
use Rattle.enumeration.specs.declared.frame.Frame.TheVariants.{Passed, At}
use Rattle.enumeration.proofs.LevelLaws.{widened_at, widened_set, below_written, below_narrowed, below_tried, tried_more}

-- a number at a step of a span lies within it
pub step_within : (up : Bool) (s : Span) (step : ℕ) → step < width s → IsWithin s (step_value up s step)
step_within up s step l = by up (s.hi -ℤ s.lo) refl l
  where
    by : (up : Bool) (d : ℤ) → s.hi -ℤ s.lo ≡ d → step < count_to d → IsWithin s (step_value up s step)
    by true (pos n) e m = record { above = omega (arith, ints, e, m); below = omega (arith, ints, e, m) }
    by false (pos n) e m = record { above = omega (arith, ints, e, m); below = omega (arith, ints, e, m) }
    by true (negsuc n) e m = absurd (omega (arith, m))
    by false (negsuc n) e m = absurd (omega (arith, m))

-- a span that isn't empty has a number
pub width_some : (s : Span) → s.lo ≤ℤ s.hi → 0 < width s
width_some s h = by (s.hi -ℤ s.lo) refl
  where
    by : (d : ℤ) → s.hi -ℤ s.lo ≡ d → 0 < count_to d
    by (pos n) e = omega arith
    by (negsuc n) e = absurd (omega (arith, ints, h, e))

-- a level whose variable had one number before is left without a change
pub below_left : (rows : List Row) (zone : List Span) (costs adjusted : List ℤ) (order : List ℕ) (frames : List Frame) (best : Option ℤ) (level : ℕ) (narrow : List Span)
    → get_or frames level Passed ≡ Passed
    → IsBelow rows zone costs adjusted order frames best (suc level) narrow → IsBelow rows zone costs adjusted order frames best level narrow
below_left rows zone costs adjusted order frames best level narrow e h =
    subst (λ (f : Frame). IsFramed rows zone costs adjusted best (get_or order level 0) (IsBelow rows zone costs adjusted order frames best level) f narrow) e h.1

-- what is known of a level whose variable has the number at a step, and of the levels before
pub below_at : (rows : List Row) (zone : List Span) (costs adjusted : List ℤ) (order : List ℕ) (frames : List Frame) (best : Option ℤ) (level : ℕ) (narrow : List Span)
    (up : Bool) (step : ℕ) → get_or frames level Passed ≡ At up step
    → IsBelow rows zone costs adjusted order frames best (suc level) narrow
    → IsTried rows zone costs adjusted best (get_or order level 0) up step narrow
    × IsBelow rows zone costs adjusted order frames best level (widened zone narrow (get_or order level 0))
below_at rows zone costs adjusted order frames best level narrow up step e h =
    subst (λ (f : Frame). IsFramed rows zone costs adjusted best (get_or order level 0) (IsBelow rows zone costs adjusted order frames best level) f narrow) e h.1

-- behind a number of a level's variable the numbers up to its step are covered
pub covered_next : (rows : List Row) (zone : List Span) (costs adjusted : List ℤ) (order : List ℕ) (frames : List Frame) (best : Option ℤ) (level : ℕ) (narrow : List Span)
    (up : Bool) (step : ℕ) → get_or order level 0 < length narrow → get_or frames level Passed ≡ At up step
    → IsBelow rows zone costs adjusted order frames best (suc level) narrow → AllCovered rows narrow costs best
    → AreCoveredTo rows (widened zone narrow (get_or order level 0)) costs up (span_at zone (get_or order level 0)) (get_or order level 0) (step + 1) best
covered_next rows zone costs adjusted order frames best level narrow up step l e h covered =
    let b : IsTried rows zone costs adjusted best (get_or order level 0) up step narrow × IsBelow rows zone costs adjusted order frames best level (widened zone narrow (get_or order level 0)) =
    below_at rows zone costs adjusted order frames best level narrow up step e h in
    tried_more rows zone narrow costs adjusted best (get_or order level 0) up step l
    (record {
      inside = (below_narrowed rows zone costs adjusted order frames best level (widened zone narrow (get_or order level 0)) b.1).inside;
      whole = widened_at zone narrow (get_or order level 0) l;
    })
    b.0 covered

-- with the next number of its variable a level's frame tells what it is to tell
pub below_next : (rows : List Row) (zone : List Span) (costs adjusted : List ℤ) (order : List ℕ) (frames : List Frame) (before now : Option ℤ) (level : ℕ) (narrow new : List Span)
    (up : Bool) (step : ℕ) → level < length frames → get_or order level 0 < length zone → get_or order level 0 < length narrow
    → get_or frames level Passed ≡ At up step → step + 1 < width (span_at zone (get_or order level 0))
    → new ≡ set narrow (get_or order level 0) (single (step_value up (span_at zone (get_or order level 0)) (step + 1))) → now ≡ before
    → IsBelow rows zone costs adjusted order frames before (suc level) narrow → AllCovered rows narrow costs before
    → IsBelow rows zone costs adjusted order (set frames level (At up (step + 1))) now (suc level) new
below_next rows zone costs adjusted order frames before now level narrow new up step l in_zone in_narrow e there is same h covered =
    let b : IsTried rows zone costs adjusted before (get_or order level 0) up step narrow × IsBelow rows zone costs adjusted order frames before level (widened zone narrow (get_or order level 0)) =
    below_at rows zone costs adjusted order frames before level narrow up step e h in
    subst (λ (best : Option ℤ). IsBelow rows zone costs adjusted order (set frames level (At up (step + 1))) best (suc level) new) (sym same)
    (below_tried rows zone costs adjusted order frames before level (widened zone narrow (get_or order level 0)) new up (step + 1) l in_zone
    (omega (arith, in_narrow, length-set narrow (get_or order level 0) (span_at zone (get_or order level 0))))
    (widened_at zone narrow (get_or order level 0) in_narrow) there
    (step_within up (span_at zone (get_or order level 0)) (step + 1) there)
    (is ∙ sym (widened_set zone narrow (get_or order level 0) (single (step_value up (span_at zone (get_or order level 0)) (step + 1)))))
    b.0.can b.0.follows
    (covered_next rows zone costs adjusted order frames before level narrow up step in_narrow e h covered)
    b.1)

-- a search stands as before where it has the zone and the best cost again
pub below_again : (rows : List Row) (zone : List Span) (costs adjusted : List ℤ) (order : List ℕ) (frames : List Frame) (before now : Option ℤ) (level : ℕ) (frame : Frame)
    (narrow new : List Span) → new ≡ narrow → now ≡ before
    → IsBelow rows zone costs adjusted order frames before level narrow → IsBelow rows zone costs adjusted order (set frames level frame) now level new
below_again rows zone costs adjusted order frames before now level frame narrow new is same h =
    subst (λ (best : Option ℤ). IsBelow rows zone costs adjusted order (set frames level frame) best level new) (sym same)
    (subst (IsBelow rows zone costs adjusted order (set frames level frame) before level) (sym is)
    (below_written rows zone costs adjusted order frames before level level frame narrow (omega arith) h))

-- with the first number of its variable too
pub below_first : (rows : List Row) (zone : List Span) (costs adjusted : List ℤ) (order : List ℕ) (frames : List Frame) (before now : Option ℤ) (level : ℕ) (narrow new : List Span)
    (up : Bool) → level < length frames → get_or order level 0 < length zone → get_or order level 0 < length narrow
    → span_at narrow (get_or order level 0) ≡ span_at zone (get_or order level 0) → 0 < width (span_at zone (get_or order level 0))
    → new ≡ set narrow (get_or order level 0) (single (step_value up (span_at zone (get_or order level 0)) 0)) → now ≡ before
    → All (CanMeetRow narrow) rows → Follows up (get_or adjusted (get_or order level 0) (pos 0))
    → IsBelow rows zone costs adjusted order frames before level narrow
    → IsBelow rows zone costs adjusted order (set frames level (At up 0)) now (suc level) new
below_first rows zone costs adjusted order frames before now level narrow new up l in_zone in_narrow whole there is same can follows h =
    subst (λ (best : Option ℤ). IsBelow rows zone costs adjusted order (set frames level (At up 0)) best (suc level) new) (sym same)
    (below_tried rows zone costs adjusted order frames before level narrow new up 0 l in_zone in_narrow whole there
    (step_within up (span_at zone (get_or order level 0)) 0 there) is can follows (λ y point none. absurd (omega (arith, none))) h)

-- two facts of a value
pub some_both : {X : Type 0} (r : Option X) {P Q R : X → Type 0} → IfSome r P → IfSome r Q → ((x : X) → P x → Q x → R x) → IfSome r R
some_both None p q f = p
some_both (Some x) p q f = f x p q

pub none_then : {X : Type 0} (r : Option X) {P Q : Type 0} → IfNone r P → (P → Q) → IfNone r Q
none_then None p f = f p
none_then (Some x) p f = p

pub none_always : {X : Type 0} (r : Option X) {P : Type 0} → P → IfNone r P
none_always None p = p
none_always (Some x) p = tt

-- a level that isn't the first is behind another
pub level_above : (level : ℕ) → 0 < level → level ≡ suc (level - 1)
level_above level l = omega (arith, l)

-- before the first level the zone is whole
pub below_start : (rows : List Row) (zone : List Span) (costs adjusted : List ℤ) (order : List ℕ) (frames : List Frame) (best : Option ℤ) (level : ℕ) (narrow : List Span)
    → level ≤ 0 → IsBelow rows zone costs adjusted order frames best level narrow → narrow ≡ zone
below_start rows zone costs adjusted order frames best zero narrow n h = h.1
below_start rows zone costs adjusted order frames best (suc level) narrow n h = absurd (omega (arith, n))
