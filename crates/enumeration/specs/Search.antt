-- Where a search stands.
use Rattle.std.specs.Prelude.{◌≡◌, ℕ, ◌+ℤ◌, ◌-ℤ◌, pos, ◌≤ℤ◌, ◌⊎◌, Bool, true, false, if◌then◌else◌, slice_index_or, List, map, length, ℤ}
use Rattle.std.specs.Int.{int_gap}
use Rattle.bp_theory.specs.Bound.{box_least}
use Rattle.bp_theory.specs.Trees.{IsSubzone, IsProper}
use Rattle.bp_theory.specs.declared.Span.{Span}
use Rattle.bp_theory.specs.declared.Row.{Row}
use Rattle.enumeration.specs.Best.{IsCovered}
use Rattle.enumeration.specs.Relax.{IsSurpassed}
use Rattle.enumeration.specs.Reach.{low_reach, high_reach, CanMeetRow}
use Rattle.enumeration.specs.declared.dive.Dive.{Dive}
use Rattle.enumeration.specs.declared.relax.Relaxed.{Relaxed}

-- the span of one number
abbrev pub single : ℤ → Span
single v = record { lo = v; hi = v }

-- a search's zone lies within the zone to be priced, and its running numbers are those of its zone
pub record IsTracked (rows : List Row) (zone : List Span) (costs : List ℤ) (d : Dive) : Type 0 where
  pub inside : IsSubzone d.zone.items zone
  pub proper : IsProper d.zone.items
  pub lows : d.lows.items ≡ map (λ (row : Row). low_reach d.zone.items row.terms) rows
  pub highs : d.highs.items ≡ map (λ (row : Row). high_reach d.zone.items row.terms) rows
  pub least : d.least ≡ box_least d.zone.items costs
  pub wide : length d.point.items ≡ length zone

-- the least adjusted cost in a search's zone
abbrev pub IsPaid : Relaxed → Dive → Type 0
IsPaid r d = d.paid ≡ box_least d.zone.items r.costs.items

-- the number at a step of a span, from its lower end up or from its upper end down
abbrev pub step_value : Bool → Span → ℕ → ℤ
step_value up s step = if up then s.lo +ℤ pos step else s.hi -ℤ pos step

-- the step of a number of a span
abbrev pub step_of : Bool → Span → ℤ → ℕ
step_of up s v = if up then int_gap s.lo v else int_gap v s.hi

-- a cost doesn't fall in a direction of numbers: up, or down
abbrev pub Follows : Bool → ℤ → Type 0
Follows true cost = pos 0 ≤ℤ cost
Follows false cost = cost ≤ℤ pos 0

-- with one number's least, no later number of its variable leads to a cheaper point
abbrev pub IsOver : Relaxed → Dive → Bool → ℤ → Type 0
IsOver r d up cost = IsSurpassed r d.best d.paid ⊎ (Follows up cost × IsCovered d.best d.least)

-- all that a search keeps but for its zone and what it can reach there
pub record IsKept (before now : Dive) : Type 0 where
  pub best : now.best ≡ before.best
  pub point : now.point.items ≡ before.point.items

-- a row of this number can be met in a zone
abbrev pub CanMeetAt : List Row → List Span → ℕ → Type 0
CanMeetAt rows zone q = (d : Row) → CanMeetRow zone (slice_index_or rows q d)
