-- The levels that a search stands below.
use Rattle.std.specs.Prelude.{◌≡◌, ℕ, zero, suc, ◌+◌, ◌-◌, ◌*◌, ◌≤◌, ◌<◌, Bool, List, [], ◌∷◌, length, drop, All, Option, ℤ, pos, slice_set, slice_index_or}
use Rattle.std.specs.Bool.{OnTrue, OnFalse}
use Rattle.bp_theory.specs.Sums.{dot}
use Rattle.bp_theory.specs.Program.{span_at, value_at}
use Rattle.bp_theory.specs.Bound.{IsPoint}
use Rattle.bp_theory.specs.Classes.{width}
use Rattle.bp_theory.specs.declared.Span.{Span}
use Rattle.bp_theory.specs.declared.Row.{Row}
use Rattle.enumeration.specs.Reach.{CanMeetRow, IsNarrowed}
use Rattle.enumeration.specs.Best.{IsCovered, AllCovered}
use Rattle.enumeration.specs.Search.{single, step_value, step_of, Follows}
use Rattle.enumeration.specs.declared.dive.Dive.{Dive}
use Rattle.enumeration.specs.declared.frame.Frame.{Frame}
use Rattle.enumeration.specs.declared.frame.Frame.TheVariants.{Passed, At}
use Rattle.enumeration.specs.declared.frame.Node.{Node}

-- no point of the rows within a zone that has, at a variable, a number of a span before a step is cheaper than the best so far
abbrev pub AreCoveredTo : (rows : List Row) (narrow : List Span) (costs : List ℤ) (up : Bool) → Span → (var step : ℕ) → Option ℤ → Type 0
AreCoveredTo rows narrow costs up span var step best =
    (y : List ℤ) → IsPoint rows narrow y → step_of up span (value_at y var) < step → IsCovered best (dot costs y)

-- a zone with the whole span of a variable
abbrev pub widened : (zone narrow : List Span) (var : ℕ) → List Span
widened zone narrow var = slice_set narrow var (span_at zone var)

-- a variable has the number at a step of its span, where with the whole span each row can be met, and the numbers before are covered
pub record IsTried (rows : List Row) (zone : List Span) (costs adjusted : List ℤ) (best : Option ℤ) (var : ℕ) (up : Bool) (step : ℕ) (narrow : List Span) : Type 0 where
  pub there : step < width (span_at zone var)
  pub placed : narrow ≡ slice_set narrow var (single (step_value up (span_at zone var) step))
  pub can : All (CanMeetRow (widened zone narrow var)) rows
  pub follows : Follows up (slice_index_or adjusted var (pos 0))
  pub covered : AreCoveredTo rows (widened zone narrow var) costs up (span_at zone var) var step best

-- a level's frame tells how its variable was narrowed, from a zone that holds what is said of the levels before
abbrev pub IsFramed : (rows : List Row) (zone : List Span) (costs adjusted : List ℤ) (best : Option ℤ) (var : ℕ) → (List Span → Type 0) → Frame → List Span
    → Type 0
IsFramed rows zone costs adjusted best var Before Passed narrow = Before narrow
IsFramed rows zone costs adjusted best var Before (At up step) narrow =
    IsTried rows zone costs adjusted best var up step narrow × Before (widened zone narrow var)

-- the variables that an order has before a level are narrowed as the levels' frames tell, and the zone is whole but for them
abbrev pub IsBelow : (rows : List Row) (zone : List Span) (costs adjusted : List ℤ) (order : List ℕ) (frames : List Frame) (best : Option ℤ) (level : ℕ) → List Span
    → Type 0
IsBelow rows zone costs adjusted order frames best zero narrow = IsNarrowed zone order 0 narrow × (narrow ≡ zone)
IsBelow rows zone costs adjusted order frames best (suc level) narrow =
    IsNarrowed zone order (suc level) narrow
    × IsFramed rows zone costs adjusted best (slice_index_or order level 0) (IsBelow rows zone costs adjusted order frames best level)
    (slice_index_or frames level Passed) narrow

-- where a cheaper point may be left, each row can be met, and else each point is covered
abbrev pub IsOpen : (rows : List Row) (narrow : List Span) (costs : List ℤ) → Option ℤ → Bool → Type 0
IsOpen rows narrow costs best alive = OnTrue alive (All (CanMeetRow narrow) rows) × OnFalse alive (AllCovered rows narrow costs best)

-- a search stands at a node
pub record IsAt (rows : List Row) (zone : List Span) (costs adjusted : List ℤ) (order : List ℕ) (frames : List Frame) (d : Dive) (node : Node) : Type 0 where
  pub level : node.level ≤ length order
  pub below : IsBelow rows zone costs adjusted order frames d.best node.level d.zone.items
  pub open_or_not : IsOpen rows d.zone.items costs d.best node.alive

-- how many nodes there are at most from a node on, where these variables are left
abbrev pub nodes_of : (zone : List Span) → List ℕ → ℕ
nodes_of zone [] = 1
nodes_of zone (var ∷ vars) = 1 + width (span_at zone var) * nodes_of zone vars

-- how many numbers of a level's variable are left
abbrev pub rest_of : Frame → (count : ℕ) → ℕ
rest_of Passed count = 0
rest_of (At up step) count = count - suc step

-- how many nodes there are at most behind a node at a level
abbrev pub left_behind : (zone : List Span) (order : List ℕ) (frames : List Frame) (level : ℕ) → ℕ
left_behind zone order frames zero = 0
left_behind zone order frames (suc level) =
    left_behind zone order frames level
    + rest_of (slice_index_or frames level Passed) (width (span_at zone (slice_index_or order level 0))) * nodes_of zone (drop (suc level) order)

-- how many nodes there are at most from a node at a level on
abbrev pub left_from : (zone : List Span) (order : List ℕ) (frames : List Frame) (level : ℕ) → ℕ
left_from zone order frames level = left_behind zone order frames level + nodes_of zone (drop level order)
