-- Costs with rows added to them.
use Rattle.std.specs.Prelude.{List, ℤ, pos, negsuc, ◌+ℤ◌, ◌-ℤ◌, ◌*ℤ◌, ◌≤ℤ◌, ◌<ℤ◌, Option, Some, None}
use Rattle.bp_theory.specs.Sums.{dot}
use Rattle.bp_theory.specs.Bound.{IsPoint}
use Rattle.bp_theory.specs.declared.Sense.{Sense}
use Rattle.bp_theory.specs.declared.Sense.TheVariants.{Le, Ge, Eq, In}
use Rattle.bp_theory.specs.declared.Span.{Span}
use Rattle.bp_theory.specs.declared.Row.{Row}
use Rattle.pricing_problem.specs.Form.{IsPriceable}
use Rattle.enumeration.specs.declared.relax.Relaxed.{Relaxed}

-- a multiple of a row of this sense has a side that it stays below at each point: any for rows with two sides
abbrev pub HasFittingSign : Sense → ℤ → Type 0
HasFittingSign Le p = pos 0 ≤ℤ p
HasFittingSign Ge p = p ≤ℤ pos 0
HasFittingSign Eq p = Unit {0}
HasFittingSign In p = Unit {0}

-- the side that a multiple of a row stays below: the lower for a negative one
abbrev pub paid_side : Row → ℤ → ℤ
paid_side row (pos n) = row.rhs
paid_side row (negsuc n) = row.low

-- at each point of the rows adjusted costs sum up to at most the scale times its cost, and the offset
abbrev pub IsUndercut : (rows : List Row) (zone : List Span) (costs : List ℤ) → Relaxed → Type 0
IsUndercut rows zone costs r = (y : List ℤ) → IsPoint rows zone y → dot r.costs.items y ≤ℤ (r.offset +ℤ dot costs y *ℤ pos r.scale)

-- adjusted costs undercut each point of the rows, and may be searched by
pub record IsRelaxed (spans : List Span) (rows : List Row) (zone : List Span) (costs : List ℤ) (r : Relaxed) : Type 0 where
  pub priceable : IsPriceable spans zone r.costs.items
  pub below : IsUndercut rows zone costs r

-- a sum of adjusted costs is above that of each point that is cheaper than the best so far
abbrev pub IsSurpassed : Relaxed → Option ℤ → ℤ → Type 0
IsSurpassed r None paid = ⊥
IsSurpassed r (Some best) paid = (r.offset +ℤ (best -ℤ pos 1) *ℤ pos r.scale) <ℤ paid
