-- The best point so far.
use Rattle.std.specs.Prelude.{◌≡◌, List, ℤ, ◌≤ℤ◌, Option, Some, None}
use Rattle.bp_theory.specs.Sums.{dot}
use Rattle.bp_theory.specs.Bound.{IsPoint}
use Rattle.bp_theory.specs.declared.Span.{Span}
use Rattle.bp_theory.specs.declared.Row.{Row}

-- the best cost so far is no dearer than a cost
abbrev pub IsCovered : Option ℤ → ℤ → Type 0
IsCovered None cost = ⊥
IsCovered (Some best) cost = best ≤ℤ cost

-- the best cost so far, where there is one, is that of a point
abbrev pub IsReached : (rows : List Row) (zone : List Span) (costs : List ℤ) → Option ℤ → List ℤ → Type 0
IsReached rows zone costs None point = Unit {0}
IsReached rows zone costs (Some best) point = IsPoint rows zone point × (dot costs point ≡ best)

-- no point of the rows within these spans is cheaper than the best so far
abbrev pub AllCovered : (rows : List Row) (spans : List Span) (costs : List ℤ) → Option ℤ → Type 0
AllCovered rows spans costs best = (y : List ℤ) → IsPoint rows spans y → IsCovered best (dot costs y)

-- what one best cost covers, a later one covers
abbrev pub IsNoWorse : (before now : Option ℤ) → Type 0
IsNoWorse before now = (cost : ℤ) → IsCovered before cost → IsCovered now cost
