-- Multipliers that fit.
use Rattle.std.specs.Prelude.{◌≢◌, ◌≤◌, ◌^◌, IsSome, unsigned_abs, ℕ, List, map, ℤ, pos, All}
use Rattle.bp_theory.specs.Limits.{greatest_multiplier}
use Rattle.std.specs.List.Sorted.{IsStrictlyIncreasing}
use Rattle.bp_theory.specs.Blocking.{Blocking, row_at}

-- multipliers keep the limit, aren't 0, and name rows that proofs may name, each once and in order
pub record FitRows (b : Blocking) (mults : List (ℕ × ℤ)) : Type 0 where
  pub sizes : All (λ m. unsigned_abs m.1 ≤ greatest_multiplier) mults
  pub nonzero : All (λ m. m.1 ≢ pos 0) mults
  pub rows : All (λ m. IsSome (row_at b m.0)) mults
  pub ascend : IsStrictlyIncreasing (map (λ m. m.0) mults)
