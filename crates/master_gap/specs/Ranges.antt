-- What an answer's weights and multipliers may be.
use Rattle.std.specs.Prelude.{◌≡◌, ℕ, ◌<◌, ◌≤◌, List, zip, length, ℤ, pos, ◌≤ℤ◌, unsigned_abs, All}
use Rattle.bp_theory.specs.Limits.{greatest_multiplier, greatest_weight}
use Rattle.bp_theory.specs.declared.MasterRow.{MasterRow}
use Rattle.search_laws.specs.declared.Column.{Column}
use Rattle.search_laws.specs.Master.{class_weight, HaveFittingSigns}

-- one weight for each column, from 0 to 2^33, also summed over a class
pub record AreWeights (cols : List Column) (classes : ℕ) (weights : List ℤ) : Type 0 where
  pub each : length weights ≡ length cols
  pub sizes : All (λ w. (pos 0 ≤ℤ w) × (w ≤ℤ pos (greatest_weight))) weights
  pub together : (k : ℕ) → k < classes → class_weight (zip cols weights) k ≤ℤ pos (greatest_weight)

-- one multiplier for each row, at most 2^40 in magnitude, 0 or of the row's sign
pub record AreMultipliers (rows : List MasterRow) (mults : List ℤ) : Type 0 where
  pub each : length mults ≡ length rows
  pub sizes : All (λ p. unsigned_abs p ≤ greatest_multiplier) mults
  pub signs : HaveFittingSigns rows mults
