-- Where variables stand in rows of blocks.
use Rattle.std.specs.Prelude.{◌≡◌, ℕ, ◌<◌, true, List, length, Option, Some, None, slice_index_or}
use Rattle.bp_theory.specs.Decomposition.{stands_in}
use Rattle.bp_theory.specs.declared.Row.{Row}

-- a variable stands in a row of a block, by numbers
pub record StandsInRow (rows : List Row) (places : List (Option ℕ)) (v row block : ℕ) : Type 0 where
  pub there : row < length rows
  pub place : slice_index_or places row None ≡ Some block
  pub stands : (d : Row) → stands_in v (slice_index_or rows row d) ≡ true
