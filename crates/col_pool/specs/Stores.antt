-- Columns with the block that owns them.
use Rattle.std.specs.Prelude.{◌≡◌, ℕ, ◌<◌, ◌⊎◌, List, ℤ, length, Option, Some, None}
use Rattle.bp_theory.specs.Limits.{most_columns}
use Rattle.bp_theory.specs.Bound.{IsPoint}
use Rattle.block_program.specs.Blocked.{RootBlock, BlockedProgram}
use Rattle.col_pool.specs.Pools.{IsPoolOf, IsAbsent, HasAdded, root_block}
use Rattle.col_pool.specs.declared.column.Column.{Column}
use Rattle.col_pool.specs.declared.fault.Added.TheVariants.{New, Known}
use Rattle.col_pool.specs.declared.store.Store.{Store}

-- the block is there, and the columns are points of it
pub record IsStoreOf (b : BlockedProgram) (s : Store) : Type 0 where
  pub there : s.owner < length b.blocking.blocks
  pub columns : IsPoolOf (root_block b s.owner) s.pool

-- what columns become with a list of numbers, and the number that it has there: a new column or a known one; none, and the columns
-- stay, where the list is no point of the block, or a point that none of as many columns as may be has
abbrev pub HasStored : RootBlock → (before after : List Column) → List ℤ → Option ℕ → Type 0
HasStored k before after y (Some n) = HasAdded k before after y (New n) ⊎ HasAdded k before after y (Known n)
HasStored k before after y None =
    (after ≡ before) × (IsPoint k.block.rows k.spans y → (length before ≡ most_columns) × IsAbsent before y)
