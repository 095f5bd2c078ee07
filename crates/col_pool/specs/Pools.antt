-- Pools of columns: what a block's sums may come to, columns of a block, and what adding a point answers.
use Rattle.std.specs.Prelude.{◌≡◌, ◌≢◌, ℕ, ◌<◌, List, [], ◌∷◌, ◌++◌, map, length, ℤ, pos, slice_index_or, All, AllPairs}
use Rattle.bp_theory.specs.Limits.{most_columns, number_limit}
use Rattle.std.specs.List.Sorted.{IsStrictlyIncreasing}
use Rattle.bp_theory.specs.Sums.{dot, sum_at}
use Rattle.bp_theory.specs.Program.{IsInside}
use Rattle.bp_theory.specs.Blocking.{Copy, Block, coef_in}
use Rattle.bp_theory.specs.Bound.{IsPoint, spans_of}
use Rattle.bp_model.specs.Miss.{IsFirstOutside, IsFirstMissed}
use Rattle.block_program.specs.Blocked.{RootBlock, BlockedProgram}
use Rattle.pricing_problem.specs.Form.{IsForm, cost_size}
use Rattle.col_pool.specs.declared.column.Column.{Column}
use Rattle.col_pool.specs.declared.fault.Added.{Added}
use Rattle.col_pool.specs.declared.fault.Added.TheVariants.{New, Known}
use Rattle.col_pool.specs.declared.fault.PoolFault.{PoolFault}
use Rattle.col_pool.specs.declared.fault.PoolFault.TheVariants.{Outside, Row, Full, NoMemory}

-- the block of a number, beside its spans at the root
abbrev pub root_block : BlockedProgram → ℕ → RootBlock
root_block b k =
    let block : Block = slice_index_or b.blocking.blocks k (record { copies = []; rows = [] }) in
    record { block = block; spans = spans_of b.named.program.spans block }

-- the costs of a block's copies, and their coefficients in a master row
abbrev pub costs_of : Block → List ℤ
costs_of block = map (λ (c : Copy). c.cost) block.copies

abbrev pub coefs_of : Block → ℕ → List ℤ
coefs_of block row = map (λ (c : Copy). coef_in c row) block.copies

-- no sum over a point of a block leaves 62 bits: none of its rows, of its cost, or of its activities in master rows
pub record HasSmallSums (k : RootBlock) : Type 0 where
  pub form : IsForm k.block.rows k.spans
  pub costs : cost_size k.spans (costs_of k.block) < number_limit
  pub acts : (row : ℕ) → cost_size k.spans (coefs_of k.block row) < number_limit

-- the activities of a point of a block in the master rows: ascending, without zeros, and each row's is the plain sum
pub record HasActivities (block : Block) (y : List ℤ) (acts : List (ℕ × ℤ)) : Type 0 where
  pub ascend : IsStrictlyIncreasing (map (λ e. e.0) acts)
  pub nonzero : All (λ e. e.1 ≢ pos 0) acts
  pub sums : (row : ℕ) → sum_at (λ e. e.0) (λ e. e.1) acts row ≡ dot (coefs_of block row) y

-- a column of a block: a point of it within the spans at the root, with its cost and its activities
pub record IsPooled (k : RootBlock) (c : Column) : Type 0 where
  pub is_point : IsPoint k.block.rows k.spans c.point
  pub cost_is : c.cost ≡ dot (costs_of k.block) c.point
  pub acts_are : HasActivities k.block c.point c.acts

-- columns of a block whose sums are small
pub record IsPoolOf (k : RootBlock) (columns : List Column) : Type 0 where
  pub small : HasSmallSums k
  pub each : All (IsPooled k) columns

-- no two columns have the same point
abbrev pub AreApart : List Column → Type 0
AreApart columns = AllPairs (λ a b. a.point ≢ b.point) columns

-- no column has a point
abbrev pub IsAbsent : List Column → List ℤ → Type 0
IsAbsent columns y = All (λ c. c.point ≢ y) columns

-- the column of a number has a point
pub record HasPointAt (columns : List Column) (n : ℕ) (y : List ℤ) : Type 0 where
  pub there : n < length columns
  pub is : (d : Column) → (slice_index_or columns n d).point ≡ y

-- what a pool becomes where a column is put last, if there is none with its point
abbrev pub HasKept : (before after : List Column) → Column → Added → Type 0
HasKept before after c (New n) = IsAbsent before c.point × (n ≡ length before) × (after ≡ before ++ c ∷ [])
HasKept before after c (Known n) = HasPointAt before n c.point × (after ≡ before)

-- what a column isn't put last for
abbrev pub HasKeepFault : List Column → Column → PoolFault → Type 0
HasKeepFault columns c (Outside v) = ⊥
HasKeepFault columns c (Row row) = ⊥
HasKeepFault columns c Full = (length columns ≡ most_columns) × IsAbsent columns c.point
HasKeepFault columns c NoMemory = Unit {0}

-- what a pool becomes with a point of its block: a new column of the point at the end, with the old length as
-- number, where there was none; else it stays, and the number is that of the point's column
abbrev pub HasAdded : RootBlock → (before after : List Column) → List ℤ → Added → Type 0
HasAdded k before after y (New n) =
    IsAbsent before y × (n ≡ length before) × ((c : Column) × (c.point ≡ y) × IsPooled k c × (after ≡ before ++ c ∷ []))
HasAdded k before after y (Known n) = IsPoint k.block.rows k.spans y × HasPointAt before n y × (after ≡ before)

-- what a point is refused for: the first variable outside its span, else the first row that the point doesn't meet,
-- else a full pool that hasn't the point
abbrev pub HasPoolFault : RootBlock → List Column → List ℤ → PoolFault → Type 0
HasPoolFault k columns y (Outside v) = IsFirstOutside k.spans y v
HasPoolFault k columns y (Row row) = IsInside k.spans y × IsFirstMissed k.block.rows y row
HasPoolFault k columns y Full = IsPoint k.block.rows k.spans y × (length columns ≡ most_columns) × IsAbsent columns y
HasPoolFault k columns y NoMemory = Unit {0}
