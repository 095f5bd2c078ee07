-- Columns dealt out to the blocks of their classes: whether they can be, and what each block so has.
use Rattle.std.specs.Prelude.{◌≡◌, ℕ, ◌<◌, List, [], map, length, ℤ, pos, ◌*ℤ◌, ◌≤ℤ◌, slice_index_or, All}
use Rattle.bp_theory.specs.Limits.{greatest_weight}
use Rattle.bp_theory.specs.Sums.{sum_at}
use Rattle.bp_theory.specs.Program.{value_at}
use Rattle.bp_theory.specs.Blocking.{Copy, Block, Blocking}
use Rattle.bp_theory.specs.declared.Span.{Span}
use Rattle.search_laws.specs.declared.UsedColumn.{UsedColumn}
use Rattle.search_laws.specs.Master.{one_weight}
use Rattle.search_laws.specs.Spread.{block_at, class_blocks, IsWhole}
use Rattle.block_class.specs.Classes.{Grouping}

-- a weight is 0 to 2^33
pub record HasWeight (u : UsedColumn) : Type 0 where
  pub low : pos 0 ≤ℤ u.weight
  pub high : u.weight ≤ℤ pos (greatest_weight)

-- each weight is a whole number of units, and each class's weights add up to its number of blocks
pub record IsSpreadable (g : Grouping) (used : List UsedColumn) : Type 0 where
  pub whole : All IsWhole used
  pub sizes : (k : ℕ) → k < length g.firsts → sum_at (λ u. u.class) (λ u. u.weight) used k ≡ pos one_weight *ℤ pos (class_blocks g.classes k)

-- no span has two numbers
abbrev pub IsPointZone : List Span → Type 0
IsPointZone zone = All (λ s. s.hi ≤ℤ s.lo) zone

-- the point of the used column at a place
abbrev pub point_at : List UsedColumn → ℕ → List ℤ
point_at used i = (slice_index_or used i (record { class = 0; weight = pos 0; point = [] })).point

-- the points of the used columns at places
abbrev pub points_at : List UsedColumn → List ℕ → List (List ℤ)
points_at used places = map (point_at used) places

-- a block's copies have the numbers of a point over their places that another gives their variables
abbrev pub HasNumbers : (x : List ℤ) (block : Block) (y : List ℤ) → Type 0
HasNumbers x block y = (i : ℕ) (d : Copy) → i < length block.copies → value_at y i ≡ value_at x (slice_index_or block.copies i d).var

-- each block has them in its column, so that all copies of a variable have one number
abbrev pub HaveNumbers : Blocking → List UsedColumn → (columns : List ℕ) (x : List ℤ) → Type 0
HaveNumbers b used columns x = (j : ℕ) → j < length b.blocks → HasNumbers x (block_at b j) (point_at used (slice_index_or columns j 0))
