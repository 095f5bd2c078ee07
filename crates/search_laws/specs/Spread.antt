-- Weights of columns, spread over the blocks of their classes.
use Rattle.std.specs.Prelude.{◌≡◌, ◌⊎◌, ℕ, ◌/◌, ◌<◌, List, [], map, filter, take, length, replicate, Option, Some, None, ℤ, pos, ◌*ℤ◌, unsigned_abs, ◌==◌, slice_index_or, count_by, flat_map, All, Any, Contains}
use Rattle.bp_theory.specs.Sums.{sum_of, sum_at, dot}
use Rattle.bp_theory.specs.Program.{Program, Meets}
use Rattle.bp_theory.specs.Blocking.{Copy, Block, Blocking, Mirrors, coef_in, restriction, row_at}
use Rattle.bp_theory.specs.Bound.{IsPoint, spans_of}
use Rattle.bp_theory.specs.Classes.{IsSame}
use Rattle.bp_theory.specs.declared.Span.{Span}
use Rattle.bp_theory.specs.declared.Row.{Row}
use Rattle.bp_theory.specs.declared.MasterRow.{MasterRow}
use Rattle.search_laws.specs.declared.UsedColumn.{UsedColumn}
use Rattle.search_laws.specs.Master.{one_weight}

-- the block of a number
abbrev pub block_at : Blocking → ℕ → Block
block_at b j = slice_index_or b.blocks j (record { copies = []; rows = [] })

-- the class of a block
abbrev pub class_at : List ℕ → ℕ → ℕ
class_at classes j = slice_index_or classes j 0

-- how many blocks a class has
abbrev pub class_blocks : List ℕ → ℕ → ℕ
class_blocks classes k = count_by (λ c. c == k) classes

-- each block has a class, and is the same in the zone as its class's first block
pub record AreClasses (zone : List Span) (b : Blocking) (classes firsts : List ℕ) : Type 0 where
  pub each : length classes ≡ length b.blocks
  pub known : All (λ c. c < length firsts) classes
  pub same : (j : ℕ) → j < length b.blocks → IsSame zone (block_at b (class_at firsts (class_at classes j))) (block_at b j)

-- a used column's class is there, and its point is one of the class's first block in the zone
pub record IsUsed (zone : List Span) (b : Blocking) (firsts : List ℕ) (u : UsedColumn) : Type 0 where
  pub class : u.class < length firsts
  pub point : IsPoint (block_at b (class_at firsts u.class)).rows (spans_of zone (block_at b (class_at firsts u.class))) u.point

-- how often a used column is taken: its weight in units
abbrev pub times : UsedColumn → ℕ
times u = unsigned_abs u.weight / one_weight

-- a weight is a whole number of units
abbrev pub IsWhole : UsedColumn → Type 0
IsWhole u = u.weight ≡ pos one_weight *ℤ pos (times u)

-- the points of a class's used columns in order, each as often as its weight says
abbrev pub class_points : List UsedColumn → ℕ → List (List ℤ)
class_points used k = flat_map (λ u. replicate (times u) u.point) (filter (λ u. u.class == k) used)

-- how many blocks of a block's class stand before it
abbrev pub rank : List ℕ → ℕ → ℕ
rank classes j = count_by (λ c. c == class_at classes j) (take j classes)

-- the point that a block gets: the blocks of a class, ascending, get its points in order
abbrev pub block_point : List UsedColumn → List ℕ → ℕ → List ℤ
block_point used classes j = slice_index_or (class_points used (class_at classes j)) (rank classes j) []

-- a point is the spread of used columns: weights are whole, each class's add up to its size, and the
-- blocks' points give all copies of each variable the point's number
pub record IsSpread (b : Blocking) (classes firsts : List ℕ) (used : List UsedColumn) (x : List ℤ) : Type 0 where
  pub whole : All IsWhole used
  pub sizes : (k : ℕ) → k < length firsts → sum_at (λ u. u.class) (λ u. u.weight) used k ≡ pos one_weight *ℤ pos (class_blocks classes k)
  pub agrees : (j : ℕ) → j < length b.blocks → restriction x (block_at b j) ≡ block_point used classes j

-- what a used column adds up to, by a number of each copy of its class's first block
abbrev pub used_value : Blocking → List ℕ → (Copy → ℤ) → UsedColumn → ℤ
used_value b firsts f u = dot (map f (block_at b (class_at firsts u.class)).copies) u.point

-- what used columns add up to, by weight
abbrev pub used_total : Blocking → List ℕ → (Copy → ℤ) → List UsedColumn → ℤ
used_total b firsts f used = sum_of (λ u. u.weight *ℤ used_value b firsts f u) used

-- used columns meet the rows that stand for a program's own, in units
abbrev pub MeetOwnRows : Program → Blocking → List ℕ → List UsedColumn → Type 0
MeetOwnRows p b firsts used = (i : ℕ) (r : MasterRow) → i < length p.rows → row_at b i ≡ Some r
    → Meets r.sense (pos one_weight *ℤ r.low) (pos one_weight *ℤ r.rhs) (used_total b firsts (λ c. coef_in c i) used)

-- a row of a program has a mirror in a block, or is the row of proofs of its own number
pub record HasEachRow (p : Program) (rows : List (Option Row)) (b : Blocking) : Type 0 where
  pub placed : (i : ℕ) (d : Row) → i < length p.rows
      → ((j : ℕ) × (row : Row) × (j < length b.blocks) × Contains (block_at b j).rows row × Mirrors (block_at b j) row (slice_index_or p.rows i d))
      ⊎ (slice_index_or rows i None ≡ Some (slice_index_or p.rows i d))

-- each variable of a program has a copy
abbrev pub HasEachVariable : Program → Blocking → Type 0
HasEachVariable p b = (v : ℕ) → v < length p.spans → Any (λ k. Contains (map (λ c. c.var) k.copies) v) b.blocks
