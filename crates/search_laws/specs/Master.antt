-- A restricted master over columns: weights in units of 2 to the -20, multipliers, and how far they are from best.
use Rattle.std.specs.Prelude.{◌≡◌, ◌⊎◌, ℕ, ◌+◌, ◌^◌, ◌<◌, List, map, filter, length, ℤ, pos, ◌+ℤ◌, ◌-ℤ◌, ◌*ℤ◌, unsigned_abs, sum_by, ◌==◌, slice_index_or, All}
use Rattle.std.specs.Int.{int_gap}
use Rattle.std.specs.List.{range_with_len}
use Rattle.bp_theory.specs.Sums.{sum_of, sum_at, dot}
use Rattle.bp_theory.specs.Program.{Meets}
use Rattle.bp_theory.specs.Blocking.{Block, coef_in}
use Rattle.bp_theory.specs.Bound.{side, SignFitsSense, IsPoint, spans_of}
use Rattle.bp_theory.specs.declared.Span.{Span}
use Rattle.bp_theory.specs.declared.Sense.{Sense}
use Rattle.bp_theory.specs.declared.Sense.TheVariants.{Le, Ge, Eq, In}
use Rattle.bp_theory.specs.declared.MasterRow.{MasterRow}
use Rattle.search_laws.specs.declared.Column.{Column}
use Rattle.search_laws.specs.GroveFacts.{IsLeastOf}

-- the activity of a column in a master row
abbrev pub column_activity : Column → ℕ → ℤ
column_activity c row = sum_at (λ e. e.0) (λ e. e.1) c.acts row

-- a column is a point of a block in the root zone, with its cost and its activities
pub record IsColumn (root : List Span) (block : Block) (y : List ℤ) (c : Column) : Type 0 where
  pub point : IsPoint block.rows (spans_of root block) y
  pub cost : c.cost ≡ dot (map (λ k. k.cost) block.copies) y
  pub acts : (row : ℕ) → column_activity c row ≡ dot (map (λ k. coef_in k row) block.copies) y

-- the weight that counts as one
abbrev pub one_weight : ℕ
one_weight = 2 ^ 20

-- the multiplier of a row, 0 where there is none
abbrev pub multiplier : List ℤ → ℕ → ℤ
multiplier mults row = slice_index_or mults row (pos 0)

-- a column's cost in units, less multipliers times activities
abbrev pub column_price : List ℤ → Column → ℤ
column_price mults c = pos one_weight *ℤ c.cost -ℤ sum_of (λ e. e.1 *ℤ multiplier mults e.0) c.acts

-- the least price of a class's columns
abbrev pub IsConvex : List Column → List ℤ → ℕ → ℤ → Type 0
IsConvex cols mults k v = IsLeastOf (map (column_price mults) (filter (λ c. c.class == k) cols)) v

-- each class's least price, in order
pub record AreConvex (cols : List Column) (classes : ℕ) (mults convex : List ℤ) : Type 0 where
  pub each : length convex ≡ classes
  pub least : (k : ℕ) → k < classes → IsConvex cols mults k (slice_index_or convex k (pos 0))

-- what a number of each column gives, times the column's weight
abbrev pub weighted : (Column → ℤ) → List (Column × ℤ) → ℤ
weighted f zs = sum_of (λ e. f e.0 *ℤ e.1) zs

-- the cost of weighted columns
abbrev pub weighted_cost : List (Column × ℤ) → ℤ
weighted_cost zs = weighted (λ c. c.cost) zs

-- the activity of weighted columns in a row
abbrev pub weighted_activity : List (Column × ℤ) → ℕ → ℤ
weighted_activity zs row = weighted (λ c. column_activity c row) zs

-- the weights of a class's columns together
abbrev pub class_weight : List (Column × ℤ) → ℕ → ℤ
class_weight zs k = sum_at (λ e. e.0.class) (λ e. e.1) zs k

-- the master row of a number
abbrev pub master_row : List MasterRow → ℕ → MasterRow
master_row rows row = slice_index_or rows row (record { sense = Eq; low = pos 0; rhs = pos 0 })

-- how many blocks a class has
abbrev pub class_size : List ℕ → ℕ → ℕ
class_size counts k = slice_index_or counts k 0

-- what multipliers and least prices give: multipliers times sides, and counts times least prices
abbrev pub dual_value : List MasterRow → List ℕ → List ℤ → List ℤ → ℤ
dual_value rows counts mults convex =
    sum_of (λ i. multiplier mults i *ℤ side (master_row rows i) (multiplier mults i)) (range_with_len 0 (length rows))
    +ℤ sum_of (λ k. pos (class_size counts k) *ℤ slice_index_or convex k (pos 0)) (range_with_len 0 (length counts))

-- the weighted cost less what multipliers and least prices give
abbrev pub gap : List MasterRow → List ℕ → List (Column × ℤ) → List ℤ → List ℤ → ℤ
gap rows counts zs mults convex = weighted_cost zs -ℤ dual_value rows counts mults convex

-- how far a sum misses the sides that its sense has
abbrev pub side_miss : Sense → (low rhs sum : ℤ) → ℕ
side_miss Le low rhs sum = int_gap rhs sum
side_miss Ge low rhs sum = int_gap sum low
side_miss Eq low rhs sum = int_gap sum low + int_gap rhs sum
side_miss In low rhs sum = int_gap sum low + int_gap rhs sum

-- how far weighted columns miss a row's sides in units
abbrev pub row_short : List MasterRow → List (Column × ℤ) → ℕ → ℕ
row_short rows zs i =
    side_miss (master_row rows i).sense (pos one_weight *ℤ (master_row rows i).low) (pos one_weight *ℤ (master_row rows i).rhs) (weighted_activity zs i)

-- how far a class's weights are from its count in units
abbrev pub class_short : List ℕ → List (Column × ℤ) → ℕ → ℕ
class_short counts zs k = unsigned_abs (class_weight zs k -ℤ pos one_weight *ℤ pos (class_size counts k))

-- how far weighted columns miss rows and counts, together
abbrev pub short : List MasterRow → List ℕ → List (Column × ℤ) → ℕ
short rows counts zs =
    sum_by (row_short rows zs) (range_with_len 0 (length rows)) + sum_by (class_short counts zs) (range_with_len 0 (length counts))

-- weighted columns meet each row with its sides times a number, and each class's count times that number
pub record FitsTimes (n : ℕ) (rows : List MasterRow) (counts : List ℕ) (zs : List (Column × ℤ)) : Type 0 where
  pub activities : (i : ℕ) → i < length rows
      → Meets (master_row rows i).sense (pos n *ℤ (master_row rows i).low) (pos n *ℤ (master_row rows i).rhs) (weighted_activity zs i)
  pub classes : (k : ℕ) → k < length counts → class_weight zs k ≡ pos n *ℤ pos (class_size counts k)

-- each row's multiplier is 0 or of fitting sign
abbrev pub HaveFittingSigns : List MasterRow → List ℤ → Type 0
HaveFittingSigns rows mults =
    (i : ℕ) → i < length rows → (multiplier mults i ≡ pos 0) ⊎ SignFitsSense (master_row rows i).sense (multiplier mults i)

-- a column's class and rows are there
pub record IsKnownColumn (row_count classes : ℕ) (c : Column) : Type 0 where
  pub class : c.class < classes
  pub rows : All (λ e. e.0 < row_count) c.acts
