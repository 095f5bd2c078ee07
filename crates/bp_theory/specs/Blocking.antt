-- Blocks: what a bound needs to know of a decomposition, and when it stands for a program.
use Rattle.std.specs.Prelude.{◌≡◌, ℕ, ◌<◌, List, map, length, Option, Some, None, ℤ, ◌+ℤ◌, ◌*ℤ◌, slice_index_or, All, Contains, option_map}
use Rattle.std.specs.List.{flat_map, AllZip}
use Rattle.bp_theory.specs.Sums.{sum_of, sum_at}
use Rattle.bp_theory.specs.Program.{Program, value_at, coefficient, MeetsRow, Meets, IsFeasible, cost}
use Rattle.bp_theory.specs.declared.Term.{Term}
use Rattle.bp_theory.specs.declared.Row.{Row}
use Rattle.bp_theory.specs.declared.MasterRow.{MasterRow}

-- a copy of a variable in a block: its cost, and its coefficients in the rows that proofs name
pub record Copy : Type 0 where
  pub var : ℕ
  pub cost : ℤ
  pub coefs : List (ℕ × ℤ)

-- a block: its copies, and its own rows, whose terms name places among the copies
pub record Block : Type 0 where
  pub copies : List Copy
  pub rows : List Row

-- a decomposition: the cost's constant, the blocks, and the rows that proofs may name, none at a block's row
pub record Blocking : Type 0 where
  pub constant : ℤ
  pub blocks : List Block
  pub rows : List (Option MasterRow)

-- the copies of all blocks, in order
abbrev pub all_copies : Blocking → List Copy
all_copies b = flat_map (λ k. k.copies) b.blocks

-- the coefficient of a copy in a row of proofs
abbrev pub coef_in : Copy → ℕ → ℤ
coef_in c row = sum_at (λ e. e.0) (λ e. e.1) c.coefs row

-- the numbers that a point gives the copies of a block
abbrev pub restriction : List ℤ → Block → List ℤ
restriction x block = map (λ c. value_at x c.var) block.copies

-- the cost of a point, copy by copy
abbrev pub copy_cost : List ℤ → List Copy → ℤ
copy_cost x copies = sum_of (λ c. c.cost *ℤ value_at x c.var) copies

-- the activity of a point in a row of proofs, copy by copy
abbrev pub copy_activity : List ℤ → ℕ → List Copy → ℤ
copy_activity x row copies = sum_of (λ c. coef_in c row *ℤ value_at x c.var) copies

-- the row of a number, where proofs may name it
abbrev pub row_at : Blocking → ℕ → Option MasterRow
row_at b row = slice_index_or b.rows row None

-- a blocking stands for a program: at each feasible point the blocks' rows are met, the copies'
-- costs add up to the cost, and the copies' activities meet the rows of proofs
pub record IsFaithful (p : Program) (b : Blocking) : Type 0 where
  pub known : All (λ k. All (λ c. c.var < length p.spans) k.copies) b.blocks
  pub points : (x : List ℤ) → IsFeasible p x → All (λ k. All (MeetsRow (restriction x k)) k.rows) b.blocks
  pub costs : (x : List ℤ) → IsFeasible p x → b.constant +ℤ copy_cost x (all_copies b) ≡ cost p x
  pub rows : (x : List ℤ) → IsFeasible p x → (i : ℕ) (r : MasterRow) → row_at b i ≡ Some r
      → Meets r.sense r.low r.rhs (copy_activity x i (all_copies b))

-- a term stands at the place of a copy of the other's variable, with its coefficient
pub record StandsFor (block : Block) (place full : Term) : Type 0 where
  pub there : place.var < length block.copies
  pub var : (d : Copy) → (slice_index_or block.copies place.var d).var ≡ full.var
  pub coef : place.coef ≡ full.coef

-- a row of a block is a row of the program, with places among the copies for variables
pub record Mirrors (block : Block) (row full : Row) : Type 0 where
  pub sense : row.sense ≡ full.sense
  pub low : row.low ≡ full.low
  pub rhs : row.rhs ≡ full.rhs
  pub terms : AllZip (StandsFor block) row.terms full.terms

-- the sides of a row that proofs name
abbrev pub sides_of : Row → MasterRow
sides_of row = record { sense = row.sense; low = row.low; rhs = row.rhs }

-- the rows that proofs may name, in full, where each feasible point meets them
abbrev pub AreImplied : Program → List (Option Row) → Type 0
AreImplied p rows = (x : List ℤ) → IsFeasible p x → (i : ℕ) (full : Row) → slice_index_or rows i None ≡ Some full → MeetsRow x full

-- a blocking adds up to a program and the full rows of proofs: a block's rows are rows of the
-- program, a variable's copies share out its cost, and in each row of proofs its coefficient
pub record AddsUp (p : Program) (rows : List (Option Row)) (b : Blocking) : Type 0 where
  pub known : All (λ k. All (λ c. c.var < length p.spans) k.copies) b.blocks
  pub mirrored : All (λ k. All (λ row. (full : Row) × Contains p.rows full × Mirrors k row full) k.rows) b.blocks
  pub constant : b.constant ≡ p.constant
  pub costs : (v : ℕ) → sum_at (λ c. c.var) (λ c. c.cost) (all_copies b) v ≡ coefficient p.costs v
  pub sides : b.rows ≡ map (option_map sides_of) rows
  pub coefs : (i : ℕ) (full : Row) → slice_index_or rows i None ≡ Some full
      → (v : ℕ) → sum_at (λ c. c.var) (λ c. coef_in c i) (all_copies b) v ≡ coefficient full.terms v
