-- Rows that variables join outside the master, and the decomposition that has them as its blocks.
use Rattle.std.specs.Prelude.{◌≡◌, ◌≢◌, ◌↔◌, ℕ, ◌<◌, List, [], ◌∷◌, length, Option, None, Some, Contains, slice_index_or, pos}
use Rattle.bp_theory.specs.Limits.{most_blocks}
use Rattle.bp_theory.specs.Program.{Program, coefficient}
use Rattle.bp_theory.specs.Decomposition.{Decomposition, HasPlaces}
use Rattle.bp_theory.specs.declared.Row.{Row}

-- a row of a program has a variable with a coefficient other than 0
pub record HasVariable (p : Program) (r v : ℕ) : Type 0 where
  pub there : r < length p.rows
  pub coefficient : (d : Row) → coefficient (slice_index_or p.rows r d).terms v ≢ pos 0

-- two rows have a variable in common
pub record SharesVariable (p : Program) (r s : ℕ) : Type 0 where
  pub var : ℕ
  pub first : HasVariable p r var
  pub second : HasVariable p s var

-- a row of a program outside the master
pub record IsOutside (p : Program) (master : List ℕ) (r : ℕ) : Type 0 where
  pub there : r < length p.rows
  pub outside : Contains master r → ⊥

-- rows outside the master that follow a row, up to another: each two neighbours have a variable in common
abbrev pub IsChain : Program → (master : List ℕ) → (from : ℕ) → List ℕ → (to : ℕ) → Type 0
IsChain p master r [] s = r ≡ s
IsChain p master r (t ∷ chain) s = SharesVariable p r t × IsOutside p master t × IsChain p master t chain s

-- a chain of rows outside the master leads from one row to another
pub record Joined (p : Program) (master : List ℕ) (r s : ℕ) : Type 0 where
  pub outside : IsOutside p master r
  pub chain : List ℕ
  pub steps : IsChain p master r chain s

-- the place of a row: its block, or none in the master
abbrev pub place_at : Decomposition → ℕ → Option ℕ
place_at d r = slice_index_or d.places r None

-- The decomposition of a program beside master rows: two rows outside the master share a block exactly where they are
-- joined, each block has a row, and blocks are numbered by their first row.
pub record IsFound (p : Program) (master : List ℕ) (d : Decomposition) : Type 0 where
  pub places : HasPlaces p d
  pub master_rows : (r : ℕ) → r < length p.rows → (place_at d r ≡ None) ↔ Contains master r
  pub blocks : (r s : ℕ) → IsOutside p master r → IsOutside p master s → (place_at d r ≡ place_at d s) ↔ Joined p master r s
  pub filled : (k : ℕ) → k < d.blocks → (r : ℕ) × (place_at d r ≡ Some k)
  pub numbered : (r j k : ℕ) → place_at d r ≡ Some k → j < k → (s : ℕ) × (s < r) × (place_at d s ≡ Some j)
  pub unlisted : d.listed ≡ []

-- more blocks result than a decomposition may have under the program's limits
pub record HasTooMany (p : Program) (master : List ℕ) : Type 0 where
  pub found : Decomposition
  pub is_found : IsFound p master found
  pub many : most_blocks p.limits < found.blocks

-- a decomposition has these master rows
abbrev pub HasMaster : Program → (master : List ℕ) → Decomposition → Type 0
HasMaster p master d = (r : ℕ) → r < length p.rows → (place_at d r ≡ None) ↔ Contains master r
