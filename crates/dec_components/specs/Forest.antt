-- Rows tied in a forest: each row has a parent, itself or an earlier row.
use Rattle.std.specs.Prelude.{◌≡◌, ◌⊎◌, ◌↔◌, ℕ, suc, ◌<◌, ◌≤◌, ◌==◌, Bool, true, List, take, length, Option, None, Some, IsTrue, Contains, slice_index_or, slice_index}
use Rattle.bp_theory.specs.Program.{Program}
use Rattle.dec_components.specs.Joined.{HasVariable, SharesVariable, IsOutside, Joined}

-- a row is its own parent, or an earlier row is that it is joined to
abbrev pub IsParent : Program → (master : List ℕ) → (row parent : ℕ) → Type 0
IsParent p master r s = (s ≡ r) ⊎ ((s < r) × Joined p master r s)

-- each row's parent
pub record AreParents (p : Program) (master : List ℕ) (parents : List ℕ) : Type 0 where
  pub each : length parents ≡ length p.rows
  pub parent : (r : ℕ) → r < length parents → IsParent p master r (slice_index parents r)

-- a labelling of rows gives each row its parent's label
abbrev pub Respects : (parents : List ℕ) → (label : ℕ → Option ℕ) → Type 0
Respects parents label = (r : ℕ) → r < length parents → label r ≡ label (slice_index parents r)

-- two rows are in one tree: each labelling that respects the parents gives them one label
abbrev pub AreTied : (parents : List ℕ) → (r s : ℕ) → Type 0
AreTied parents r s = (label : ℕ → Option ℕ) → Respects parents label → label r ≡ label s

-- rows that were in one tree still are
abbrev pub KeepsTied : (old new : List ℕ) → Type 0
KeepsTied old new = (label : ℕ → Option ℕ) → Respects new label → Respects old label

-- rows that were their own parents still are
abbrev pub KeepsRoots : (old new : List ℕ) → Type 0
KeepsRoots old new = (r : ℕ) → r < length old → slice_index old r ≡ r → slice_index new r ≡ r

-- for each row whether it is a master row
pub record AreMarks (p : Program) (master : List ℕ) (marks : List Bool) : Type 0 where
  pub each : length marks ≡ length p.rows
  pub mark : (r : ℕ) → r < length marks → IsTrue (slice_index_or marks r true) ↔ Contains master r

-- each row's parent is itself or an earlier row
abbrev pub IsForest : (parents : List ℕ) → Type 0
IsForest parents = (r : ℕ) → r < length parents → slice_index parents r ≤ r

-- a row and the home of a variable, a row that has it, are in one tree
pub record HasHome (parents : List ℕ) (homes : List (Option ℕ)) (row var : ℕ) : Type 0 where
  pub home : ℕ
  pub known : slice_index_or homes var None ≡ Some home
  pub tied : AreTied parents home row

-- the homes of variables are rows outside the master that have them
pub record AreHomes (p : Program) (master : List ℕ) (homes : List (Option ℕ)) : Type 0 where
  pub outside : (v h : ℕ) → slice_index_or homes v None ≡ Some h → IsOutside p master h
  pub has : (v h : ℕ) → slice_index_or homes v None ≡ Some h → HasVariable p h v

-- the homes of variables are below a number of rows
abbrev pub AreWithin : (rows : ℕ) → (homes : List (Option ℕ)) → Type 0
AreWithin rows homes = (v h : ℕ) → slice_index_or homes v None ≡ Some h → h < rows

-- homes that are known stay
abbrev pub KeepsHomes : (old new : List (Option ℕ)) → Type 0
KeepsHomes old new = (v h : ℕ) → slice_index_or old v None ≡ Some h → slice_index_or new v None ≡ Some h

-- what ties may be worked on: a forest, and homes that are rows
pub record IsReady (rows vars : ℕ) (parents : List ℕ) (homes : List (Option ℕ)) : Type 0 where
  pub each_row : length parents ≡ rows
  pub each_variable : length homes ≡ vars
  pub forest : IsForest parents
  pub within : AreWithin rows homes

-- ties that are right for a program beside master rows
pub record IsSound (p : Program) (master : List ℕ) (parents : List ℕ) (homes : List (Option ℕ)) : Type 0 where
  pub forest : AreParents p master parents
  pub known : AreHomes p master homes

-- ties that say no less than others
pub record Extends (old_parents : List ℕ) (old_homes : List (Option ℕ)) (parents : List ℕ) (homes : List (Option ℕ)) : Type 0 where
  pub tied : KeepsTied old_parents parents
  pub known : KeepsHomes old_homes homes

-- the first so many rows outside the master are in one tree with the homes of their variables
abbrev pub AreTiedHome : Program → (master : List ℕ) → (parents : List ℕ) → (homes : List (Option ℕ)) → (rows : ℕ) → Type 0
AreTiedHome p master parents homes rows = (r v : ℕ) → r < rows → IsOutside p master r → HasVariable p r v → HasHome parents homes r v

-- rows outside the master that have a variable in common are in one tree, and rows in one tree are joined
pub record IsTied (p : Program) (master : List ℕ) (parents : List ℕ) : Type 0 where
  pub forest : AreParents p master parents
  pub tied : (r s : ℕ) → IsOutside p master r → IsOutside p master s → SharesVariable p r s → AreTied parents r s

-- the blocks of the first rows: rows that share one are joined, each block has a row, blocks are numbered by their first row
pub record IsNumbered (p : Program) (master : List ℕ) (parents : List ℕ) (places : List (Option ℕ)) (blocks : ℕ) : Type 0 where
  pub few : blocks ≤ length places
  pub known : (r k : ℕ) → slice_index_or places r None ≡ Some k → k < blocks
  pub master_rows : (r : ℕ) → r < length places → (slice_index_or places r None ≡ None) ↔ Contains master r
  pub label : (r : ℕ) → r < length places → slice_index_or places r None ≡ slice_index_or places (slice_index parents r) None
  pub joined : (r s k : ℕ) → slice_index_or places r None ≡ Some k → slice_index_or places s None ≡ Some k → Joined p master r s
  pub filled : (k : ℕ) → k < blocks → (r : ℕ) × (slice_index_or places r None ≡ Some k)
  pub numbered : (r j k : ℕ) → slice_index_or places r None ≡ Some k → j < k → (s : ℕ) × (s < r) × (slice_index_or places s None ≡ Some j)
