-- The choice of a weight in a table, and of a load.
use Rattle.std.specs.Prelude.{◌≡◌, ℕ, ◌<◌, ◌≤◌, Option, Some, None, List, ℤ, pos, ◌+ℤ◌, ◌<ℤ◌, ◌≤ℤ◌}
use Rattle.bp_theory.specs.Program.{Meets}
use Rattle.bp_theory.specs.declared.Row.{Row}
use Rattle.bp_theory.specs.declared.Span.{Span}
use Rattle.knapsack_table.specs.declared.items.Item.{Item}
use Rattle.knapsack_table.specs.Loads.{IsLoad, load, worth, point_of}

-- a weight's cell is cheaper than that of a known weight, or less than a limit where none is known
abbrev pub IsBetter : (limit : ℤ) → (ℕ → ℤ) → ℕ → Option ℕ → Type 0
IsBetter limit cells c None = cells c <ℤ limit
IsBetter limit cells c (Some b) = cells c <ℤ cells b

-- a row is met at a weight
abbrev pub MeetsAt : Row → ℤ → ℕ → Type 0
MeetsAt row base c = Meets row.sense row.low row.rhs (base +ℤ pos c)

-- among the weights below an end that meet the row and whose cells are less than a limit one of least cost, or none where
-- there is none
abbrev pub IsChosen : (limit : ℤ) → (ℕ → ℤ) → Row → ℤ → (end : ℕ) → Option ℕ → Type 0
IsChosen limit cells row base end None = (c : ℕ) → c < end → MeetsAt row base c → cells c <ℤ limit → ⊥
IsChosen limit cells row base end (Some b) =
    (b < end) × MeetsAt row base b × (cells b <ℤ limit)
    × ((c : ℕ) → c < end → MeetsAt row base c → cells b ≤ℤ cells c)

-- a load whose weight is at most a greatest one and meets the row
pub record IsMeeting (items : List Item) (row : Row) (base : ℤ) (top : ℕ) (us : List ℕ) : Type 0 where
  pub fits : IsLoad items us
  pub within : load items us ≤ top
  pub meets : MeetsAt row base (load items us)

-- no load is one
abbrev pub HasNoLoad : List Item → Row → ℤ → ℕ → Type 0
HasNoLoad items row base top = (us : List ℕ) → IsMeeting items row base top us → ⊥

-- one of least cost
pub record IsLeastLoad (items : List Item) (row : Row) (base : ℤ) (top : ℕ) (us : List ℕ) (v : ℤ) : Type 0 where
  pub way : IsMeeting items row base top us
  pub costs : worth items us ≡ v
  pub least : (others : List ℕ) → IsMeeting items row base top others → v ≤ℤ worth items others

-- a point is that of one of least cost
abbrev pub IsPicked : List Item → Row → ℤ → ℕ → List ℤ → List Span → List ℤ → List ℤ → ℤ → Type 0
IsPicked items row base top coefs zone costs point v =
    (us : List ℕ) × IsLeastLoad items row base top us v × (point ≡ point_of coefs zone costs us)
