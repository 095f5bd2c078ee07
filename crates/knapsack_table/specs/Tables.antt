-- Tables of least costs by weight: a row of cells for the items from each place on.
use Rattle.std.specs.Prelude.{◌≡◌, ℕ, suc, ◌+◌, ◌-◌, ◌*◌, ◌^◌, ◌<◌, ◌≤◌, ◌⊎◌, unsigned_abs, List, [], ◌∷◌, length, slice_index_or, ℤ, pos, ◌+ℤ◌, ◌*ℤ◌, ◌<ℤ◌, ◌≤ℤ◌}
use Rattle.knapsack_table.specs.declared.items.Item.{Item}
use Rattle.knapsack_table.specs.Loads.{IsLoad, load, worth}

-- the least cost that is none of a load's
abbrev pub no_way : ℤ
no_way = pos (2 ^ 125)

-- the cell of each weight but 0 where there are no items: no units bring it below `no_way`
abbrev pub far : ℤ
far = pos (2 ^ 126)

-- the same two numbers of tables in 64 bits
abbrev pub short_no_way : ℤ
short_no_way = pos (2 ^ 60)

abbrev pub short_far : ℤ
short_far = pos (2 ^ 61)

-- all loads' costs are less than a limit, and stay above it with a number beyond
pub record AreApart (size : ℕ) (limit beyond : ℤ) : Type 0 where
  pub below : pos size <ℤ limit
  pub above : (limit +ℤ pos size) ≤ℤ beyond

-- a load of this weight and cost
pub record Reaches (items : List Item) (us : List ℕ) (c : ℕ) (v : ℤ) : Type 0 where
  pub fits : IsLoad items us
  pub weighs : load items us ≡ c
  pub costs : worth items us ≡ v

-- each cell up to a greatest weight is a least cost of the loads of its weight, and less than a limit where it has one
abbrev pub IsTable : (limit : ℤ) → List Item → (top : ℕ) → (ℕ → ℤ) → Type 0
IsTable limit items top cells =
    (c : ℕ) (us : List ℕ) → c ≤ top → IsLoad items us → load items us ≡ c → (cells c <ℤ limit) × (cells c ≤ℤ worth items us)

-- the cell at a place
abbrev pub cell_at : List ℤ → ℕ → ℤ
cell_at cells k = slice_index_or cells k (pos 0)

-- the row of cells from a place on
abbrev pub row_from : List ℤ → (start : ℕ) → ℕ → ℤ
row_from cells start c = cell_at cells (start + c)

-- the row of this number, where rows have a cell for each weight up to a greatest
abbrev pub row_at : List ℤ → (top : ℕ) → ℕ → ℕ → ℤ
row_at cells top j = row_from cells (j * (top + 1))

-- a cell comes from one of the row above by so many units of an item
abbrev pub Follows : Item → (above : ℕ → ℤ) → (c : ℕ) → (cell : ℤ) → (units : ℕ) → Type 0
Follows item above c cell units = (item.weight * units ≤ c) × (cell ≡ above (c - item.weight * units) +ℤ item.cost *ℤ pos units)

-- the least costs with at most so many units of an item more than in the row above
pub record IsTried (item : Item) (units top : ℕ) (above now : ℕ → ℤ) : Type 0 where
  pub least : (c u : ℕ) → c ≤ top → u ≤ units → item.weight * u ≤ c → now c ≤ℤ (above (c - item.weight * u) +ℤ item.cost *ℤ pos u)
  pub reached : (c : ℕ) → c ≤ top → (u : ℕ) × (u ≤ units) × Follows item above c (now c) u

-- the row of no items: one load of no weight, which costs nothing, and a number beyond all costs at each other weight
pub record IsFirstRow (beyond : ℤ) (top : ℕ) (row : ℕ → ℤ) : Type 0 where
  pub none : row 0 ≡ pos 0
  pub others : (c : ℕ) → 0 < c → c ≤ top → row c ≡ beyond

-- rows of least costs, the last one of all items, and before it those without the first
abbrev pub AreRows : (beyond : ℤ) → List Item → (top : ℕ) → (rows : ℕ → ℕ → ℤ) → Type 0
AreRows beyond [] top rows = IsFirstRow beyond top (rows 0)
AreRows beyond (i ∷ is) top rows = IsTried i i.width top (rows (length is)) (rows (suc (length is))) × AreRows beyond is top rows

-- the lesser of two costs
pub record IsLesser (a b v : ℤ) : Type 0 where
  pub first : v ≤ℤ a
  pub second : v ≤ℤ b
  pub either : (v ≡ a) ⊎ (v ≡ b)

-- cells up to a greatest weight after one more part was tried: the lesser of what was there and the part's cost with the
-- cell of the weight without it
pub record HasPart (shift : ℕ) (gain : ℤ) (top : ℕ) (before now : ℕ → ℤ) : Type 0 where
  pub light : (c : ℕ) → c ≤ top → c < shift → now c ≡ before c
  pub heavy : (c : ℕ) → c ≤ top → shift ≤ c → IsLesser (before c) (before (c - shift) +ℤ gain) (now c)

-- cells are small
abbrev pub AreBounded : (bound top : ℕ) → (ℕ → ℤ) → Type 0
AreBounded bound top row = (c : ℕ) → c ≤ top → unsigned_abs (row c) ≤ bound

-- the greatest magnitude of a load's cost
abbrev pub worth_size : List Item → ℕ
worth_size [] = 0
worth_size (i ∷ is) = unsigned_abs i.cost * i.width + worth_size is

-- the weight of all items whole
abbrev pub full_load : List Item → ℕ
full_load [] = 0
full_load (i ∷ is) = i.weight * i.width + full_load is
