-- The pass in 64 bits: its cells, and the costs by its arcs.
use Rattle.std.specs.Prelude.{◌≡◌, ℕ, ◌^◌, ◌+◌, ◌-◌, ◌*◌, ◌<◌, ◌≤◌, List, map, length, unsigned_abs, ◌⊎◌, ℤ, pos, ◌*ℤ◌, ◌<ℤ◌, ◌≤ℤ◌, if◌then◌else◌, int_lt}
use Rattle.std.specs.Int.{int_min}
use Rattle.bp_theory.specs.declared.Span.{Span}
use Rattle.layer_graph.specs.Graphs.{arc_at}
use Rattle.shortest_path.specs.Best.{no_way, cell_at, IsOpen, chosen_number, IsUsable, IsCostBy}
use Rattle.layer_graph.specs.declared.graph.Arc.{Arc}

-- the cell of 64 bits of a node without a way to the end; those with a way are less
abbrev pub far : ℤ
far = pos (2 ^ 62)

-- the cost by a label without a number of the zone's span
abbrev pub closed : ℤ
closed = pos (2 ^ 62 + 2 ^ 61)

-- that of a number of a pair that the zone's span doesn't have
abbrev pub shut : ℤ
shut = pos (2 ^ 62 - 1)

-- the most that a way costs by a number of a pair
abbrev pub most_cost : ℤ
most_cost = pos (2 ^ 61)

-- what a cell of 64 bits says
abbrev pub widened_cell : ℤ → ℤ
widened_cell cell = if int_lt cell far then cell else no_way

-- what such cells say
abbrev pub widened : List ℤ → List ℤ
widened cells = map widened_cell cells

-- no cell is greater than that of no way
abbrev pub AreNear : List ℤ → Type 0
AreNear cells = (node : ℕ) → node < length cells → cell_at cells node ≤ℤ far

-- a cell for each node, and behind them one of no way, that of the dead node
pub record AreCells (wide : ℕ) (cells : List ℤ) : Type 0 where
  pub each : length cells ≡ wide + 1
  pub near : AreNear cells
  pub dead : cell_at cells wide ≡ far

-- a cell of no way, or a short one
abbrev pub IsReady : ℤ → Type 0
IsReady cell = (cell ≡ far) ⊎ (unsigned_abs cell ≤ 2 ^ 60)

-- such are the cells of what arcs lead to
abbrev pub AreReady : (next : List ℤ) → List Arc → Type 0
AreReady next arcs = (j : ℕ) → j < length arcs → IsReady (cell_at next (arc_at arcs j).to)

-- the cost of the cheapest number of a label in a span, where it has one
abbrev pub IsOwn : (label span : Span) (cost v : ℤ) → Type 0
IsOwn label span cost v = (IsOpen label span × (v ≡ cost *ℤ chosen_number label span cost)) ⊎ ((IsOpen label span → ⊥) × (v ≡ closed))

-- the cost of a number of a pair, where a span has it
abbrev pub IsCostOf : (label span : Span) (cost v : ℤ) → Type 0
IsCostOf label span cost v = (IsOpen label span × (v ≡ cost *ℤ chosen_number label span cost)) ⊎ ((IsOpen label span → ⊥) × (v ≡ shut))

-- the least cost by an arc, which is short; or the arc may not be taken, and the number is too great
abbrev pub IsTotal : (next : List ℤ) (span : Span) (cost : ℤ) (arc : Arc) (v : ℤ) → Type 0
IsTotal next span cost arc v = (IsCostBy next span cost arc v × (v <ℤ far)) ⊎ ((IsUsable next span arc → ⊥) × (far ≤ℤ v))

-- the same by a number of a pair
abbrev pub IsSum : (next : List ℤ) (span : Span) (cost : ℤ) (arc : Arc) (v : ℤ) → Type 0
IsSum next span cost arc v = (IsCostBy next span cost arc v × (v ≤ℤ most_cost)) ⊎ ((IsUsable next span arc → ⊥) × (most_cost <ℤ v))

-- the cell of a node whose numbers 0 and 1 cost this: the lesser one, if it is that of a way
abbrev pub lesser_cell : (zero one : ℤ) → ℤ
lesser_cell zero one = if int_lt most_cost (int_min one zero) then far else int_min one zero

-- which arc it is, of those that pairs stand for
abbrev pub lesser_pick : (node : ℕ) (zero one : ℤ) → ℕ
lesser_pick node zero one = if int_lt one zero then 2 * node + 1 else 2 * node
