-- The least costs from nodes to the end, and the arcs that reach them.
use Rattle.std.specs.Prelude.{◌≡◌, ℕ, ◌-◌, ◌^◌, ◌<◌, ◌≤◌, unsigned_abs, List, [], ◌∷◌, length, slice_index_or, slice_set, ◌⊎◌, ℤ, pos, ◌+ℤ◌, ◌*ℤ◌, ◌<ℤ◌, ◌≤ℤ◌, if◌then◌else◌, int_lt}
use Rattle.std.specs.Int.{int_min, int_max}
use Rattle.bp_theory.specs.Sums.{dot}
use Rattle.bp_theory.specs.Program.{IsInside}
use Rattle.bp_theory.specs.declared.Span.{Span}
use Rattle.layer_graph.specs.Graphs.{arc_at, IsWay}
use Rattle.layer_graph.specs.declared.graph.Arc.{Arc}

-- the cell of a node without a way to the end
abbrev pub no_way : ℤ
no_way = pos (2 ^ 127 - 1)

-- the cell of a node
abbrev pub cell_at : List ℤ → ℕ → ℤ
cell_at cells node = slice_index_or cells node (pos 0)

-- the arc that is picked at a node
abbrev pub pick_at : List ℕ → ℕ → ℕ
pick_at picks node = slice_index_or picks node 0

-- a label and a span have a number in common
abbrev pub IsOpen : (label span : Span) → Type 0
IsOpen label span = int_max label.lo span.lo ≤ℤ int_min label.hi span.hi

-- the cheapest of these: the greatest where the cost falls with the number, else the least
abbrev pub chosen_number : (label span : Span) (cost : ℤ) → ℤ
chosen_number label span cost = if int_lt cost (pos 0) then int_min label.hi span.hi else int_max label.lo span.lo

-- cells are no way or small
abbrev pub AreBounded : (bound : ℕ) → List ℤ → Type 0
AreBounded bound cells = (node : ℕ) → node < length cells → cell_at cells node <ℤ no_way → unsigned_abs (cell_at cells node) ≤ bound

-- an arc may be taken: it has a number of the span and leads to a node with a way
pub record IsUsable (next : List ℤ) (span : Span) (arc : Arc) : Type 0 where
  pub meets : IsOpen arc.label span
  pub goes_on : cell_at next arc.to <ℤ no_way

-- the least cost by an arc
abbrev pub cost_by : (next : List ℤ) (span : Span) (cost : ℤ) → Arc → ℤ
cost_by next span cost arc = cell_at next arc.to +ℤ cost *ℤ chosen_number arc.label span cost

-- the least cost by an arc that may be taken is this
pub record IsCostBy (next : List ℤ) (span : Span) (cost : ℤ) (arc : Arc) (v : ℤ) : Type 0 where
  pub usable : IsUsable next span arc
  pub value : v ≡ cost_by next span cost arc
  pub small : unsigned_abs v ≤ 2 ^ 124

-- cells and picks after a cost and an arc were tried at a node: they are kept where the cell is no greater
abbrev pub IsTried : (cells : List ℤ) (picks : List ℕ) (node : ℕ) (total : ℤ) (place : ℕ) (now : List ℤ) (picked : List ℕ) → Type 0
IsTried cells picks node total place now picked =
    ((now ≡ cells) × (picked ≡ picks) × (cell_at cells node ≤ℤ total))
    ⊎ ((now ≡ slice_set cells node total) × (picked ≡ slice_set picks node place) × (total ≤ℤ cell_at cells node))

-- a pick is an arc below a number from a node that may be taken, at this cost
pub record IsPicked (arcs : List Arc) (next : List ℤ) (span : Span) (cost : ℤ) (end node : ℕ) (cell : ℤ) (pick : ℕ) : Type 0 where
  pub there : pick < end
  pub from : (arc_at arcs pick).from ≡ node
  pub usable : IsUsable next span (arc_at arcs pick)
  pub costs : cell ≡ cost_by next span cost (arc_at arcs pick)

-- a cell has the least cost by the arcs below a number from a node, and its pick reaches it
pub record IsBest (arcs : List Arc) (next : List ℤ) (span : Span) (cost : ℤ) (end node : ℕ) (cell : ℤ) (pick : ℕ) : Type 0 where
  pub least : (j : ℕ) → j < end → (arc_at arcs j).from ≡ node → IsUsable next span (arc_at arcs j)
      → (cell <ℤ no_way) × (cell ≤ℤ cost_by next span cost (arc_at arcs j))
  pub reached : cell <ℤ no_way → IsPicked arcs next span cost end node cell pick

-- picks lead from a node to the end within a zone
abbrev pub LeadsOn : List (List Arc) → (picks : List (List ℕ)) (zone : List Span) (node : ℕ) → Type 0
LeadsOn [] picks zone node = Unit {0}
LeadsOn (arcs ∷ steps) [] zone node = ⊥
LeadsOn (arcs ∷ steps) (p ∷ ps) [] node = ⊥
LeadsOn (arcs ∷ steps) (p ∷ ps) (s ∷ ss) node =
    (pick_at p node < length arcs) × ((arc_at arcs (pick_at p node)).from ≡ node) × IsOpen (arc_at arcs (pick_at p node)).label s
    × LeadsOn steps ps ss (arc_at arcs (pick_at p node)).to

-- the numbers of the way that picks lead from a node
abbrev pub way_of : List (List Arc) → (picks : List (List ℕ)) (zone : List Span) (costs : List ℤ) (node : ℕ) → List ℤ
way_of [] picks zone costs node = []
way_of (arcs ∷ steps) [] zone costs node = []
way_of (arcs ∷ steps) (p ∷ ps) [] costs node = []
way_of (arcs ∷ steps) (p ∷ ps) (s ∷ ss) [] node = []
way_of (arcs ∷ steps) (p ∷ ps) (s ∷ ss) (r ∷ rs) node =
    chosen_number (arc_at arcs (pick_at p node)).label s r ∷ way_of steps ps ss rs (arc_at arcs (pick_at p node)).to

-- picks lead from a node to the end at this cost
pub record IsReached (steps : List (List Arc)) (picks : List (List ℕ)) (zone : List Span) (costs : List ℤ) (node : ℕ) (cell : ℤ) : Type 0 where
  pub leads : LeadsOn steps picks zone node
  pub value : dot costs (way_of steps picks zone costs node) ≡ cell

-- a cell is at most the cost of each way within a zone from a node, and the picks reach it
pub record IsLeastFrom (steps : List (List Arc)) (picks : List (List ℕ)) (zone : List Span) (costs : List ℤ) (node : ℕ) (cell : ℤ) : Type 0 where
  pub least : (ys : List ℤ) → IsWay steps node ys → IsInside zone ys → (cell <ℤ no_way) × (cell ≤ℤ dot costs ys)
  pub reached : cell <ℤ no_way → IsReached steps picks zone costs node cell

-- the cells of all nodes below a number are
abbrev pub AreLeast : List (List Arc) → (picks : List (List ℕ)) (zone : List Span) (costs : List ℤ) (wide : ℕ) (cells : List ℤ) → Type 0
AreLeast steps picks zone costs wide cells = (node : ℕ) → node < wide → IsLeastFrom steps picks zone costs node (cell_at cells node)
