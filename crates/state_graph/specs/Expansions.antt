-- One layer of a graph: from its states to those of the next.
use Rattle.std.specs.Prelude.{◌≡◌, ℕ, ◌<◌, ◌≤◌, ◌⊎◌, List, [], length, slice_index_or, ℤ, pos, ◌<ℤ◌, All}
use Rattle.bp_theory.specs.Program.{IsWithin}
use Rattle.bp_theory.specs.declared.Span.{Span}
use Rattle.state_graph.specs.Windows.{IsMoved, IsLost, IsJoined, IsVoid, AreFilled}
use Rattle.layer_graph.specs.Graphs.{arc_at, AreOrdered, Leads, IsWay}
use Rattle.state_graph.specs.Layers.{AreBare, IsCompletion}
use Rattle.layer_graph.specs.declared.graph.Arc.{Arc}
use Rattle.state_graph.specs.declared.layers.Layer.{Layer}

-- the state of a number
abbrev pub state_at : List (List Span) → ℕ → List Span
state_at states k = slice_index_or states k []

-- each state has a window for each row
abbrev pub HaveRows : (rows : ℕ) → List (List Span) → Type 0
HaveRows rows states = All (λ s. length s ≡ rows) states

-- a state that allows that no variables are left
abbrev pub IsEndState : List Span → Type 0
IsEndState state = All (λ w. IsWithin w (pos 0)) state

-- a state has this number
pub record IsStateOf (states : List (List Span)) (from : ℕ) (state : List Span) : Type 0 where
  pub there : from < length states
  pub same : state_at states from ≡ state

-- what a number of a layer's variable leaves of a state: its windows are moved, and those of twins joined
pub record IsLeft (layer : Layer) (state : List Span) (y : ℤ) (left : List Span) : Type 0 where
  pub moved : List Span
  pub moves : IsMoved layer.column layer.hulls state y moved
  pub filled : AreFilled moved
  pub joins : IsJoined layer.twins moved left

-- it leaves nothing of it: a row has nothing left, or no sums lie in the windows as they are moved
abbrev pub IsGone : (layer : Layer) (state : List Span) (y : ℤ) → Type 0
IsGone layer state y =
    IsLost layer.column layer.hulls state y ⊎ ((moved : List Span) × IsMoved layer.column layer.hulls state y moved × IsVoid layer.twins moved)

-- an arc leads from a state, by each number of its label, to the state that this number leaves
pub record IsSound (layer : Layer) (states next : List (List Span)) (arc : Arc) : Type 0 where
  pub from : arc.from < length states
  pub to : arc.to < length next
  pub within : (y : ℤ) → IsWithin arc.label y → IsWithin layer.span y
  pub moves : (y : ℤ) → IsWithin arc.label y → IsLeft layer (state_at states arc.from) y (state_at next arc.to)

-- a number leaves nothing of a state, or an arc has it
abbrev pub IsServed : (layer : Layer) (states : List (List Span)) (arcs : List Arc) (from : ℕ) (y : ℤ) → Type 0
IsServed layer states arcs from y = IsGone layer (state_at states from) y ⊎ ((j : ℕ) × Leads arcs from y j)

-- each arc is sound; the numbers of the states below one, and of that one the numbers below an end, are served
pub record IsBuilt (layer : Layer) (states : List (List Span)) (from : ℕ) (end : ℤ) (next : List (List Span)) (arcs : List Arc) : Type 0 where
  pub sound : (j : ℕ) → j < length arcs → IsSound layer states next (arc_at arcs j)
  pub before : (i : ℕ) (y : ℤ) → i < from → IsWithin layer.span y → IsServed layer states arcs i y
  pub rows : HaveRows (length layer.column) next
  pub here : (y : ℤ) → IsWithin layer.span y → y <ℤ end → IsServed layer states arcs from y
  pub ordered : AreOrdered arcs
  pub upto : (j : ℕ) → j < length arcs → (arc_at arcs j).from ≤ from
  pub ends : AreBare layer.hulls → All IsEndState next

-- each arc is sound, and each number of each state is served
pub record IsExpanded (layer : Layer) (states next : List (List Span)) (arcs : List Arc) : Type 0 where
  pub sound : (j : ℕ) → j < length arcs → IsSound layer states next (arc_at arcs j)
  pub rows : HaveRows (length layer.column) next
  pub served : (i : ℕ) (y : ℤ) → i < length states → IsWithin layer.span y → IsServed layer states arcs i y
  pub ordered : AreOrdered arcs
  pub ends : AreBare layer.hulls → All IsEndState next

-- the ways from a node are what completes its state
pub record IsRight (layers : List Layer) (state : List Span) (steps : List (List Arc)) (node : ℕ) : Type 0 where
  pub sound : (ys : List ℤ) → IsWay steps node ys → IsCompletion layers state ys
  pub complete : (ys : List ℤ) → IsCompletion layers state ys → IsWay steps node ys

-- those from each node of the first layer
abbrev pub AreRight : (layers : List Layer) (states : List (List Span)) (steps : List (List Arc)) → Type 0
AreRight layers states steps = (i : ℕ) → i < length states → IsRight layers (state_at states i) steps i
