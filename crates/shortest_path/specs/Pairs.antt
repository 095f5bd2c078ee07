-- Layers of binaries by pairs: for each node what 0 and 1 lead to.
use Rattle.std.specs.Prelude.{◌≡◌, ℕ, suc, ◌+◌, ◌<◌, ◌≤◌, ◌^◌, ◌==◌, ◌⊎◌, List, [], ◌∷◌, length, slice_index_or, slice_set, ℤ, pos, if◌then◌else◌, All}
use Rattle.bp_theory.specs.declared.Span.{Span}
use Rattle.layer_graph.specs.Graphs.{arc_at, Leads}
use Rattle.layer_graph.specs.declared.graph.Arc.{Arc}
use Rattle.shortest_path.specs.declared.pairs.Pair.{Pair}

-- the pair of a node
abbrev pub pair_at : List Pair → ℕ → Pair
pair_at pairs node = slice_index_or pairs node (record { zero = 0; one = 0 })

-- the label of one number
abbrev pub label_of : ℤ → Span
label_of y = record { lo = y; hi = y }

-- that of none
abbrev pub no_label : Span
no_label = record { lo = pos 1; hi = pos 0 }

-- the label of a number that leads to a target: the dead node is led to by none
abbrev pub label_to : (dead target : ℕ) (y : ℤ) → Span
label_to dead target y = if target == dead then no_label else label_of y

-- the arc of a number that leads from a node to a target
abbrev pub arc_to : (dead node target : ℕ) (y : ℤ) → Arc
arc_to dead node target y = record { from = node; to = target; label = label_to dead target y }

-- the same where the target is not the dead node
abbrev pub arc_by : (node target : ℕ) (y : ℤ) → Arc
arc_by node target y = record { from = node; to = target; label = label_of y }

-- the arcs that pairs stand for, two for each node, of nodes from a number on
abbrev pub arcs_from : (dead node : ℕ) → List Pair → List Arc
arcs_from dead node [] = []
arcs_from dead node (p ∷ ps) = arc_to dead node p.zero (pos 0) ∷ (arc_to dead node p.one (pos 1) ∷ arcs_from dead (suc node) ps)

-- the arcs of a layer: those of its pairs, or as they are where it has none
abbrev pub arcs_with : (dead : ℕ) → List Arc → List Pair → List Arc
arcs_with dead arcs [] = arcs
arcs_with dead arcs (p ∷ ps) = arcs_from dead 0 (p ∷ ps)

-- those of each layer
abbrev pub steps_with : (dead : ℕ) → List (List Arc) → List (List Pair) → List (List Arc)
steps_with dead [] pairs = []
steps_with dead (arcs ∷ steps) [] = arcs ∷ steps
steps_with dead (arcs ∷ steps) (ps ∷ pairs) = arcs_with dead arcs ps ∷ steps_with dead steps pairs

-- how many nodes of a layer have a cell
abbrev pub cells_of : (wide : ℕ) → List Pair → ℕ
cells_of wide [] = wide
cells_of wide (p ∷ ps) = length (p ∷ ps)

-- a target is the dead node or has a cell
abbrev pub IsTarget : (dead cells target : ℕ) → Type 0
IsTarget dead cells target = (target ≡ dead → ⊥) → target < cells

-- so are both of a pair
pub record IsPairSafe (dead cells : ℕ) (pair : Pair) : Type 0 where
  pub zero : IsTarget dead cells pair.zero
  pub one : IsTarget dead cells pair.one

-- a layer has no more pairs than nodes, and what it leads to has a cell
pub record IsLinked (wide cells : ℕ) (layer : List Arc) (list : List Pair) : Type 0 where
  pub nodes : length list ≤ wide
  pub few : length list < 2 ^ 31
  pub arcs : (j : ℕ) → j < length layer → (arc_at layer j).to < cells
  pub pairs : All (IsPairSafe wide cells) list

-- the pairs of a layer, which are none behind the last
abbrev pub pairs_at : List (List Pair) → ℕ → List Pair
pairs_at pairs k = slice_index_or pairs k []

-- there are pairs of layers alone, and what each layer leads to has a cell of the next
pub record AreLinked (wide : ℕ) (steps : List (List Arc)) (pairs : List (List Pair)) : Type 0 where
  pub many : length pairs ≤ length steps
  pub each : (k : ℕ) → k < length steps → IsLinked wide (cells_of wide (pairs_at pairs (k + 1))) (slice_index_or steps k []) (pairs_at pairs k)

-- an arc that leads from a node by a number to the node that another arc leads to
pub record LeadsThere (arcs : List Arc) (node : ℕ) (y : ℤ) (to : ℕ) : Type 0 where
  pub place : ℕ
  pub leads : Leads arcs node y place
  pub there : (arc_at arcs place).to ≡ to

-- arcs lead from each node by each number to where others lead
pub record LeadAlike (arcs others : List Arc) : Type 0 where
  pub onto : (node : ℕ) (y : ℤ) (j : ℕ) → Leads arcs node y j → LeadsThere others node y (arc_at arcs j).to
  pub back : (node : ℕ) (y : ℤ) (j : ℕ) → Leads others node y j → LeadsThere arcs node y (arc_at others j).to

-- an arc by one number, 0 or 1, which the pair of its node has
abbrev pub IsInPair : (pairs : List Pair) (arc : Arc) → Type 0
IsInPair pairs arc =
    ((arc.label ≡ label_of (pos 0)) × ((pair_at pairs arc.from).zero ≡ arc.to))
    ⊎ ((arc.label ≡ label_of (pos 1)) × ((pair_at pairs arc.from).one ≡ arc.to))

-- a target of a node is the dead one, or that of one of the first arcs
abbrev pub IsOfArc : (dead : ℕ) (arcs : List Arc) (end node target : ℕ) (y : ℤ) → Type 0
IsOfArc dead arcs end node target y = (target ≡ dead) ⊎ ((j : ℕ) × (j < end) × (arc_at arcs j ≡ arc_by node target y))

-- pairs have the first arcs of a layer and no others
pub record ArePairs (dead : ℕ) (arcs : List Arc) (end : ℕ) (pairs : List Pair) : Type 0 where
  pub onto : (j : ℕ) → j < end → IsInPair pairs (arc_at arcs j)
  pub zero : (node : ℕ) → node < length pairs → IsOfArc dead arcs end node (pair_at pairs node).zero (pos 0)
  pub one : (node : ℕ) → node < length pairs → IsOfArc dead arcs end node (pair_at pairs node).one (pos 1)

-- a label is one number
abbrev pub IsNumber : Span → ℤ → Type 0
IsNumber label y = (label.lo ≡ y) × (label.hi ≡ y)

-- an arc of one number, 0 or 1, is written into the pair of its node, which had none of that number
abbrev pub IsPut : (dead : ℕ) (pairs : List Pair) (arc : Arc) (now : List Pair) → Type 0
IsPut dead pairs arc now =
    (IsNumber arc.label (pos 0) × ((pair_at pairs arc.from).zero ≡ dead)
    × (now ≡ slice_set pairs arc.from (record { zero = arc.to; one = (pair_at pairs arc.from).one })))
    ⊎ (IsNumber arc.label (pos 1) × ((pair_at pairs arc.from).one ≡ dead)
    × (now ≡ slice_set pairs arc.from (record { zero = (pair_at pairs arc.from).zero; one = arc.to })))
