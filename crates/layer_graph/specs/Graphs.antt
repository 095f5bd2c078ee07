-- Graphs of layers, and their ways.
use Rattle.std.specs.Prelude.{◌≡◌, ℕ, ◌<◌, ◌≤◌, ◌^◌, List, [], ◌∷◌, length, slice_index_or, ℤ, pos, All}
use Rattle.bp_theory.specs.Program.{IsWithin}
use Rattle.bp_theory.specs.Bound.{IsPoint}
use Rattle.bp_theory.specs.declared.Span.{Span}
use Rattle.bp_theory.specs.declared.Row.{Row}
use Rattle.layer_graph.specs.declared.graph.Arc.{Arc}

-- the arc of a number
abbrev pub arc_at : List Arc → ℕ → Arc
arc_at arcs j = slice_index_or arcs j (record { from = 0; to = 0; label = record { lo = pos 0; hi = pos 0 } })

-- arcs stand in the order of the nodes that they start at
abbrev pub AreOrdered : List Arc → Type 0
AreOrdered arcs = (j k : ℕ) → j ≤ k → k < length arcs → (arc_at arcs j).from ≤ (arc_at arcs k).from

-- an arc starts and ends at nodes below a number
pub record IsArcSafe (wide : ℕ) (arc : Arc) : Type 0 where
  pub from : arc.from < wide
  pub to : arc.to < wide

-- the arcs of a layer start and end at nodes below a number, and are few
pub record IsStepSafe (wide : ℕ) (arcs : List Arc) : Type 0 where
  pub few : length arcs < 2 ^ 32
  pub each : All (IsArcSafe wide) arcs

-- so are those of each layer
abbrev pub IsSafe : (wide : ℕ) → List (List Arc) → Type 0
IsSafe wide steps = All (IsStepSafe wide) steps

-- an arc of a layer starts at a node and has a number
pub record Leads (arcs : List Arc) (node : ℕ) (y : ℤ) (j : ℕ) : Type 0 where
  pub there : j < length arcs
  pub from : (arc_at arcs j).from ≡ node
  pub within : IsWithin (arc_at arcs j).label y

-- numbers of a way through the layers from a node of the first
abbrev pub IsWay : List (List Arc) → ℕ → List ℤ → Type 0
IsWay [] node [] = Unit {0}
IsWay [] node (y ∷ ys) = ⊥
IsWay (arcs ∷ steps) node [] = ⊥
IsWay (arcs ∷ steps) node (y ∷ ys) = (j : ℕ) × Leads arcs node y j × IsWay steps (arc_at arcs j).to ys

-- the ways from the root are the points of rows within spans
pub record IsGraphOf (rows : List Row) (spans : List Span) (steps : List (List Arc)) : Type 0 where
  pub sound : (ys : List ℤ) → IsWay steps 0 ys → IsPoint rows spans ys
  pub complete : (ys : List ℤ) → IsPoint rows spans ys → IsWay steps 0 ys

-- the same, as a fact that has at most one proof
pub record IsFaithful (rows : List Row) (spans : List Span) (steps : List (List Arc)) : Type 0 where
  pub sound : (ys : List ℤ) → IsWay steps 0 ys → (IsPoint rows spans ys → ⊥) → ⊥
  pub complete : (ys : List ℤ) → IsPoint rows spans ys → (IsWay steps 0 ys → ⊥) → ⊥

-- the ways from the root are the same
pub record HasSameWays (steps now : List (List Arc)) : Type 0 where
  pub onto : (ys : List ℤ) → IsWay steps 0 ys → IsWay now 0 ys
  pub back : (ys : List ℤ) → IsWay now 0 ys → IsWay steps 0 ys
