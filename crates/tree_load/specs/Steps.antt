-- A walk that loads a certificate's tree by steps.
use Rattle.std.specs.Prelude.{◌≡◌, ℕ, ℤ, ◌-◌, ◌<◌, ◌<ℤ◌, ◌≤ℤ◌, List, [], ◌∷◌, ◌++◌, length, slice_set, Option}
use Rattle.bp_theory.specs.declared.Span.{Span}
use Rattle.block_program.specs.Blocked.{BlockedProgram}
use Rattle.search_laws.specs.Grove.{GrowingTree}
use Rattle.open_nodes.specs.Nodes.{growing_nodes}
use Rattle.open_nodes.specs.declared.nodes.GrowingNode.{GrowingNode}
use Rattle.cert_line_check.specs.Steps.{Step, node, to_high, back, turned, moves}
use Rattle.tree_load.specs.Nodes.{MayLoad, IsLoadedNode}
use Rattle.tree_load.specs.declared.walk.Walk.{Walk}

-- the walk in a split's high part, from behind its low one
abbrev pub walk_high : Walk → ℕ → ℤ → Span → Walk
walk_high at v s span = record at { zone = turned at.zone v s span }

-- the walk behind a split
abbrev pub walk_back : Walk → ℕ → Span → Walk
walk_back at v span = record at { zone = slice_set at.zone v span; depth = at.depth - 1 }

-- steps load these nodes in preorder, and the walk stands here behind them
abbrev pub LoadsSteps : BlockedProgram → (best : Option ℤ) → List Step → (at : Walk) → List GrowingNode → (end : Walk) → Type 0
LoadsSteps b best [] at nodes end = (nodes ≡ []) × (end ≡ at)
LoadsSteps b best (node t ∷ rest) at nodes end =
    (u : GrowingTree) × (middle : Walk) × (more : List GrowingNode) × IsLoadedNode b.named.program.limits b.blocking best at t u middle
    × (nodes ≡ growing_nodes u ++ more) × LoadsSteps b best rest middle more end
LoadsSteps b best (to_high v s span ∷ rest) at nodes end = LoadsSteps b best rest (walk_high at v s span) nodes end
LoadsSteps b best (back v span ∷ rest) at nodes end = LoadsSteps b best rest (walk_back at v span) nodes end

-- steps can be loaded
abbrev pub MayLoadSteps : BlockedProgram → (best : Option ℤ) → List Step → (at : Walk) → Type 0
MayLoadSteps b best [] at = Unit {0}
MayLoadSteps b best (node t ∷ rest) at =
    MayLoad b best at t
    × ((u : GrowingTree) (middle : Walk) → IsLoadedNode b.named.program.limits b.blocking best at t u middle → MayLoadSteps b best rest middle)
MayLoadSteps b best (to_high v s span ∷ rest) at = (v < length at.zone) × (s <ℤ span.hi) × MayLoadSteps b best rest (walk_high at v s span)
MayLoadSteps b best (back v span ∷ rest) at = (v < length at.zone) × (span.lo ≤ℤ span.hi) × (0 < at.depth) × MayLoadSteps b best rest (walk_back at v span)

-- of steps the first node is loaded, others are left, and fewer moves
pub record LoadsNode (b : BlockedProgram) (best : Option ℤ) (ahead : List Step) (at : Walk) (first : GrowingNode) (left : List Step) (now : Walk) : Type 0 where
  pub loads : (more : List GrowingNode) (end : Walk) → LoadsSteps b best left now more end → LoadsSteps b best ahead at (first ∷ more) end
  pub may : MayLoadSteps b best left now
  pub fewer : moves left < moves ahead
