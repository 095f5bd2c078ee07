-- What a search that goes on from a tree leaves of it.
use Rattle.std.specs.Prelude.{◌≡◌, List, Option, Some, None, option_map, IfSome, ℤ, ◌≤ℤ◌}
use Rattle.block_program.specs.Blocked.{BlockedProgram}
use Rattle.search_laws.specs.Grove.{GrowingTree, live, shut, fork}
use Rattle.search_laws.specs.GroveFacts.{IsNoDearer, IsRemainingBound}
use Rattle.branch_tree.specs.Groves.{GroveState}
use Rattle.branch_tree.specs.Adopted.{point_in}
use Rattle.branch_tree.specs.declared.outcome.Outcome.{Outcome}
use Rattle.branch_tree.specs.declared.outcome.Outcome.TheVariants.{Optimal, Infeasible, Budget}
use Rattle.bp_search.specs.Ends.{grove_in}

-- no live leaf of a tree keeps a bound below a number
abbrev pub KeepsAbove : ℤ → GrowingTree → Type 0
KeepsAbove z (live proof bound) = z ≤ℤ bound
KeepsAbove z (shut proof) = Unit {0}
KeepsAbove z (fork v at low high) = KeepsAbove z low × KeepsAbove z high

-- a tree extends another: splits and shut leaves stand as they were, and what has grown of a live leaf keeps no bound below that leaf's
abbrev pub Extends : (before after : GrowingTree) → Type 0
Extends (live proof bound) after = KeepsAbove bound after
Extends (shut proof) after = after ≡ shut proof
Extends (fork v at low high) after =
    (grown_low : GrowingTree) × (grown_high : GrowingTree) × (after ≡ fork v at grown_low grown_high) × Extends low grown_low × Extends high grown_high

-- the cost of an outcome's point
abbrev pub cost_in : Outcome → Option ℤ
cost_in (Optimal g point value) = Some value
cost_in (Infeasible g) = None
cost_in (Budget g best bound) = option_map (λ k. k.1) best

-- the dual bound of an outcome, where a point is known or a leaf is live
abbrev pub bound_in : Outcome → Option ℤ
bound_in (Optimal g point value) = Some value
bound_in (Infeasible g) = None
bound_in (Budget g best bound) = Some bound

-- an outcome goes on from a tree and its incumbent: its tree extends that tree, its point is no dearer than the incumbent, and
-- its bound is no less than what the live leaves and the incumbent left
pub record GoesOn (b : BlockedProgram) (start : GroveState) (best : Option (List ℤ × ℤ)) (outcome : Outcome) : Type 0 where
  pub tree : Extends start.tree (grove_in outcome).tree
  pub point : IsNoDearer (cost_in outcome) (option_map (λ k. k.1) best)
  pub bound : (v : ℤ) → IsRemainingBound b.named.program start.tree (point_in best) v → IfSome (bound_in outcome) (λ w. v ≤ℤ w)
