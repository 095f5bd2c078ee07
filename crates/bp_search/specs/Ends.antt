-- How a search may end.
use Rattle.std.specs.Prelude.{◌≡◌, ℕ, ◌+◌, ◌<◌, ◌≤◌, List, ◌++◌, Option, Some, None, option_map, option_to_list, IfSome, ℤ, ◌≤ℤ◌}
use Rattle.bp_theory.specs.Limits.{untold_steps}
use Rattle.bp_theory.specs.Program.{IsFeasible, IsBest, cost}
use Rattle.bp_theory.specs.Trees.{steps}
use Rattle.bp_theory.specs.Claims.{IsCertified}
use Rattle.bp_theory.specs.declared.Claim.{Claim}
use Rattle.block_program.specs.Blocked.{BlockedProgram}
use Rattle.search_laws.specs.Grove.{GrowingTree, live_count, live_bounds, certificate_tree}
use Rattle.search_laws.specs.GroveFacts.{IsSearch, IsLeastOf, IsRemainingBound}
use Rattle.search_laws.specs.Outcomes.{final_claim, stopped_claim, read_off}
use Rattle.branch_tree.specs.Groves.{GroveState, IsStanding}
use Rattle.branch_tree.specs.declared.outcome.Outcome.{Outcome}
use Rattle.branch_tree.specs.declared.outcome.Outcome.TheVariants.{Optimal, Infeasible, Budget}
use Rattle.bp_search.specs.declared.kept.Kept.{Kept}
use Rattle.bp_search.specs.Searches.{kept_cost, as_pair}

-- the given steps, or those of a search that is told no number of them
abbrev pub given_steps : Option ℕ → ℕ
given_steps None = untold_steps
given_steps (Some n) = n

-- a tree that was searched for no more than so many steps: its depth is within the limit, its shut leaves are settled against the
-- best point's cost, and the certificate of a claim that is read off it, with the program's cuts, is valid
pub record IsSearched (b : BlockedProgram) (most : ℕ) (g : GroveState) (best : Option (List ℤ)) (claim : Claim) : Type 0 where
  pub standing : IsStanding g
  pub root : g.root ≡ b.named.program.spans
  pub search : IsSearch b.named.program b.blocking g.tree best
  pub few : steps (certificate_tree g.tree) ≤ most
  pub certified : IsCertified b.named.program b.dec (read_off claim best b.cuts g.tree)

-- no leaf is live and the kept point is best
pub record IsOptimal (b : BlockedProgram) (most : ℕ) (g : GroveState) (point : List ℤ) (value : ℤ) : Type 0 where
  pub searched : IsSearched b most g (Some point) (final_claim b.named.program (Some point))
  pub none_live : live_count g.tree ≡ 0
  pub best : IsBest b.named.program point
  pub is_cost : value ≡ cost b.named.program point

-- no leaf is live and no point is kept, since none is feasible
pub record IsInfeasible (b : BlockedProgram) (most : ℕ) (g : GroveState) : Type 0 where
  pub searched : IsSearched b most g None (final_claim b.named.program None)
  pub none_live : live_count g.tree ≡ 0
  pub none_feasible : (x : List ℤ) → IsFeasible b.named.program x → ⊥

-- a point and its cost
abbrev pub best_point : Option (List ℤ × ℤ) → Option (List ℤ)
best_point best = option_map (λ k. k.0) best

-- all steps are taken and a leaf is live: the bound is the least of the live bounds and the best cost, and no feasible point
-- costs less
pub record IsOutOfSteps (b : BlockedProgram) (most : ℕ) (g : GroveState) (best : Option (List ℤ × ℤ)) (bound : ℤ) : Type 0 where
  pub searched : IsSearched b most g (best_point best) (stopped_claim b.named.program (best_point best) bound)
  pub spent : steps (certificate_tree g.tree) ≡ most
  pub some_live : 0 < live_count g.tree
  pub kept : IfSome best (λ k. IsFeasible b.named.program k.0 × (k.1 ≡ cost b.named.program k.0))
  pub remaining : IsRemainingBound b.named.program g.tree (best_point best) bound
  pub none_below : (x : List ℤ) → IsFeasible b.named.program x → bound ≤ℤ cost b.named.program x

-- an outcome of a program in blocks whose tree has at most so many steps
abbrev pub EndsWithin : BlockedProgram → (most : ℕ) → Outcome → Type 0
EndsWithin b most (Optimal g point value) = IsOptimal b most g point value
EndsWithin b most (Infeasible g) = IsInfeasible b most g
EndsWithin b most (Budget g best bound) = IsOutOfSteps b most g best bound

-- an outcome of a program in blocks and the given steps
abbrev pub IsOutcome : BlockedProgram → Option ℕ → Outcome → Type 0
IsOutcome b given outcome = EndsWithin b (given_steps given) outcome

-- the steps at which a search stops that goes on from a tree: those of the tree, and the given ones
abbrev pub last_step : GroveState → Option ℕ → ℕ
last_step g given = steps (certificate_tree g.tree) + given_steps given

-- the grove of an outcome, and its best point
abbrev pub grove_in : Outcome → GroveState
grove_in (Optimal g point value) = g
grove_in (Infeasible g) = g
grove_in (Budget g best bound) = g

abbrev pub point_of : Outcome → Option (List ℤ)
point_of (Optimal g point value) = Some point
point_of (Infeasible g) = None
point_of (Budget g best bound) = best_point best

-- a tree at which a search stops: no more than so many steps are taken, and all of them where a leaf is live
pub record HasStopped (most : ℕ) (t : GrowingTree) : Type 0 where
  pub few : steps (certificate_tree t) ≤ most
  pub spent : 0 < live_count t → steps (certificate_tree t) ≡ most

-- the outcome where no leaf is live
abbrev pub ended : GroveState → Option Kept → Outcome
ended g None = Infeasible g
ended g (Some k) = Optimal g k.point k.cost

-- the outcome where a leaf is live
pub record IsStopped (g : GroveState) (best : Option Kept) (outcome : Outcome) : Type 0 where
  pub bound : ℤ
  pub is_outcome : outcome ≡ Budget g (as_pair best) bound
  pub least : IsLeastOf (live_bounds g.tree ++ option_to_list (kept_cost best)) bound
