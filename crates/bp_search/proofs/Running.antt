-- What stands after a step.
use Rattle.std.proofs.Common.{◌≡◌, ◌∙◌, refl, sym, ap, subst, ℕ, ◌+◌, ◌<◌, ◌≤◌, ◌^◌, List, Option, Some, None, ℤ, length, arith}
use Rattle.std.specs.Prelude.{IfSome, unsigned_abs}
use Rattle.std.proofs.lemmas.Int.{ints}
use Rattle.bp_theory.proofs.LimitLaws.{few_deep}
use Rattle.bp_theory.specs.Program.{Program, cost}
use Rattle.bp_theory.specs.Trees.{steps}
use Rattle.bp_theory.specs.declared.Span.{Span}
use Rattle.bp_model.proofs.PointLemmas.{cost_small}
use Rattle.block_program.specs.Blocked.{BlockedProgram, IsFormed}
use Rattle.search_laws.specs.Grove.{GrowingTree, zone_at, fork_at, certificate_tree}
use Rattle.search_laws.specs.GroveFacts.{IsGrove, IsSized, IsSearch, IsNoDearer, best_cost}
use Rattle.search_laws.specs.Verdicts.{IsVerdict, IsNext, better, grown, cheaper_cost}
use Rattle.search_laws.specs.declared.Next.{Next}
use Rattle.search_laws.specs.declared.Next.TheVariants.{Shut, Fork}
use Rattle.search_laws.specs.declared.Verdict.{Verdict}
use Rattle.search_laws.proofs.DepthProof.{stays_shallow_lem}
use Rattle.search_laws.proofs.CrewProof.{verdicts_keep_lem}
use Rattle.branch_tree.specs.Groves.{GroveState, IsStanding, IsGroveOf, IsLiveTurn}
use Rattle.branch_tree.specs.Turns.{IsTurn}
use Rattle.open_nodes.specs.declared.turn.Turn.{Turn}
use Rattle.branch_tree.proofs.Standing.{kept_turn, depth_fork, leaf_of_turn}
use Rattle.bp_search.specs.declared.kept.Kept.{Kept}
use Rattle.branch_tree.specs.Adopted.{IsSearchState, point_in}
use Rattle.branch_tree.specs.Loads.{IsFresh}
use Rattle.branch_tree.specs.declared.loaded.Loaded.{Loaded}
use Rattle.bp_search.specs.Searches.{kept_point, kept_cost, as_pair, HasItsCost, IsRunning, CanGrow}
use Rattle.bp_search.specs.Ends.{given_steps, last_step}

-- the kept cost is that of the kept point
pub given_is : (p : Program) (best : Option Kept) → HasItsCost p best → kept_cost best ≡ best_cost p (kept_point best)
given_is p None h = refl
given_is p (Some k) h = ap Some h

pub is_sized : (b : BlockedProgram) → IsFormed b → IsSized b.named.program
is_sized b formed = record { proper = formed.kept.proper; bits = formed.kept.bits }

pub grove_of : (b : BlockedProgram) (g : GroveState) (best : Option Kept) → IsRunning b g best → IsGroveOf b g
grove_of b g best run = record {
  root = run.root;
  kept = subst (λ zone. IsGrove b.blocking zone g.tree) (sym run.root) run.search.grove;
}

pub turn_of : (b : BlockedProgram) (g : GroveState) (best : Option Kept) (turn : Turn) → IsRunning b g best → IsLiveTurn g turn → IsTurn b turn
turn_of b g best turn run alive = kept_turn b g turn (grove_of b g best run) run.standing alive

-- the kept cost is small
pub small_cost : (b : BlockedProgram) (g : GroveState) (best : Option Kept) → IsFormed b → IsRunning b g best
    → IfSome (kept_cost best) (λ z. unsigned_abs z < 2 ^ 62)
small_cost b g None formed run = tt
small_cost b g (Some k) formed run =
    subst (λ z. unsigned_abs z < 2 ^ 62) (sym run.costs) (cost_small b.named k.point formed.kept run.search.feasible.inside)

-- the verdict on a turn is one on the leaf at its path
zone_of_turn : (b : BlockedProgram) (g : GroveState) (turn : Turn) → g.root ≡ b.named.program.spans → IsLiveTurn g turn
    → turn.zone ≡ zone_at g.tree b.named.program.spans turn.path
zone_of_turn b g turn root alive = alive.in_zone ∙ ap (λ (spans : List Span). zone_at g.tree spans turn.path) root

pub at_path : (b : BlockedProgram) (g : GroveState) (best : Option Kept) (turn : Turn) (given : Option ℤ) (verdict : Verdict) → IsRunning b g best → IsLiveTurn g turn
    → IsVerdict b.named.program b.blocking turn.depth turn.zone turn.bound given verdict
    → IsVerdict b.named.program b.blocking (length turn.path) (zone_at g.tree b.named.program.spans turn.path) turn.bound given verdict
at_path b g best turn given verdict run alive right =
    subst (λ d. IsVerdict b.named.program b.blocking d (zone_at g.tree b.named.program.spans turn.path) turn.bound given verdict) alive.far
    (subst (λ zone. IsVerdict b.named.program b.blocking turn.depth zone turn.bound given verdict) (zone_of_turn b g turn run.root alive) right)

no_dearer_itself : (z : Option ℤ) → IsNoDearer z z
no_dearer_itself None = tt
no_dearer_itself (Some z) = omega (arith, ints)

-- a leaf may be shut or forked as its verdict says
pub can_grow : (b : BlockedProgram) (g : GroveState) (best : Option Kept) (turn : Turn) (given : Option ℤ) (verdict : Verdict) → IsFormed b → IsRunning b g best
    → IsLiveTurn g turn → IsVerdict b.named.program b.blocking turn.depth turn.zone turn.bound given verdict → CanGrow b.blocking turn verdict.next
can_grow b g best turn given verdict formed run alive right =
    by verdict.next right.next (at_path b g best turn given verdict run alive right).next
  where
    known : Option ℤ
    known = cheaper_cost (best_cost b.named.program verdict.point) given

    by : (next : Next) → IsNext b.blocking turn.depth turn.zone turn.bound known next
        → IsNext b.blocking (length turn.path) (zone_at g.tree b.named.program.spans turn.path) turn.bound known next → CanGrow b.blocking turn next
    by (Shut proof) h k = h.0
    by (Fork v at proof bound) h k =
        let p : Program = b.named.program in
        let shallow = stays_shallow_lem.forked p g.tree turn.path (leaf_of_turn turn) v at proof bound (is_sized b formed) run.search.grove.splits alive.live
        k.split k.timely run.search.shallow in
        let most = stays_shallow_lem.depth p.limits (fork_at g.tree turn.path v at proof bound) p.spans shallow in
        (h.split, h.sound, h.keeps, omega (arith, alive.far, most, few_deep p.limits, depth_fork g.tree turn.path (leaf_of_turn turn) v at proof bound alive.live))

-- the search runs on
pub runs_on : (b : BlockedProgram) (g after : GroveState) (turn : Turn) (best new : Option Kept) (given : Option ℤ) (verdict : Verdict) → IsFormed b → IsRunning b g best
    → IsLiveTurn g turn → given ≡ kept_cost best → IsVerdict b.named.program b.blocking turn.depth turn.zone turn.bound given verdict
    → after.tree ≡ grown g.tree turn.path verdict.next → after.root ≡ g.root → IsStanding after
    → kept_point new ≡ better b.named.program (kept_point best) verdict.point → HasItsCost b.named.program new
    → IsRunning b after new
runs_on b g after turn best new given verdict formed run alive given_same right becomes root standing point costs = record {
  standing = standing;
  root = root ∙ run.root;
  search = subst (λ (t : GrowingTree). IsSearch b.named.program b.blocking t (kept_point new)) (sym becomes)
      (subst (IsSearch b.named.program b.blocking (grown g.tree turn.path verdict.next)) (sym point)
      (verdicts_keep_lem.search b.named.program b.blocking g.tree (kept_point best) turn.path (leaf_of_turn turn) given verdict (is_sized b formed) run.search alive.live
      (subst (IsNoDearer (best_cost b.named.program (kept_point best))) (sym (given_same ∙ given_is b.named.program best run.costs))
      (no_dearer_itself (best_cost b.named.program (kept_point best))))
      (at_path b g best turn given verdict run alive right)));
  costs = costs;
}

-- one step more
pub one_step : (g after : GroveState) (turn : Turn) (next : Next) → IsLiveTurn g turn → after.tree ≡ grown g.tree turn.path next
    → steps (certificate_tree after.tree) ≡ steps (certificate_tree g.tree) + 1
one_step g after turn next alive becomes =
    ap (λ (t : GrowingTree). steps (certificate_tree t)) becomes ∙ verdicts_keep_lem.steps g.tree turn.path (leaf_of_turn turn) next alive.live

-- a search runs on from a loaded tree
pub running_of : (b : BlockedProgram) (g : GroveState) (best : Option Kept) (pair : Option (List ℤ × ℤ)) → IsSearchState b g pair → as_pair best ≡ pair → IsRunning b g best
running_of b g None pair h is = record {
  standing = h.standing;
  root = h.root;
  search = subst (λ (o : Option (List ℤ × ℤ)). IsSearch b.named.program b.blocking g.tree (point_in o)) (sym is) h.search;
  costs = tt;
}
running_of b g (Some k) pair h is = record {
  standing = h.standing;
  root = h.root;
  search = subst (λ (o : Option (List ℤ × ℤ)). IsSearch b.named.program b.blocking g.tree (point_in o)) (sym is) h.search;
  costs = subst (λ (o : Option (List ℤ × ℤ)). IfSome o (λ p. p.1 ≡ cost b.named.program p.0)) (sym is) h.costs;
}

-- the given steps are few
pub given_few : (given : Option ℕ) → IfSome given (λ n. n ≤ 2 ^ 60) → given_steps given ≤ 2 ^ 60
given_few None few = omega arith
given_few (Some n) few = few

-- the start of a search has taken no step
pub fresh_last : (b : BlockedProgram) (from : Loaded) (given : Option ℕ) → IsFresh b from → last_step from.grove given ≡ given_steps given
fresh_last b from given fresh =
    let none : steps (certificate_tree from.grove.tree) ≡ 0 = ap (λ (t : GrowingTree). steps (certificate_tree t)) fresh.planted.tree in
    omega (arith, none)
