-- What a search that goes on from a tree leaves of it.
use Rattle.std.proofs.Common.{◌≡◌, ◌∙◌, sym, subst, ap, refl, ℕ, List, ◌++◌, Option, Some, None, ℤ, arith}
use Rattle.std.specs.Prelude.{◌≤ℤ◌, option_map, option_to_list, IfSome, Contains}
use Rattle.bp_theory.specs.Program.{Program, IsFeasible, cost}
use Rattle.bp_theory.specs.Blocking.{Blocking}
use Rattle.bp_theory.specs.declared.Span.{Span}
use Rattle.block_program.specs.Blocked.{BlockedProgram, IsFormed}
use Rattle.search_laws.specs.declared.Next.{Next}
use Rattle.search_laws.specs.declared.Next.TheVariants.{Shut, Fork}
use Rattle.search_laws.specs.declared.Verdict.{Verdict}
use Rattle.bp_theory.specs.Trees.{steps}
use Rattle.search_laws.specs.Grove.{live_bounds, certificate_tree}
use Rattle.search_laws.specs.GroveFacts.{IsNoDearer, IsRemainingBound, best_cost}
use Rattle.search_laws.specs.Verdicts.{IsVerdict, IsNext, better, grown, cheaper_cost}
use Rattle.search_laws.proofs.CrewProof.{verdicts_keep_lem}
use Rattle.search_laws.proofs.OutcomeProof.{search_is_right_lem}
use Rattle.open_nodes.specs.declared.turn.Turn.{Turn}
use Rattle.branch_tree.specs.Groves.{GroveState, IsLiveTurn}
use Rattle.branch_tree.specs.Adopted.{IsSearchState, point_in}
use Rattle.branch_tree.specs.declared.outcome.Outcome.{Outcome}
use Rattle.branch_tree.specs.declared.outcome.Outcome.TheVariants.{Optimal, Infeasible, Budget}
use Rattle.branch_tree.proofs.Standing.{leaf_of_turn}
use Rattle.bp_search.specs.declared.kept.Kept.{Kept}
use Rattle.bp_search.specs.Searches.{kept_point, kept_cost, as_pair, HasItsCost}
use Rattle.bp_search.specs.Ends.{EndsWithin, HasStopped, grove_in, point_of}
use Rattle.bp_search.specs.Resumed.{Extends, GoesOn, cost_in, bound_in}
use Rattle.bp_search.proofs.Extending.{IsNoLess, grown_extends, above_least, least_above}
use Rattle.bp_search.proofs.Running.{given_is}
use Rattle.bp_search.proofs.Final.{faithful}

-- a fork that a verdict allows keeps a bound no less
pub no_less : (b : Blocking) (depth : ℕ) (zone : List Span) (bound : ℤ) (best : Option ℤ) (next : Next) → IsNext b depth zone bound best next → IsNoLess bound next
no_less b depth zone bound best (Shut proof) h = tt
no_less b depth zone bound best (Fork v at proof next) h = h.no_less

pub step_extends : (b : BlockedProgram) (g : GroveState) (turn : Turn) (given : Option ℤ) (verdict : Verdict) → IsLiveTurn g turn
    → IsVerdict b.named.program b.blocking turn.depth turn.zone turn.bound given verdict → Extends g.tree (grown g.tree turn.path verdict.next)
step_extends b g turn given verdict alive right =
    grown_extends g.tree turn.path (leaf_of_turn turn) verdict.next alive.live
    (no_less b.blocking turn.depth turn.zone turn.bound (cheaper_cost (best_cost b.named.program verdict.point) given) verdict.next right.next)

pub step_cheaper : (p : Program) (best new : Option Kept) (point : Option (List ℤ)) → HasItsCost p best → HasItsCost p new
    → kept_point new ≡ better p (kept_point best) point → IsNoDearer (kept_cost new) (kept_cost best)
step_cheaper p best new point costs new_costs becomes =
    subst (λ (z : Option ℤ). IsNoDearer z (kept_cost best)) (sym (given_is p new new_costs ∙ ap (best_cost p) becomes))
    (subst (IsNoDearer (best_cost p (better p (kept_point best) point))) (sym (given_is p best costs))
    (verdicts_keep_lem.no_dearer p (kept_point best) point))

-- the bound of an outcome whose tree extends a tree from which a search goes on
bound_rises : (b : BlockedProgram) (start : GroveState) (best : Option (List ℤ × ℤ)) (most : ℕ) (outcome : Outcome) → IsFormed b → IsSearchState b start best
    → EndsWithin b most outcome → Extends start.tree (grove_in outcome).tree
    → (v : ℤ) → IsRemainingBound b.named.program start.tree (point_in best) v → IfSome (bound_in outcome) (λ w. v ≤ℤ w)
bound_rises b start best most (Optimal g point value) formed state ends extends v remains =
    subst (λ w. v ≤ℤ w) (sym ends.is_cost)
    (search_is_right_lem.bound b.named.program b.blocking start.tree (point_in best) v (faithful b formed) state.search remains point ends.best.feasible)
bound_rises b start best most (Infeasible g) formed state ends extends v remains = tt
bound_rises b start best most (Budget g pair bound) formed state ends extends v remains =
    by pair ends.kept ends.remaining.reached
  where
    p : Program
    p = b.named.program

    by : (pair : Option (List ℤ × ℤ)) → IfSome pair (λ k. IsFeasible p k.0 × (k.1 ≡ cost p k.0))
        → Contains (live_bounds g.tree ++ option_to_list (best_cost p (option_map (λ k. k.0) pair))) bound → v ≤ℤ bound
    by None kept reached = above_least start.tree g.tree None v bound extends (least_above start.tree (best_cost p (point_in best)) v remains) tt reached
    by (Some k) kept reached =
        above_least start.tree g.tree (Some (cost p k.0)) v bound extends (least_above start.tree (best_cost p (point_in best)) v remains)
        (search_is_right_lem.bound p b.blocking start.tree (point_in best) v (faithful b formed) state.search remains k.0 kept.0) reached

-- an outcome goes on from a tree that its tree extends, where its point is no dearer
pub goes_on : (b : BlockedProgram) (start : GroveState) (best : Option (List ℤ × ℤ)) (most : ℕ) (outcome : Outcome) → IsFormed b → IsSearchState b start best
    → EndsWithin b most outcome → Extends start.tree (grove_in outcome).tree → IsNoDearer (cost_in outcome) (option_map (λ k. k.1) best)
    → GoesOn b start best outcome
goes_on b start best most outcome formed state ends extends cheaper = record {
  tree = extends;
  point = cheaper;
  bound = bound_rises b start best most outcome formed state ends extends;
}

-- the cost beside an outcome's point is the point's
pub cost_is : (b : BlockedProgram) (most : ℕ) (outcome : Outcome) → EndsWithin b most outcome → best_cost b.named.program (point_of outcome) ≡ cost_in outcome
cost_is b most (Optimal g point value) ends = ap Some (sym ends.is_cost)
cost_is b most (Infeasible g) ends = refl
cost_is b most (Budget g None bound) ends = refl
cost_is b most (Budget g (Some k) bound) ends = ap Some (sym ends.kept.1)

pair_cost : (best : Option Kept) (pair : Option (List ℤ × ℤ)) → as_pair best ≡ pair → kept_cost best ≡ option_map (λ k. k.1) pair
pair_cost None pair is = ap (option_map (λ (k : List ℤ × ℤ). k.1)) is
pair_cost (Some kept) pair is = ap (option_map (λ (k : List ℤ × ℤ). k.1)) is

-- the outcome of a search whose grove and kept point come from those of the start
pub goes_on_from : (b : BlockedProgram) (start : GroveState) (pair : Option (List ℤ × ℤ)) (first last : Option Kept) (g : GroveState) (outcome : Outcome)
    → IsFormed b → IsSearchState b start pair → as_pair first ≡ pair → HasItsCost b.named.program last → Extends start.tree g.tree
    → IsNoDearer (kept_cost last) (kept_cost first) → grove_in outcome ≡ g → point_of outcome ≡ kept_point last
    → ((most : ℕ) → HasStopped most g.tree → EndsWithin b most outcome) → GoesOn b start pair outcome
goes_on_from b start pair first last g outcome formed state is costs extends cheaper grove point stops =
    let most : ℕ = steps (certificate_tree g.tree) in
    let ends : EndsWithin b most outcome = stops most (record { few = omega arith; spent = λ some. refl }) in
    let same : cost_in outcome ≡ kept_cost last =
    sym (cost_is b most outcome ends) ∙ ap (best_cost b.named.program) point ∙ sym (given_is b.named.program last costs) in
    goes_on b start pair most outcome formed state ends
    (subst (λ (h : GroveState). Extends start.tree h.tree) (sym grove) extends)
    (subst (λ (z : Option ℤ). IsNoDearer z (option_map (λ (k : List ℤ × ℤ). k.1) pair)) (sym same)
    (subst (IsNoDearer (kept_cost last)) (pair_cost first pair is) cheaper))
