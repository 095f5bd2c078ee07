-- The outcome of a crew's run goes on from where the run began.
use Rattle.std.proofs.Common.{◌≡◌, sym, subst, ap, refl, ℕ, List, [], ◌∷◌, length, Option, Some, None, ℤ}
use Rattle.std.specs.Prelude.{option_map, IfSome}
use Rattle.bp_theory.specs.Program.{Program, cost}
use Rattle.bp_theory.specs.Blocking.{Blocking}
use Rattle.block_program.specs.Blocked.{BlockedProgram, IsFormed}
use Rattle.search_laws.specs.declared.Event.{Event}
use Rattle.search_laws.specs.Grove.{zone_at}
use Rattle.search_laws.specs.GroveFacts.{IsNoDearer, best_cost}
use Rattle.search_laws.specs.Verdicts.{cheaper_cost}
use Rattle.search_laws.specs.Crew.{Crew, CrewEvent, takes, reports, drops as drops', Leads, IsRun}
use Rattle.search_laws.proofs.CrewProof.{verdicts_keep_lem}
use Rattle.branch_tree.specs.Adopted.{IsSearchState, point_in}
use Rattle.branch_tree.specs.declared.loaded.Loaded.{Loaded}
use Rattle.branch_tree.specs.declared.outcome.Outcome.{Outcome}
use Rattle.bp_search.specs.Ends.{EndsWithin}
use Rattle.bp_search.specs.Resumed.{Extends, GoesOn, cost_in}
use Rattle.bp_search.proofs.Extending.{extends_itself, extends_on, grown_extends, no_dearer_itself, no_dearer_on}
use Rattle.bp_search.proofs.Resuming.{no_less, goes_on, cost_is}
use Rattle.bp_crew.specs.Runs.{IsCrewRun}

-- what an event leaves of the tree and of the incumbent
record IsLater (p : Program) (before after : Crew) : Type 0 where
  tree : Extends before.tree after.tree
  cheaper : IsNoDearer (best_cost p after.best) (best_cost p before.best)

same_later : (p : Program) (before : Crew) → IsLater p before before
same_later p before = record {
  tree = extends_itself before.tree;
  cheaper = no_dearer_itself (best_cost p before.best);
}

event_later : (p : Program) (b : Blocking) (before after : Crew) (event : CrewEvent) → Leads p b before event after → IsLater p before after
event_later p b before after (takes worker path) leads = subst (IsLater p before) (sym leads.becomes) (record {
  tree = extends_itself before.tree;
  cheaper = no_dearer_itself (best_cost p before.best);
})
event_later p b before after (reports worker verdict) leads = subst (IsLater p before) (sym leads.becomes) (record {
  tree = grown_extends before.tree leads.holding.path leads.leaf verdict.next leads.live
      (no_less b (length leads.holding.path) (zone_at before.tree p.spans leads.holding.path) leads.leaf.bound
      (cheaper_cost (best_cost p verdict.point) leads.holding.given) verdict.next leads.right.next);
  cheaper = verdicts_keep_lem.no_dearer p before.best verdict.point;
})
event_later p b before after (drops' worker) leads = subst (IsLater p before) (sym leads.becomes) (record {
  tree = extends_itself before.tree;
  cheaper = no_dearer_itself (best_cost p before.best);
})

run_later : (p : Program) (b : Blocking) (first last : Crew) (events : List CrewEvent) → IsRun p b first events last → IsLater p first last
run_later p b first last [] run = subst (IsLater p first) run (same_later p first)
run_later p b first last (event ∷ events) run =
    let step = event_later p b first run.0 event run.1 in
    let rest = run_later p b run.0 last events run.2 in
    record {
      tree = extends_on first.tree run.0.tree last.tree step.tree rest.tree;
      cheaper = no_dearer_on (best_cost p last.best) (best_cost p run.0.best) (best_cost p first.best) rest.cheaper step.cheaper;
    }

pair_costs : (p : Program) (pair : Option (List ℤ × ℤ)) → IfSome pair (λ k. k.1 ≡ cost p k.0) → best_cost p (point_in pair) ≡ option_map (λ (k : List ℤ × ℤ). k.1) pair
pair_costs p None costs = refl
pair_costs p (Some k) costs = ap Some (sym costs)

pub crew_goes_on : (b : BlockedProgram) (from : Loaded) (workers order most : ℕ) (outcome : Outcome) (list : List Event) → IsFormed b → IsSearchState b from.grove from.best
    → IsCrewRun b from workers order most outcome list → EndsWithin b most outcome → GoesOn b from.grove from.best outcome
crew_goes_on b from workers order most outcome list formed state run ends =
    let p : Program = b.named.program in
    let later = run_later p b.blocking _ run.last run.events run.run in
    goes_on b from.grove from.best most outcome formed state ends
    (subst (Extends from.grove.tree) run.tree later.tree)
    (subst (IsNoDearer (cost_in outcome)) (pair_costs p from.best state.costs)
    (subst (λ (z : Option ℤ). IsNoDearer z (best_cost p (point_in from.best))) (cost_is b most outcome ends)
    (subst (λ (x : Option (List ℤ)). IsNoDearer (best_cost p x) (best_cost p (point_in from.best))) run.best later.cheaper)))
