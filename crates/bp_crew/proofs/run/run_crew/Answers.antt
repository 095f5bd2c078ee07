use Rattle.std.proofs.Common.{◌≡◌, ◌∙◌, ◌+◌, sym, subst, arith}
use Rattle.bp_search.specs.Ends.{last_step, HasStopped}
use Rattle.bp_search.proofs.Final.{most_is}
use Rattle.branch_tree.specs.Groves.{GroveState}
use Rattle.bp_crew.specs.Runs.{IsDrawnTo}
use Rattle.bp_crew.proofs.Finishing.{whole_run}
use Rattle.bp_search.specs.Ends.{EndsWithin}
use Rattle.bp_crew.specs.Runs.{IsCrewRun}
use Rattle.bp_crew.proofs.GoingOn.{crew_goes_on}
use Rattle.bp_crew.proofs.run.run_crew.Goals as goal

pub returns-clause-ends : goal.returns-clause-ends
returns-clause-ends c =
    let most : c.count.result + c.unwrap_or.result ≡ last_step c.args.from.grove c.args.steps =
    omega (arith, c.count.ensures.count, c.unwrap_or.ensures, most_is c.args.steps) in
    c.conclude.ensures.ends (last_step c.args.from.grove c.args.steps)
    (subst (λ (g : GroveState). HasStopped (last_step c.args.from.grove c.args.steps) g.tree) (sym c.let_go.ensures.gone.grove)
    (subst (λ n. HasStopped n c.draw_events.new.crew.grove.tree) most
    (record { few = c.in_ok-draw_events.ensures.few; spent = c.in_ok-draw_events.ensures.over })))

pub returns-clause-run : goal.returns-clause-run
returns-clause-run c =
    let most : c.count.result + c.unwrap_or.result ≡ last_step c.args.from.grove c.args.steps =
    omega (arith, c.count.ensures.count, c.unwrap_or.ensures, most_is c.args.steps) in
    let drawn = c.in_ok-draw_events.ensures.drawn in
    whole_run c.args.b.now c.args.from c.args.workers c.args.order (last_step c.args.from.grove c.args.steps) drawn.0 drawn.1
    c.in_ok-crew.crew c.draw_events.new.crew c.let_go.new.crew c.conclude.result.0 c.conclude.result.1.items
    c.in_ok-crew.ensures.made
    (subst (λ n. IsDrawnTo c.args.b.now n c.args.order c.in_ok-crew.crew c.draw_events.new.crew drawn.0 drawn.1) most drawn.2)
    c.let_go.ensures.gone
    (λ some. c.in_ok-draw_events.ensures.over some ∙ most)
    c.conclude.ensures.grove c.conclude.ensures.point c.conclude.ensures.events

pub returns-clause-goes_on : goal.returns-clause-goes_on
returns-clause-goes_on c =
    let most : c.count.result + c.unwrap_or.result ≡ last_step c.args.from.grove c.args.steps =
    omega (arith, c.count.ensures.count, c.unwrap_or.ensures, most_is c.args.steps) in
    let last = last_step c.args.from.grove c.args.steps in
    let drawn = c.in_ok-draw_events.ensures.drawn in
    let ends : EndsWithin c.args.b.now last c.conclude.result.0 =
    c.conclude.ensures.ends last
    (subst (λ (g : GroveState). HasStopped last g.tree) (sym c.let_go.ensures.gone.grove)
    (subst (λ n. HasStopped n c.draw_events.new.crew.grove.tree) most
    (record { few = c.in_ok-draw_events.ensures.few; spent = c.in_ok-draw_events.ensures.over }))) in
    let run : IsCrewRun c.args.b.now c.args.from c.args.workers c.args.order last c.conclude.result.0 c.conclude.result.1.items =
    whole_run c.args.b.now c.args.from c.args.workers c.args.order last drawn.0 drawn.1
    c.in_ok-crew.crew c.draw_events.new.crew c.let_go.new.crew c.conclude.result.0 c.conclude.result.1.items
    c.in_ok-crew.ensures.made
    (subst (λ n. IsDrawnTo c.args.b.now n c.args.order c.in_ok-crew.crew c.draw_events.new.crew drawn.0 drawn.1) most drawn.2)
    c.let_go.ensures.gone
    (λ some. c.in_ok-draw_events.ensures.over some ∙ most)
    c.conclude.ensures.grove c.conclude.ensures.point c.conclude.ensures.events in
    crew_goes_on c.args.b.now c.args.from c.args.workers c.args.order last c.conclude.result.0 c.conclude.result.1.items
    c.blocks-2.ensures.formed c.requires.loaded run ends
