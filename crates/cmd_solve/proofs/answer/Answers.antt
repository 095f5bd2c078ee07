use Rattle.std.proofs.Common.{sym, subst, refl, List, Option}
use Rattle.search_laws.specs.declared.Event.{Event}
use Rattle.frontend.proofs.Faults.{fails_as}
use Rattle.cmd_solve.specs.Crews.{HasEventsFrom, ordered_crew}
use Rattle.cmd_solve.specs.declared.crew.CrewOrder.{CrewOrder}
use Rattle.std.specs.Option.{option_map}
use Rattle.cmd_solve.proofs.CrewEvents.{kept_with}
use Rattle.cmd_solve.proofs.Told.{within_at, answers_at, cut_at, only_at, leaves_at}
use Rattle.cmd_solve.proofs.Parts.{part_at}
use Rattle.cmd_solve.proofs.Stopping.{stops_there}
use Rattle.cmd_solve.proofs.answer.Goals as goal

pub tell-status-requires-clause-ends : goal.tell-status-requires-clause-ends
tell-status-requires-clause-ends g c =
    within_at c.args.b.now c.args.origin.from c.args.origin.below c.in-Ok.searched.steps c.in-Ok.searched.outcome c.in-Ok.searched.told c.in-Ok.ensures.ends

pub returns-clause-answered : goal.returns-clause-answered
returns-clause-answered g c =
    answers_at c.args.b.now c.args.origin.from c.args.origin.below c.in-Ok.searched.steps c.in-Ok.searched.outcome c.in-Ok.searched.told c.tell-status.result.kept c.tell-status.result.status
    (g.O.Sink.tells c.args.out.now) (g.O.Sink.taken c.args.out.now) (g.O.Sink.taken c.tell-status.new.out) c.in-Ok.ensures.ends c.tell-status.ensures.answered

pub returns-clause-exact : goal.returns-clause-exact
returns-clause-exact g c =
    only_at c.args.b.now c.args.origin.from c.args.origin.below c.in-Ok.searched.steps c.in-Ok.searched.outcome c.in-Ok.searched.told c.tell-status.result.kept c.tell-status.result.status
    c.tell-status.ensures.outcome c.tell-status.ensures.exact

pub returns-clause-failed : goal.returns-clause-failed
returns-clause-failed g c = λ is_fault.
    fails_as (g.F.Shelf.write_faults c.args.shelf.now) (g.F.Shelf.write_faults c.args.shelf.now) (g.F.Shelf.write_faults c.tell-status.new.shelf)
    (g.O.Sink.faults c.args.out.now) (g.O.Sink.faults c.tell-status.new.out) (g.O.Sink.puts c.args.out.now) (g.O.Sink.puts c.tell-status.new.out)
    (g.O.Sink.taken c.args.out.now) (g.O.Sink.taken c.tell-status.new.out) refl
    (λ stands told. leaves_at c.args.b.now c.args.origin.from c.args.origin.below c.in-Ok.searched.steps c.in-Ok.searched.outcome c.in-Ok.searched.told
    (option_map (λ name. name.now) c.args.request.cert) (g.F.Shelf.file c.tell-status.new.shelf) c.in-Ok.ensures.ends (stands told))
    (c.tell-status.ensures.failed is_fault)

pub returns-clause-cut_off : goal.returns-clause-cut_off
returns-clause-cut_off g c =
    cut_at c.args.b.now c.args.origin.from c.args.origin.below c.in-Ok.searched.steps c.in-Ok.searched.outcome c.in-Ok.searched.told c.tell-status.result.status c.tell-status.result.lost
    (g.O.Sink.tells c.args.out.now) (g.O.Sink.taken c.args.out.now) (g.O.Sink.taken c.tell-status.new.out) c.in-Ok.ensures.ends c.tell-status.ensures.cut_off

pub returns-clause-events : goal.returns-clause-events
returns-clause-events g c =
    let crew : Option CrewOrder = ordered_crew c.args.request.workers c.args.request.order in
    subst (λ (events : List Event). HasEventsFrom c.args.b.now c.args.origin.from c.in-Ok.searched.steps crew c.tell-status.result.kept events) (sym c.kept_events-events.ensures)
    (kept_with c.args.b.now c.args.origin.from c.in-Ok.searched.steps crew c.in-Ok.searched.outcome c.tell-status.result.kept c.in-Ok.searched.events.items c.in-Ok.ensures.events
    c.tell-status.ensures.outcome)

pub returns-clause-part : goal.returns-clause-part
returns-clause-part g c = λ told want.
    part_at c.args.b.now c.args.origin.from c.args.origin.below c.in-Ok.searched.steps c.in-Ok.searched.outcome c.in-Ok.searched.told (option_map (λ name. name.now) c.args.request.cert)
    (g.F.Shelf.file c.args.shelf.now) (g.F.Shelf.file c.tell-status.new.shelf) c.in-Ok.ensures.ends (c.tell-status.ensures.part told want)

pub returns-in_default-clause-stops : goal.returns-in_default-clause-stops
returns-in_default-clause-stops g c = stops_there c.args.request.watched c.args.request.steps
