use Rattle.std.proofs.Common.{◌≡◌, ◌∙◌, inr, refl, sym, subst, None, Option, List, ℕ, Bool, IsTrue}
use Rattle.std.specs.Option.{option_map}
use Rattle.bp_shelf.specs.Shelf.{Files}
use Rattle.branch_tree.specs.declared.outcome.Outcome.{Outcome}
use Rattle.frontend.specs.Answers.{stopped, AnswersBy, IsOnly, CutsOff}
use Rattle.frontend.proofs.Faults.{fails_as}
use Rattle.frontend.proofs.Lifts.{lift_answers, lift_only, lift_cut, stop_only, fault_only, printed_status}
use Rattle.cmd_solve.specs.Saves.{LeavesBy, SavesBy, searched, HoldsPartBy}
use Rattle.search_outcome.specs.Outcomes.{AsBeforeOr}
use Rattle.cmd_solve.specs.Saves as leaves
use Rattle.cmd_solve.specs.Solves.{SolvesBy}
use Rattle.cmd_solve.specs.Crews.{ordered_crew, EventsBy}
use Rattle.cmd_solve.proofs.Saving.{lift_saved}
use Rattle.cmd_solve.proofs.CrewEvents.{lift_events, none_of, printed_none}
use Rattle.cmd_solve.proofs.Parts.{lift_part, untouched_part}
use Rattle.cmd_solve.proofs.Stopping.{stops_there}
use Rattle.cmd_solve.proofs.solve.Goals as goal

pub returns-in-Ok-clause-answered : goal.returns-in-Ok-clause-answered
returns-in-Ok-clause-answered g c = λ told.
    let files = g.F.Shelf.file c.args.shelf.now in
    let from : Option (List ℕ) = option_map (λ name. name.now) c.args.request.from in
    let still : IsTrue (g.F.Shelf.tells c.load.new.shelf) = subst (λ (t : Bool). IsTrue t) (sym c.in-Ok.ensures.told) told in
    lift_answers c.args.sources.limits files c.args.sources.lp.now (option_map (λ name. name.now) c.args.sources.dec) (c.solve_blocks.result.ended.kept ≡ None)
    (SolvesBy files from c.args.request.leaf c.solve_blocks.result.steps c.args.request.cuts c.solve_blocks.result.ended.kept) c.in-Ok.b c.solve_blocks.result.ended.status (g.O.Sink.tells c.args.out.now) (g.O.Sink.taken c.args.out.now) (g.O.Sink.taken c.solve_blocks.new.out)
    (c.in-Ok.ensures.blocked told)
    (subst (λ (fs : Files). AnswersBy (SolvesBy fs from c.args.request.leaf c.solve_blocks.result.steps c.args.request.cuts c.solve_blocks.result.ended.kept c.in-Ok.b) c.solve_blocks.result.ended.status (g.O.Sink.tells c.args.out.now) (g.O.Sink.taken c.args.out.now) (g.O.Sink.taken c.solve_blocks.new.out))
    c.in-Ok.ensures.files (c.solve_blocks.ensures.answered still))

pub returns-in-Ok-clause-exact : goal.returns-in-Ok-clause-exact
returns-in-Ok-clause-exact g c = λ told.
    let files = g.F.Shelf.file c.args.shelf.now in
    let from : Option (List ℕ) = option_map (λ name. name.now) c.args.request.from in
    let still : IsTrue (g.F.Shelf.tells c.load.new.shelf) = subst (λ (t : Bool). IsTrue t) (sym c.in-Ok.ensures.told) told in
    lift_only c.args.sources.limits files c.args.sources.lp.now (option_map (λ name. name.now) c.args.sources.dec) (c.solve_blocks.result.ended.kept ≡ None)
    (SolvesBy files from c.args.request.leaf c.solve_blocks.result.steps c.args.request.cuts c.solve_blocks.result.ended.kept) c.in-Ok.b c.solve_blocks.result.ended.status (c.in-Ok.ensures.blocked told)
    (subst (λ (fs : Files). IsOnly (SolvesBy fs from c.args.request.leaf c.solve_blocks.result.steps c.args.request.cuts c.solve_blocks.result.ended.kept c.in-Ok.b) c.solve_blocks.result.ended.status) c.in-Ok.ensures.files (c.solve_blocks.ensures.exact still))

pub returns-in-Ok-clause-cut_off : goal.returns-in-Ok-clause-cut_off
returns-in-Ok-clause-cut_off g c = λ told.
    let files = g.F.Shelf.file c.args.shelf.now in
    let from : Option (List ℕ) = option_map (λ name. name.now) c.args.request.from in
    let still : IsTrue (g.F.Shelf.tells c.load.new.shelf) = subst (λ (t : Bool). IsTrue t) (sym c.in-Ok.ensures.told) told in
    lift_cut c.args.sources.limits files c.args.sources.lp.now (option_map (λ name. name.now) c.args.sources.dec) (λ kept. kept ≡ None)
    (λ kept. SolvesBy files from c.args.request.leaf c.solve_blocks.result.steps c.args.request.cuts kept) c.in-Ok.b c.solve_blocks.result.ended.status c.solve_blocks.result.ended.lost (g.O.Sink.tells c.args.out.now) (g.O.Sink.taken c.args.out.now)
    (g.O.Sink.taken c.solve_blocks.new.out) (c.in-Ok.ensures.blocked told)
    (subst (λ (fs : Files). CutsOff (λ (kept : Option Outcome). SolvesBy fs from c.args.request.leaf c.solve_blocks.result.steps c.args.request.cuts kept c.in-Ok.b) c.solve_blocks.result.ended.status c.solve_blocks.result.ended.lost
    (g.O.Sink.tells c.args.out.now) (g.O.Sink.taken c.args.out.now) (g.O.Sink.taken c.solve_blocks.new.out))
    c.in-Ok.ensures.files (c.solve_blocks.ensures.cut_off still))

pub returns-in-Err-Refused-clause-exact : goal.returns-in-Err-Refused-clause-exact
returns-in-Err-Refused-clause-exact g c = λ told.
    let files = g.F.Shelf.file c.args.shelf.now in
    let halts = c.in-Err-Refused.ensures.halted told in
    stop_only c.args.sources.limits files c.args.sources.lp.now (option_map (λ name. name.now) c.args.sources.dec) (c.print.result.kept ≡ None)
    (SolvesBy files (option_map (λ name. name.now) c.args.request.from) c.args.request.leaf c.args.request.steps c.args.request.cuts c.print.result.kept) c.print.result.status 3 c.in-Err-Refused.report.items
    (rw c.in-Err-Refused.field-0-is at halts) (printed_status c.print.result.status 3 c.print.ensures.status)

pub returns-in-Err-Refused-clause-cut_off : goal.returns-in-Err-Refused-clause-cut_off
returns-in-Err-Refused-clause-cut_off g c = λ told is_fault.
    let halts = c.in-Err-Refused.ensures.halted told in
    let lost = c.print.ensures.lost is_fault in (
      None,
      3,
      c.in-Err-Refused.report,
      lost,
      stopped (rw c.in-Err-Refused.field-0-is at halts) refl,
      λ heard.
          let printed = c.print.ensures.partly heard is_fault in
          (printed.0, printed.1),
    )

pub returns-in-Err-Stopped-clause-exact : goal.returns-in-Err-Stopped-clause-exact
returns-in-Err-Stopped-clause-exact g c = λ told.
    let files = g.F.Shelf.file c.args.shelf.now in
    let halts = c.in-Err-Stopped.ensures.halted told in
    fault_only c.args.sources.limits files c.args.sources.lp.now (option_map (λ name. name.now) c.args.sources.dec) (c.stopped_by.result.kept ≡ None)
    (SolvesBy files (option_map (λ name. name.now) c.args.request.from) c.args.request.leaf c.args.request.steps c.args.request.cuts c.stopped_by.result.kept) c.stopped_by.result.status c.in-Err-Stopped.fault
    (rw c.in-Err-Stopped.field-0-is at halts) c.stopped_by.ensures.status

pub returns-in-Ok-clause-failed : goal.returns-in-Ok-clause-failed
returns-in-Ok-clause-failed g c = λ is_fault.
    let from : Option (List ℕ) = option_map (λ name. name.now) c.args.request.from in
    let cert : Option (List ℕ) = option_map (λ name. name.now) c.args.request.cert in
    fails_as (g.F.Shelf.write_faults c.args.shelf.now) (g.F.Shelf.write_faults c.load.new.shelf) (g.F.Shelf.write_faults c.solve_blocks.new.shelf)
    (g.O.Sink.faults c.args.out.now) (g.O.Sink.faults c.solve_blocks.new.out) (g.O.Sink.puts c.args.out.now) (g.O.Sink.puts c.solve_blocks.new.out)
    (g.O.Sink.taken c.args.out.now) (g.O.Sink.taken c.solve_blocks.new.out) c.in-Ok.ensures.writes
    (λ stands told. searched c.in-Ok.b (c.in-Ok.ensures.blocked told)
    (subst (λ (fs : Files). LeavesBy fs from c.args.request.leaf c.solve_blocks.result.steps c.args.request.cuts cert (g.F.Shelf.file c.solve_blocks.new.shelf) c.in-Ok.b) c.in-Ok.ensures.files
    (stands (c.in-Ok.ensures.told ∙ told))))
    (c.solve_blocks.ensures.failed is_fault)

pub returns-in-Err-Refused-clause-failed : goal.returns-in-Err-Refused-clause-failed
returns-in-Err-Refused-clause-failed g c = λ is_fault. inr (record {
  rose = c.print.ensures.fault is_fault;
  no_write = c.in-Err-Refused.ensures.writes;
  once = c.print.ensures.once;
  stands = λ told.
      let halts = c.in-Err-Refused.ensures.halted told in
      leaves.stopped 3 c.in-Err-Refused.report.items (rw c.in-Err-Refused.field-0-is at halts) c.in-Err-Refused.ensures.files;
})

pub returns-in-Ok-clause-events : goal.returns-in-Ok-clause-events
returns-in-Ok-clause-events g c = λ told.
    let files = g.F.Shelf.file c.args.shelf.now in
    let from : Option (List ℕ) = option_map (λ name. name.now) c.args.request.from in
    let still : IsTrue (g.F.Shelf.tells c.load.new.shelf) = subst (λ (t : Bool). IsTrue t) (sym c.in-Ok.ensures.told) told in
    lift_events c.args.sources.limits files c.args.sources.lp.now (option_map (λ name. name.now) c.args.sources.dec) c.solve_blocks.result.steps from c.args.request.workers c.args.request.order c.args.request.cuts c.in-Ok.b c.solve_blocks.result.ended.kept
    c.solve_blocks.result.ended.events.items (c.in-Ok.ensures.blocked told)
    (subst (λ (fs : Files). EventsBy fs from c.solve_blocks.result.steps (ordered_crew c.args.request.workers c.args.request.order) c.args.request.cuts c.in-Ok.b c.solve_blocks.result.ended.kept c.solve_blocks.result.ended.events.items)
    c.in-Ok.ensures.files (c.solve_blocks.ensures.events still))

pub returns-in-Err-Refused-clause-events : goal.returns-in-Err-Refused-clause-events
returns-in-Err-Refused-clause-events g c = λ told.
    none_of c.args.sources.limits (g.F.Shelf.file c.args.shelf.now) c.args.sources.lp.now (option_map (λ name. name.now) c.args.sources.dec) c.args.request.steps (option_map (λ name. name.now) c.args.request.from) c.args.request.workers c.args.request.order c.args.request.cuts
    c.print.result.kept c.print.result.events.items
    (printed_none c.print.result.status 3 c.print.result.kept c.print.ensures.status c.print.ensures.kept c.print.ensures.none_kept (λ e. absurd (cc)))
    c.print.ensures.events

pub returns-in-Ok-clause-untouched : goal.returns-in-Ok-clause-untouched
returns-in-Ok-clause-untouched g c = λ told untouched. c.solve_blocks.ensures.untouched (c.in-Ok.ensures.told ∙ told) untouched ∙ c.in-Ok.ensures.files

pub returns-in-Ok-clause-saved : goal.returns-in-Ok-clause-saved
returns-in-Ok-clause-saved g c = λ told.
    let still : IsTrue (g.F.Shelf.tells c.load.new.shelf) = subst (λ (t : Bool). IsTrue t) (sym c.in-Ok.ensures.told) told in
    let files = g.F.Shelf.file c.args.shelf.now in
    let from : Option (List ℕ) = option_map (λ name. name.now) c.args.request.from in
    let cert : Option (List ℕ) = option_map (λ name. name.now) c.args.request.cert in
    lift_saved c.args.sources.limits files c.args.sources.lp.now (option_map (λ name. name.now) c.args.sources.dec) cert from c.args.request.cuts (g.F.Shelf.file c.solve_blocks.new.shelf) c.in-Ok.b c.solve_blocks.result.ended.kept
    (c.in-Ok.ensures.blocked told)
    (subst (λ (fs : Files). SavesBy fs from c.args.request.cuts c.in-Ok.b cert (g.F.Shelf.file c.solve_blocks.new.shelf) c.solve_blocks.result.ended.kept) c.in-Ok.ensures.files (c.solve_blocks.ensures.saved still))

pub returns-in-Ok-clause-part : goal.returns-in-Ok-clause-part
returns-in-Ok-clause-part g c = λ told want.
    let files = g.F.Shelf.file c.args.shelf.now in
    let from : Option (List ℕ) = option_map (λ name. name.now) c.args.request.from in
    let cert : Option (List ℕ) = option_map (λ name. name.now) c.args.request.cert in
    let still : IsTrue (g.F.Shelf.tells c.load.new.shelf) = subst (λ (t : Bool). IsTrue t) (sym c.in-Ok.ensures.told) told in
    lift_part c.args.sources.limits files c.args.sources.lp.now (option_map (λ name. name.now) c.args.sources.dec) c.solve_blocks.result.steps cert from c.args.request.leaf c.args.request.cuts (g.F.Shelf.file c.solve_blocks.new.shelf) c.in-Ok.b
    (c.in-Ok.ensures.blocked told)
    (subst (λ (fs : Files). AsBeforeOr (HoldsPartBy fs from c.args.request.leaf c.solve_blocks.result.steps c.args.request.cuts c.in-Ok.b) cert fs (g.F.Shelf.file c.solve_blocks.new.shelf))
    c.in-Ok.ensures.files (c.solve_blocks.ensures.part still want))

pub returns-in-Err-Stopped-clause-part : goal.returns-in-Err-Stopped-clause-part
returns-in-Err-Stopped-clause-part g c = λ told want.
    untouched_part c.args.sources.limits (g.F.Shelf.file c.args.shelf.now) c.args.sources.lp.now (option_map (λ name. name.now) c.args.sources.dec) c.args.request.steps (option_map (λ name. name.now) c.args.request.cert)
    (option_map (λ name. name.now) c.args.request.from) c.args.request.leaf c.args.request.cuts (g.F.Shelf.file c.load.new.shelf) c.in-Err-Stopped.ensures.files

pub returns-in-Err-Refused-clause-part : goal.returns-in-Err-Refused-clause-part
returns-in-Err-Refused-clause-part g c = λ told want.
    untouched_part c.args.sources.limits (g.F.Shelf.file c.args.shelf.now) c.args.sources.lp.now (option_map (λ name. name.now) c.args.sources.dec) c.args.request.steps (option_map (λ name. name.now) c.args.request.cert)
    (option_map (λ name. name.now) c.args.request.from) c.args.request.leaf c.args.request.cuts (g.F.Shelf.file c.load.new.shelf) c.in-Err-Refused.ensures.files

-- ---- the steps

pub returns-in-Err-Refused-clause-stops : goal.returns-in-Err-Refused-clause-stops
returns-in-Err-Refused-clause-stops g c = stops_there c.args.request.watched c.args.request.steps

pub returns-in-Err-Stopped-clause-stops : goal.returns-in-Err-Stopped-clause-stops
returns-in-Err-Stopped-clause-stops g c = stops_there c.args.request.watched c.args.request.steps
