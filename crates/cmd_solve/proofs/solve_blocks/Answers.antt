use Rattle.std.proofs.Common.{◌∙◌, inr, refl, ap, subst, Option, List, ℕ, Err}
use Rattle.std.specs.Option.{option_map}
use Rattle.bp_shelf.specs.Shelf.{Files}
use Rattle.bp_shelf.specs.declared.shelf.ShelfFault.{ShelfFault}
use Rattle.frontend.proofs.Faults.{fails_as}
use Rattle.cmd_solve.specs.Crews.{ordered_crew}
use Rattle.cmd_solve.specs.Saves.{HoldsPartBy}
use Rattle.search_outcome.specs.Outcomes.{AsBeforeOr}
use Rattle.cmd_solve.proofs.Starting.{can_begin, alone_at, comes_from, begins, refused_from, started_answers, started_only, started_cut, started_leaves, refused_answers, refusal_only, refused_cut, refused_leaves, fault_answers, fault_only}
use Rattle.cmd_solve.proofs.CrewEvents.{started_events, none_by, printed_none, refused_apart}
use Rattle.cmd_solve.proofs.Saving.{saved_by, none_saved}
use Rattle.search_outcome.proofs.Parts.{nothing_left}
use Rattle.cmd_solve.proofs.Parts.{started_part}
use Rattle.cmd_solve.proofs.Stopping.{stops_there}
use Rattle.cmd_solve.proofs.solve_blocks.Goals as goal

-- ---- from a loaded tree

pub answer-requires-clause-loaded : goal.answer-requires-clause-loaded
answer-requires-clause-loaded g c =
    (can_begin c.in-Ok-Ready.c c.args.request.leaf c.in-Ok-Ready.field-0 c.in-Ok-Ready.from c.in-Ok-Ready.below c.in-Ok-Ready.field-0-is c.in-Ok-Ready.ensures.usable).0

pub answer-requires-clause-alone : goal.answer-requires-clause-alone
answer-requires-clause-alone g c =
    alone_at c.args.request.leaf c.in-Ok-Ready.below c.args.request.workers c.args.request.order
    (can_begin c.in-Ok-Ready.c c.args.request.leaf c.in-Ok-Ready.field-0 c.in-Ok-Ready.from c.in-Ok-Ready.below c.in-Ok-Ready.field-0-is c.in-Ok-Ready.ensures.usable).1
    c.requires.alone

pub returns-in-Ok-Ready-clause-answered : goal.returns-in-Ok-Ready-clause-answered
returns-in-Ok-Ready-clause-answered g c = λ told.
    let files = g.F.Shelf.file c.args.shelf.now in
    let from : Option (List ℕ) = option_map (λ name. name.now) c.args.request.from in
    let start = c.in-Ok-Ready.ensures.start told in
    started_answers files from c.args.request.leaf c.answer.result.steps c.args.request.cuts c.answer.result.ended.kept c.args.b c.in-Ok-Ready.c c.in-Ok-Ready.from c.in-Ok-Ready.below c.answer.result.ended.status (g.O.Sink.tells c.args.out.now) (g.O.Sink.taken c.args.out.now)
    (g.O.Sink.taken c.answer.new.out) (comes_from files from c.args.request.leaf c.args.request.cuts c.args.b c.in-Ok-Ready.c c.in-Ok-Ready.from c.in-Ok-Ready.below (rw c.in-Ok-Ready.field-0-is at start)) c.answer.ensures.answered

pub returns-in-Ok-Ready-clause-exact : goal.returns-in-Ok-Ready-clause-exact
returns-in-Ok-Ready-clause-exact g c = λ told.
    let files = g.F.Shelf.file c.args.shelf.now in
    let from : Option (List ℕ) = option_map (λ name. name.now) c.args.request.from in
    let start = c.in-Ok-Ready.ensures.start told in
    started_only files from c.args.request.leaf c.answer.result.steps c.args.request.cuts c.answer.result.ended.kept c.args.b c.in-Ok-Ready.c c.in-Ok-Ready.from c.in-Ok-Ready.below c.answer.result.ended.status
    (g.O.Sink.tells c.args.out.now) (g.O.Sink.taken c.args.out.now) (g.O.Sink.taken c.answer.new.out) c.blocks-2.ensures.formed
    (comes_from files from c.args.request.leaf c.args.request.cuts c.args.b c.in-Ok-Ready.c c.in-Ok-Ready.from c.in-Ok-Ready.below (rw c.in-Ok-Ready.field-0-is at start)) c.answer.ensures.answered

pub returns-in-Ok-Ready-clause-failed : goal.returns-in-Ok-Ready-clause-failed
returns-in-Ok-Ready-clause-failed g c = λ is_fault.
    let files = g.F.Shelf.file c.args.shelf.now in
    let from : Option (List ℕ) = option_map (λ name. name.now) c.args.request.from in
    fails_as (g.F.Shelf.write_faults c.args.shelf.now) (g.F.Shelf.write_faults c.begin.new.shelf) (g.F.Shelf.write_faults c.answer.new.shelf)
    (g.O.Sink.faults c.args.out.now) (g.O.Sink.faults c.answer.new.out) (g.O.Sink.puts c.args.out.now) (g.O.Sink.puts c.answer.new.out)
    (g.O.Sink.taken c.args.out.now) (g.O.Sink.taken c.answer.new.out) c.in-Ok-Ready.ensures.writes
    (λ stands told. let start = c.in-Ok-Ready.ensures.start told in
    started_leaves files from c.args.request.leaf c.answer.result.steps c.args.request.cuts (option_map (λ name. name.now) c.args.request.cert) (g.F.Shelf.file c.answer.new.shelf) c.args.b c.in-Ok-Ready.c c.in-Ok-Ready.from c.in-Ok-Ready.below
    (comes_from files from c.args.request.leaf c.args.request.cuts c.args.b c.in-Ok-Ready.c c.in-Ok-Ready.from c.in-Ok-Ready.below (rw c.in-Ok-Ready.field-0-is at start)) (stands (c.in-Ok-Ready.ensures.told ∙ told)))
    (c.answer.ensures.failed is_fault)

pub returns-in-Ok-Ready-clause-cut_off : goal.returns-in-Ok-Ready-clause-cut_off
returns-in-Ok-Ready-clause-cut_off g c = λ told.
    let files = g.F.Shelf.file c.args.shelf.now in
    let from : Option (List ℕ) = option_map (λ name. name.now) c.args.request.from in
    let start = c.in-Ok-Ready.ensures.start told in
    started_cut files from c.args.request.leaf c.answer.result.steps c.args.request.cuts c.args.b c.in-Ok-Ready.c c.in-Ok-Ready.from c.in-Ok-Ready.below c.answer.result.ended.status c.answer.result.ended.lost (g.O.Sink.tells c.args.out.now)
    (g.O.Sink.taken c.args.out.now) (g.O.Sink.taken c.answer.new.out) (comes_from files from c.args.request.leaf c.args.request.cuts c.args.b c.in-Ok-Ready.c c.in-Ok-Ready.from c.in-Ok-Ready.below (rw c.in-Ok-Ready.field-0-is at start)) c.answer.ensures.cut_off

-- ---- refused as a start

pub returns-in-Ok-Refused-clause-answered : goal.returns-in-Ok-Refused-clause-answered
returns-in-Ok-Refused-clause-answered g c = λ told.
    let files = g.F.Shelf.file c.args.shelf.now in
    let from : Option (List ℕ) = option_map (λ name. name.now) c.args.request.from in
    let start = c.in-Ok-Refused.ensures.start told in
    refused_answers files from c.args.request.leaf c.args.request.steps c.args.request.cuts c.print.result.kept c.args.b c.in-Ok-Refused.reply c.print.result.status (g.O.Sink.tells c.args.out.now) (g.O.Sink.taken c.args.out.now)
    (g.O.Sink.taken c.print.new.out) (refused_from files from c.args.request.leaf c.args.request.cuts c.args.b c.in-Ok-Refused.reply (rw c.in-Ok-Refused.field-0-is at start)) c.print.ensures.status c.print.ensures.kept
    c.print.ensures.printed

pub returns-in-Ok-Refused-clause-exact : goal.returns-in-Ok-Refused-clause-exact
returns-in-Ok-Refused-clause-exact g c = λ told.
    let files = g.F.Shelf.file c.args.shelf.now in
    let from : Option (List ℕ) = option_map (λ name. name.now) c.args.request.from in
    let start = c.in-Ok-Refused.ensures.start told in
    refusal_only files from c.args.request.leaf c.args.request.steps c.args.request.cuts c.print.result.kept c.args.b c.in-Ok-Refused.reply c.print.result.status c.blocks-2.ensures.formed
    (refused_from files from c.args.request.leaf c.args.request.cuts c.args.b c.in-Ok-Refused.reply (rw c.in-Ok-Refused.field-0-is at start)) c.print.ensures.status

pub returns-in-Ok-Refused-clause-failed : goal.returns-in-Ok-Refused-clause-failed
returns-in-Ok-Refused-clause-failed g c = λ is_fault. inr (record {
  rose = c.print.ensures.fault is_fault;
  no_write = c.in-Ok-Refused.ensures.writes;
  once = c.print.ensures.once;
  stands = λ told.
      let files = g.F.Shelf.file c.args.shelf.now in
      let from : Option (List ℕ) = option_map (λ name. name.now) c.args.request.from in
      let start = c.in-Ok-Refused.ensures.start told in
      refused_leaves files from c.args.request.leaf c.args.request.steps c.args.request.cuts (option_map (λ name. name.now) c.args.request.cert) (g.F.Shelf.file c.begin.new.shelf) c.args.b c.in-Ok-Refused.reply
      (refused_from files from c.args.request.leaf c.args.request.cuts c.args.b c.in-Ok-Refused.reply (rw c.in-Ok-Refused.field-0-is at start)) c.in-Ok-Refused.ensures.files;
})

pub returns-in-Ok-Refused-clause-cut_off : goal.returns-in-Ok-Refused-clause-cut_off
returns-in-Ok-Refused-clause-cut_off g c = λ told.
    let files = g.F.Shelf.file c.args.shelf.now in
    let from : Option (List ℕ) = option_map (λ name. name.now) c.args.request.from in
    let start = c.in-Ok-Refused.ensures.start told in
    refused_cut files from c.args.request.leaf c.args.request.steps c.args.request.cuts c.args.b c.in-Ok-Refused.reply c.print.result.status c.print.result.lost (g.O.Sink.tells c.args.out.now) (g.O.Sink.taken c.args.out.now)
    (g.O.Sink.taken c.print.new.out) (refused_from files from c.args.request.leaf c.args.request.cuts c.args.b c.in-Ok-Refused.reply (rw c.in-Ok-Refused.field-0-is at start)) c.print.ensures.lost c.print.ensures.partly

-- ---- a file that isn't there or can't be read

pub returns-in-Err-clause-answered : goal.returns-in-Err-clause-answered
returns-in-Err-clause-answered g c = λ told.
    let files = g.F.Shelf.file c.args.shelf.now in
    let from : Option (List ℕ) = option_map (λ name. name.now) c.args.request.from in
    fault_answers files from c.args.request.leaf c.args.request.steps c.args.request.cuts c.stopped_by.result.kept c.args.b c.in-Err.fault c.stopped_by.result.status (g.O.Sink.tells c.args.out.now) (g.O.Sink.taken c.args.out.now) (g.O.Sink.taken c.args.out.now)
    (λ e. c.in-Err.ensures.missing told (ap (λ (f : ShelfFault). Err f) e)) c.stopped_by.ensures.status c.stopped_by.ensures.kept refl

pub returns-in-Err-clause-exact : goal.returns-in-Err-clause-exact
returns-in-Err-clause-exact g c = λ told.
    let files = g.F.Shelf.file c.args.shelf.now in
    let from : Option (List ℕ) = option_map (λ name. name.now) c.args.request.from in
    fault_only files from c.args.request.leaf c.args.request.steps c.args.request.cuts c.stopped_by.result.kept c.args.b c.in-Err.fault c.stopped_by.result.status
    (λ e. c.in-Err.ensures.missing told (ap (λ (f : ShelfFault). Err f) e)) c.stopped_by.ensures.status

-- ---- events

pub returns-in-Ok-Ready-clause-events : goal.returns-in-Ok-Ready-clause-events
returns-in-Ok-Ready-clause-events g c = λ told.
    let files = g.F.Shelf.file c.args.shelf.now in
    let from : Option (List ℕ) = option_map (λ name. name.now) c.args.request.from in
    let start = c.in-Ok-Ready.ensures.start told in
    started_events files from c.args.request.leaf c.answer.result.steps (ordered_crew c.args.request.workers c.args.request.order) c.args.request.cuts c.args.b c.in-Ok-Ready.c c.in-Ok-Ready.from c.in-Ok-Ready.below c.answer.result.ended.kept c.answer.result.ended.events.items
    (comes_from files from c.args.request.leaf c.args.request.cuts c.args.b c.in-Ok-Ready.c c.in-Ok-Ready.from c.in-Ok-Ready.below (rw c.in-Ok-Ready.field-0-is at start)) c.answer.ensures.events

pub returns-in-Ok-Refused-clause-events : goal.returns-in-Ok-Refused-clause-events
returns-in-Ok-Refused-clause-events g c = λ told.
    let files = g.F.Shelf.file c.args.shelf.now in
    let from : Option (List ℕ) = option_map (λ name. name.now) c.args.request.from in
    let usable = c.in-Ok-Refused.ensures.usable in
    none_by files from c.args.request.steps (ordered_crew c.args.request.workers c.args.request.order) c.args.request.cuts c.args.b c.print.result.kept c.print.result.events.items
    (printed_none c.print.result.status c.in-Ok-Refused.reply.status c.print.result.kept c.print.ensures.status c.print.ensures.kept c.print.ensures.none_kept
    (refused_apart c.in-Ok-Refused.reply.status (rw c.in-Ok-Refused.field-0-is at usable)))
    c.print.ensures.events

-- ---- what is saved

pub returns-in-Ok-Ready-clause-saved : goal.returns-in-Ok-Ready-clause-saved
returns-in-Ok-Ready-clause-saved g c = λ told.
    let files = g.F.Shelf.file c.args.shelf.now in
    let from : Option (List ℕ) = option_map (λ name. name.now) c.args.request.from in
    let start = c.in-Ok-Ready.ensures.start told in
    saved_by files from c.args.request.cuts c.args.b c.in-Ok-Ready.c c.in-Ok-Ready.from (option_map (λ name. name.now) c.args.request.cert) (g.F.Shelf.file c.answer.new.shelf)
    c.answer.result.ended.kept
    (begins files from c.args.request.leaf c.args.request.cuts c.args.b c.in-Ok-Ready.c c.in-Ok-Ready.from c.in-Ok-Ready.below
    (comes_from files from c.args.request.leaf c.args.request.cuts c.args.b c.in-Ok-Ready.c c.in-Ok-Ready.from c.in-Ok-Ready.below (rw c.in-Ok-Ready.field-0-is at start)))
    (c.answer.ensures.saved (c.in-Ok-Ready.ensures.told ∙ told))

pub returns-in-Ok-Refused-clause-saved : goal.returns-in-Ok-Refused-clause-saved
returns-in-Ok-Refused-clause-saved g c = λ told.
    let usable = c.in-Ok-Refused.ensures.usable in
    none_saved (g.F.Shelf.file c.args.shelf.now) (option_map (λ name. name.now) c.args.request.from) c.args.request.cuts c.args.b (option_map (λ name. name.now) c.args.request.cert) (g.F.Shelf.file c.begin.new.shelf)
    c.print.result.kept
    (printed_none c.print.result.status c.in-Ok-Refused.reply.status c.print.result.kept c.print.ensures.status c.print.ensures.kept c.print.ensures.none_kept
    (refused_apart c.in-Ok-Refused.reply.status (rw c.in-Ok-Refused.field-0-is at usable)))

pub returns-in-Err-clause-saved : goal.returns-in-Err-clause-saved
returns-in-Err-clause-saved g c = λ told.
    none_saved (g.F.Shelf.file c.args.shelf.now) (option_map (λ name. name.now) c.args.request.from) c.args.request.cuts c.args.b (option_map (λ name. name.now) c.args.request.cert) (g.F.Shelf.file c.begin.new.shelf)
    c.stopped_by.result.kept c.stopped_by.ensures.kept

-- ---- what stands where memory was wanting

pub returns-in-Ok-Ready-clause-part : goal.returns-in-Ok-Ready-clause-part
returns-in-Ok-Ready-clause-part g c = λ told want.
    let files = g.F.Shelf.file c.args.shelf.now in
    let from : Option (List ℕ) = option_map (λ name. name.now) c.args.request.from in
    let cert : Option (List ℕ) = option_map (λ name. name.now) c.args.request.cert in
    let start = c.in-Ok-Ready.ensures.start told in
    subst (λ (fs : Files). AsBeforeOr (HoldsPartBy files from c.args.request.leaf c.answer.result.steps c.args.request.cuts c.args.b) cert fs (g.F.Shelf.file c.answer.new.shelf)) c.in-Ok-Ready.ensures.files
    (started_part files from c.args.request.leaf c.answer.result.steps c.args.request.cuts c.args.b c.in-Ok-Ready.c c.in-Ok-Ready.from c.in-Ok-Ready.below cert (g.F.Shelf.file c.begin.new.shelf) (g.F.Shelf.file c.answer.new.shelf)
    (comes_from files from c.args.request.leaf c.args.request.cuts c.args.b c.in-Ok-Ready.c c.in-Ok-Ready.from c.in-Ok-Ready.below (rw c.in-Ok-Ready.field-0-is at start))
    (c.answer.ensures.part (c.in-Ok-Ready.ensures.told ∙ told) want))

pub returns-in-Err-clause-part : goal.returns-in-Err-clause-part
returns-in-Err-clause-part g c = λ told want.
    nothing_left (HoldsPartBy (g.F.Shelf.file c.args.shelf.now) (option_map (λ name. name.now) c.args.request.from) c.args.request.leaf c.args.request.steps c.args.request.cuts c.args.b)
    (option_map (λ name. name.now) c.args.request.cert) (g.F.Shelf.file c.args.shelf.now) (g.F.Shelf.file c.begin.new.shelf) c.in-Err.ensures.files

pub returns-in-Ok-Refused-clause-part : goal.returns-in-Ok-Refused-clause-part
returns-in-Ok-Refused-clause-part g c = λ told want.
    nothing_left (HoldsPartBy (g.F.Shelf.file c.args.shelf.now) (option_map (λ name. name.now) c.args.request.from) c.args.request.leaf c.args.request.steps c.args.request.cuts c.args.b)
    (option_map (λ name. name.now) c.args.request.cert) (g.F.Shelf.file c.args.shelf.now) (g.F.Shelf.file c.begin.new.shelf) c.in-Ok-Refused.ensures.files

-- ---- the steps

pub returns-in-Ok-Refused-clause-stops : goal.returns-in-Ok-Refused-clause-stops
returns-in-Ok-Refused-clause-stops g c = stops_there c.args.request.watched c.args.request.steps

pub returns-in-Err-clause-stops : goal.returns-in-Err-clause-stops
returns-in-Err-clause-stops g c = stops_there c.args.request.watched c.args.request.steps
