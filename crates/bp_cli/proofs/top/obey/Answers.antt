use Rattle.std.proofs.Common.{inr, refl, sym, subst, None}
use Rattle.std.specs.Option.{option_map}
use Rattle.cli_orders.specs.declared.order.Order.{Order}
use Rattle.frontend.specs.Answers.{AnswersBy, IsOnly, CutsOff}
use Rattle.cmd_check.specs.Checks.{AnswersCheck}
use Rattle.cmd_decompose.specs.Shows.{AnswersShow}
use Rattle.cmd_decompose.specs.Detects.{AnswersDetect}
use Rattle.cmd_decompose.specs.Proposes.{AnswersPropose}
use Rattle.cmd_certificates.specs.Merges.{AnswersMerge}
use Rattle.cmd_certificates.specs.Migrates.{AnswersMigrate}
use Rattle.frontend.proofs.Faults.{fails_as, unput_as}
use Rattle.bp_cli.specs.Promises.{Demonstrates}
use Rattle.bp_cli.specs.Running.{AnswersOrder, HasWritten, HasPutLast, stopped_at}
use Rattle.bp_cli.proofs.OneOrder.{as_solve, as_check, as_show, as_gen, as_detect, as_propose, as_merge, as_migrate}
use Rattle.bp_cli.proofs.Words.{kept_answers, kept_only, kept_cut}
use Rattle.bp_cli.proofs.top.obey.Goals as goal

pub returns-in-Solve-clause-answered : goal.returns-in-Solve-clause-answered
returns-in-Solve-clause-answered g c = λ told.
    subst (λ (o : Order). AnswersBy (AnswersOrder (stopped_at o c.solve.result.steps) (g.F.Shelf.file c.args.shelf.now) c.solve.result.ended.kept) c.solve.result.ended.status (g.O.Sink.tells c.args.out.now) (g.O.Sink.taken c.args.out.now)
    (g.O.Sink.taken c.solve.new.out)) (as_solve c.args.order.now c.in-Solve.given c.as_str.result.now (option_map (λ name. name.now) c.named.result)
    (option_map (λ name. name.now) c.named-in-Solve.result) (option_map (λ name. name.now) c.named-in-Solve-2.result) c.in-Solve.is c.as_str.ensures c.named.ensures c.named-in-Solve.ensures c.named-in-Solve-2.ensures)
    (c.solve.ensures.answered told)

pub returns-in-Solve-clause-exact : goal.returns-in-Solve-clause-exact
returns-in-Solve-clause-exact g c = λ told.
    subst (λ (o : Order). IsOnly (AnswersOrder (stopped_at o c.solve.result.steps) (g.F.Shelf.file c.args.shelf.now) c.solve.result.ended.kept) c.solve.result.ended.status) (as_solve c.args.order.now c.in-Solve.given c.as_str.result.now (option_map (λ name. name.now) c.named.result)
    (option_map (λ name. name.now) c.named-in-Solve.result) (option_map (λ name. name.now) c.named-in-Solve-2.result) c.in-Solve.is c.as_str.ensures c.named.ensures c.named-in-Solve.ensures c.named-in-Solve-2.ensures)
    (c.solve.ensures.exact told)

pub returns-in-Solve-clause-cut_off : goal.returns-in-Solve-clause-cut_off
returns-in-Solve-clause-cut_off g c = λ told.
    subst (λ (o : Order). CutsOff (AnswersOrder (stopped_at o c.solve.result.steps) (g.F.Shelf.file c.args.shelf.now)) c.solve.result.ended.status c.solve.result.ended.lost (g.O.Sink.tells c.args.out.now) (g.O.Sink.taken c.args.out.now) (g.O.Sink.taken c.solve.new.out)) (as_solve c.args.order.now c.in-Solve.given c.as_str.result.now (option_map (λ name. name.now) c.named.result)
    (option_map (λ name. name.now) c.named-in-Solve.result) (option_map (λ name. name.now) c.named-in-Solve-2.result) c.in-Solve.is c.as_str.ensures c.named.ensures c.named-in-Solve.ensures c.named-in-Solve-2.ensures)
    (c.solve.ensures.cut_off told)

pub returns-in-Check-clause-answered : goal.returns-in-Check-clause-answered
returns-in-Check-clause-answered g c = λ told.
    subst (λ (o : Order). AnswersBy (AnswersOrder (stopped_at o None) (g.F.Shelf.file c.args.shelf.now) c.check.result.kept) c.check.result.status (g.O.Sink.tells c.args.out.now) (g.O.Sink.taken c.args.out.now)
    (g.O.Sink.taken c.check.new.out)) (as_check c.args.order.now c.in-Check.given c.as_str-in-Check.result.now c.as_str-in-Check-2.result.now (option_map (λ name. name.now) c.named-in-Check.result) c.in-Check.is c.as_str-in-Check.ensures c.as_str-in-Check-2.ensures c.named-in-Check.ensures)
    (kept_answers c.check.result.kept
    (AnswersCheck c.in-Check.given.limits (g.F.Shelf.file c.args.shelf.now) c.as_str-in-Check.result.now c.as_str-in-Check-2.result.now (option_map (λ name. name.now) c.named-in-Check.result)
    c.in-Check.given.visits)
    c.check.result.status _ _ _ c.check.ensures.kept (c.check.ensures.answered told))

pub returns-in-Check-clause-exact : goal.returns-in-Check-clause-exact
returns-in-Check-clause-exact g c = λ told.
    subst (λ (o : Order). IsOnly (AnswersOrder (stopped_at o None) (g.F.Shelf.file c.args.shelf.now) c.check.result.kept) c.check.result.status) (as_check c.args.order.now c.in-Check.given c.as_str-in-Check.result.now c.as_str-in-Check-2.result.now (option_map (λ name. name.now) c.named-in-Check.result) c.in-Check.is c.as_str-in-Check.ensures c.as_str-in-Check-2.ensures c.named-in-Check.ensures)
    (kept_only c.check.result.kept _ c.check.result.status (c.check.ensures.exact told))

pub returns-in-Check-clause-cut_off : goal.returns-in-Check-clause-cut_off
returns-in-Check-clause-cut_off g c = λ told.
    subst (λ (o : Order). CutsOff (AnswersOrder (stopped_at o None) (g.F.Shelf.file c.args.shelf.now)) c.check.result.status c.check.result.lost (g.O.Sink.tells c.args.out.now) (g.O.Sink.taken c.args.out.now) (g.O.Sink.taken c.check.new.out)) (as_check c.args.order.now c.in-Check.given c.as_str-in-Check.result.now c.as_str-in-Check-2.result.now (option_map (λ name. name.now) c.named-in-Check.result) c.in-Check.is c.as_str-in-Check.ensures c.as_str-in-Check-2.ensures c.named-in-Check.ensures)
    (kept_cut _ c.check.result.status _ _ _ _ (c.check.ensures.cut_off told))

pub returns-in-Show-clause-answered : goal.returns-in-Show-clause-answered
returns-in-Show-clause-answered g c = λ told.
    subst (λ (o : Order). AnswersBy (AnswersOrder (stopped_at o None) (g.F.Shelf.file c.args.shelf.now) c.show.result.kept) c.show.result.status (g.O.Sink.tells c.args.out.now) (g.O.Sink.taken c.args.out.now)
    (g.O.Sink.taken c.show.new.out)) (as_show c.args.order.now c.as_str-in-Show.result.now c.in-Show.lp (option_map (λ name. name.now) c.named-in-Show.result) c.in-Show.dec
    c.in-Show.blocks c.in-Show.classes c.in-Show.limits c.in-Show.is c.as_str-in-Show.ensures c.named-in-Show.ensures)
    (kept_answers c.show.result.kept
    (AnswersShow c.in-Show.limits (g.F.Shelf.file c.args.shelf.now) c.as_str-in-Show.result.now (option_map (λ name. name.now) c.named-in-Show.result) c.in-Show.blocks c.in-Show.classes)
    c.show.result.status _ _ _ c.show.ensures.kept (c.show.ensures.answered told))

pub returns-in-Show-clause-exact : goal.returns-in-Show-clause-exact
returns-in-Show-clause-exact g c = λ told.
    subst (λ (o : Order). IsOnly (AnswersOrder (stopped_at o None) (g.F.Shelf.file c.args.shelf.now) c.show.result.kept) c.show.result.status) (as_show c.args.order.now c.as_str-in-Show.result.now c.in-Show.lp (option_map (λ name. name.now) c.named-in-Show.result) c.in-Show.dec
    c.in-Show.blocks c.in-Show.classes c.in-Show.limits c.in-Show.is c.as_str-in-Show.ensures c.named-in-Show.ensures)
    (kept_only c.show.result.kept _ c.show.result.status (c.show.ensures.exact told))

pub returns-in-Show-clause-cut_off : goal.returns-in-Show-clause-cut_off
returns-in-Show-clause-cut_off g c = λ told.
    subst (λ (o : Order). CutsOff (AnswersOrder (stopped_at o None) (g.F.Shelf.file c.args.shelf.now)) c.show.result.status c.show.result.lost (g.O.Sink.tells c.args.out.now) (g.O.Sink.taken c.args.out.now) (g.O.Sink.taken c.show.new.out)) (as_show c.args.order.now c.as_str-in-Show.result.now c.in-Show.lp (option_map (λ name. name.now) c.named-in-Show.result) c.in-Show.dec
    c.in-Show.blocks c.in-Show.classes c.in-Show.limits c.in-Show.is c.as_str-in-Show.ensures c.named-in-Show.ensures)
    (kept_cut _ c.show.result.status _ _ _ _ (c.show.ensures.cut_off told))

pub returns-in-Gen-clause-cut_off : goal.returns-in-Gen-clause-cut_off
returns-in-Gen-clause-cut_off g c = λ told.
    subst (λ (o : Order). CutsOff (AnswersOrder (stopped_at o None) (g.F.Shelf.file c.args.shelf.now)) c.generate.result.status c.generate.result.lost (g.O.Sink.tells c.args.out.now) (g.O.Sink.taken c.args.out.now) (g.O.Sink.taken c.generate.new.out)) (as_gen c.args.order.now c.in-Gen.seed c.in-Gen.size c.as_str-in-Gen.result.now c.in-Gen.lp c.as_str-in-Gen-2.result.now
    c.in-Gen.dec c.in-Gen.is c.as_str-in-Gen.ensures c.as_str-in-Gen-2.ensures)
    (kept_cut _ c.generate.result.status _ _ _ _ c.generate.ensures.cut_off)

pub returns-in-Demo-clause-answered : goal.returns-in-Demo-clause-answered
returns-in-Demo-clause-answered g c = λ told.
    subst (λ (o : Order). AnswersBy (AnswersOrder (stopped_at o None) (g.F.Shelf.file c.args.shelf.now) c.demonstrate.result.kept) c.demonstrate.result.status (g.O.Sink.tells c.args.out.now) (g.O.Sink.taken c.args.out.now)
    (g.O.Sink.taken c.demonstrate.new.out)) (sym c.in-Demo.is) c.demonstrate.ensures.answered

pub returns-in-Demo-clause-exact : goal.returns-in-Demo-clause-exact
returns-in-Demo-clause-exact g c = λ told.
    subst (λ (o : Order). IsOnly (AnswersOrder (stopped_at o None) (g.F.Shelf.file c.args.shelf.now) c.demonstrate.result.kept) c.demonstrate.result.status) (sym c.in-Demo.is) c.demonstrate.ensures.exact

pub returns-in-Demo-clause-demonstrated : goal.returns-in-Demo-clause-demonstrated
returns-in-Demo-clause-demonstrated g c =
    subst (λ (o : Order). Demonstrates o c.demonstrate.result.kept c.demonstrate.result.status c.demonstrate.result.lost (g.O.Sink.tells c.args.out.now) (g.O.Sink.taken c.args.out.now)
    (g.O.Sink.taken c.demonstrate.new.out)) (sym c.in-Demo.is) (c.demonstrate.ensures.answered, c.demonstrate.ensures.exact, c.demonstrate.ensures.cut_off)

pub returns-in-Demo-clause-causes : goal.returns-in-Demo-clause-causes
returns-in-Demo-clause-causes g c = c.demonstrate.ensures.causes (g.F.Shelf.read_faults c.args.shelf.now) (g.F.Shelf.write_faults c.args.shelf.now)

pub returns-in-Demo-clause-cut_off : goal.returns-in-Demo-clause-cut_off
returns-in-Demo-clause-cut_off g c = λ told.
    subst (λ (o : Order). CutsOff (AnswersOrder (stopped_at o None) (g.F.Shelf.file c.args.shelf.now)) c.demonstrate.result.status c.demonstrate.result.lost (g.O.Sink.tells c.args.out.now) (g.O.Sink.taken c.args.out.now) (g.O.Sink.taken c.demonstrate.new.out)) (sym c.in-Demo.is) c.demonstrate.ensures.cut_off

pub returns-in-Detect-clause-answered : goal.returns-in-Detect-clause-answered
returns-in-Detect-clause-answered g c = λ told.
    subst (λ (o : Order). AnswersBy (AnswersOrder (stopped_at o None) (g.F.Shelf.file c.args.shelf.now) c.detect.result.kept) c.detect.result.status (g.O.Sink.tells c.args.out.now) (g.O.Sink.taken c.args.out.now)
    (g.O.Sink.taken c.detect.new.out)) (as_detect c.args.order.now c.as_str-in-Detect.result.now c.in-Detect.lp c.as_str-in-Detect-2.result.now c.in-Detect.rows c.as_str-in-Detect-3.result.now
    c.in-Detect.dec c.in-Detect.limits c.in-Detect.is c.as_str-in-Detect.ensures c.as_str-in-Detect-2.ensures c.as_str-in-Detect-3.ensures)
    (kept_answers c.detect.result.kept (AnswersDetect c.in-Detect.limits (g.F.Shelf.file c.args.shelf.now) c.as_str-in-Detect.result.now c.as_str-in-Detect-2.result.now)
    c.detect.result.status _ _ _ c.detect.ensures.kept (c.detect.ensures.answered told))

pub returns-in-Detect-clause-exact : goal.returns-in-Detect-clause-exact
returns-in-Detect-clause-exact g c = λ told.
    subst (λ (o : Order). IsOnly (AnswersOrder (stopped_at o None) (g.F.Shelf.file c.args.shelf.now) c.detect.result.kept) c.detect.result.status) (as_detect c.args.order.now c.as_str-in-Detect.result.now c.in-Detect.lp c.as_str-in-Detect-2.result.now c.in-Detect.rows c.as_str-in-Detect-3.result.now
    c.in-Detect.dec c.in-Detect.limits c.in-Detect.is c.as_str-in-Detect.ensures c.as_str-in-Detect-2.ensures c.as_str-in-Detect-3.ensures)
    (kept_only c.detect.result.kept _ c.detect.result.status (c.detect.ensures.exact told))

pub returns-in-Detect-clause-cut_off : goal.returns-in-Detect-clause-cut_off
returns-in-Detect-clause-cut_off g c = λ told.
    subst (λ (o : Order). CutsOff (AnswersOrder (stopped_at o None) (g.F.Shelf.file c.args.shelf.now)) c.detect.result.status c.detect.result.lost (g.O.Sink.tells c.args.out.now) (g.O.Sink.taken c.args.out.now) (g.O.Sink.taken c.detect.new.out)) (as_detect c.args.order.now c.as_str-in-Detect.result.now c.in-Detect.lp c.as_str-in-Detect-2.result.now c.in-Detect.rows c.as_str-in-Detect-3.result.now
    c.in-Detect.dec c.in-Detect.limits c.in-Detect.is c.as_str-in-Detect.ensures c.as_str-in-Detect-2.ensures c.as_str-in-Detect-3.ensures)
    (kept_cut _ c.detect.result.status _ _ _ _ (c.detect.ensures.cut_off told))

pub returns-in-Propose-clause-answered : goal.returns-in-Propose-clause-answered
returns-in-Propose-clause-answered g c = λ told.
    subst (λ (o : Order). AnswersBy (AnswersOrder (stopped_at o None) (g.F.Shelf.file c.args.shelf.now) c.propose.result.kept) c.propose.result.status (g.O.Sink.tells c.args.out.now) (g.O.Sink.taken c.args.out.now)
    (g.O.Sink.taken c.propose.new.out)) (as_propose c.args.order.now c.as_str-in-Propose.result.now c.in-Propose.lp c.as_str-in-Propose-2.result.now
    c.in-Propose.dec c.in-Propose.limits c.in-Propose.is c.as_str-in-Propose.ensures c.as_str-in-Propose-2.ensures)
    (kept_answers c.propose.result.kept (AnswersPropose c.in-Propose.limits (g.F.Shelf.file c.args.shelf.now) c.as_str-in-Propose.result.now)
    c.propose.result.status _ _ _ c.propose.ensures.kept (c.propose.ensures.answered told))

pub returns-in-Propose-clause-exact : goal.returns-in-Propose-clause-exact
returns-in-Propose-clause-exact g c = λ told.
    subst (λ (o : Order). IsOnly (AnswersOrder (stopped_at o None) (g.F.Shelf.file c.args.shelf.now) c.propose.result.kept) c.propose.result.status) (as_propose c.args.order.now c.as_str-in-Propose.result.now c.in-Propose.lp c.as_str-in-Propose-2.result.now
    c.in-Propose.dec c.in-Propose.limits c.in-Propose.is c.as_str-in-Propose.ensures c.as_str-in-Propose-2.ensures)
    (kept_only c.propose.result.kept _ c.propose.result.status (c.propose.ensures.exact told))

pub returns-in-Propose-clause-cut_off : goal.returns-in-Propose-clause-cut_off
returns-in-Propose-clause-cut_off g c = λ told.
    subst (λ (o : Order). CutsOff (AnswersOrder (stopped_at o None) (g.F.Shelf.file c.args.shelf.now)) c.propose.result.status c.propose.result.lost (g.O.Sink.tells c.args.out.now) (g.O.Sink.taken c.args.out.now) (g.O.Sink.taken c.propose.new.out)) (as_propose c.args.order.now c.as_str-in-Propose.result.now c.in-Propose.lp c.as_str-in-Propose-2.result.now
    c.in-Propose.dec c.in-Propose.limits c.in-Propose.is c.as_str-in-Propose.ensures c.as_str-in-Propose-2.ensures)
    (kept_cut _ c.propose.result.status _ _ _ _ (c.propose.ensures.cut_off told))

pub returns-in-Gen-clause-written : goal.returns-in-Gen-clause-written
returns-in-Gen-clause-written g c = λ told.
    subst (λ (o : Order). HasWritten (stopped_at o None) (g.F.Shelf.file c.args.shelf.now) (g.F.Shelf.file c.generate.new.shelf) c.generate.result.kept c.generate.result.status)
    (as_gen c.args.order.now c.in-Gen.seed c.in-Gen.size c.as_str-in-Gen.result.now c.in-Gen.lp c.as_str-in-Gen-2.result.now
    c.in-Gen.dec c.in-Gen.is c.as_str-in-Gen.ensures c.as_str-in-Gen-2.ensures) (c.generate.ensures.leaves told)

pub returns-in-Solve-clause-written : goal.returns-in-Solve-clause-written
returns-in-Solve-clause-written g c = λ told.
    subst (λ (o : Order). HasWritten (stopped_at o c.solve.result.steps) (g.F.Shelf.file c.args.shelf.now) (g.F.Shelf.file c.solve.new.shelf) c.solve.result.ended.kept c.solve.result.ended.status)
    (as_solve c.args.order.now c.in-Solve.given c.as_str.result.now (option_map (λ name. name.now) c.named.result)
    (option_map (λ name. name.now) c.named-in-Solve.result) (option_map (λ name. name.now) c.named-in-Solve-2.result) c.in-Solve.is c.as_str.ensures c.named.ensures c.named-in-Solve.ensures c.named-in-Solve-2.ensures)
    (c.solve.ensures.saved told, c.solve.ensures.files told, c.solve.ensures.untouched told, c.solve.ensures.part told)

pub returns-in-Solve-clause-failed : goal.returns-in-Solve-clause-failed
returns-in-Solve-clause-failed g c = λ is_fault.
    fails_as (g.F.Shelf.write_faults c.args.shelf.now) (g.F.Shelf.write_faults c.args.shelf.now) (g.F.Shelf.write_faults c.solve.new.shelf)
    (g.O.Sink.faults c.args.out.now) (g.O.Sink.faults c.solve.new.out) (g.O.Sink.puts c.args.out.now) (g.O.Sink.puts c.solve.new.out)
    (g.O.Sink.taken c.args.out.now) (g.O.Sink.taken c.solve.new.out) refl
    (λ stands told. subst (λ (o : Order). HasPutLast (stopped_at o c.solve.result.steps) (g.F.Shelf.file c.args.shelf.now) (g.F.Shelf.file c.solve.new.shelf))
    (as_solve c.args.order.now c.in-Solve.given c.as_str.result.now (option_map (λ name. name.now) c.named.result)
    (option_map (λ name. name.now) c.named-in-Solve.result) (option_map (λ name. name.now) c.named-in-Solve-2.result) c.in-Solve.is c.as_str.ensures c.named.ensures c.named-in-Solve.ensures c.named-in-Solve-2.ensures) (stands told))
    (c.solve.ensures.failed is_fault)

pub returns-in-Gen-clause-failed : goal.returns-in-Gen-clause-failed
returns-in-Gen-clause-failed g c = λ is_fault.
    fails_as (g.F.Shelf.write_faults c.args.shelf.now) (g.F.Shelf.write_faults c.args.shelf.now) (g.F.Shelf.write_faults c.generate.new.shelf)
    (g.O.Sink.faults c.args.out.now) (g.O.Sink.faults c.generate.new.out) (g.O.Sink.puts c.args.out.now) (g.O.Sink.puts c.generate.new.out)
    (g.O.Sink.taken c.args.out.now) (g.O.Sink.taken c.generate.new.out) refl
    (λ stands told. subst (λ (o : Order). HasPutLast (stopped_at o None) (g.F.Shelf.file c.args.shelf.now) (g.F.Shelf.file c.generate.new.shelf))
    (as_gen c.args.order.now c.in-Gen.seed c.in-Gen.size c.as_str-in-Gen.result.now c.in-Gen.lp c.as_str-in-Gen-2.result.now c.in-Gen.dec c.in-Gen.is c.as_str-in-Gen.ensures c.as_str-in-Gen-2.ensures) (stands told))
    (c.generate.ensures.failed is_fault)

pub returns-in-Detect-clause-failed : goal.returns-in-Detect-clause-failed
returns-in-Detect-clause-failed g c = λ is_fault.
    fails_as (g.F.Shelf.write_faults c.args.shelf.now) (g.F.Shelf.write_faults c.args.shelf.now) (g.F.Shelf.write_faults c.detect.new.shelf)
    (g.O.Sink.faults c.args.out.now) (g.O.Sink.faults c.detect.new.out) (g.O.Sink.puts c.args.out.now) (g.O.Sink.puts c.detect.new.out)
    (g.O.Sink.taken c.args.out.now) (g.O.Sink.taken c.detect.new.out) refl
    (λ stands told. subst (λ (o : Order). HasPutLast (stopped_at o None) (g.F.Shelf.file c.args.shelf.now) (g.F.Shelf.file c.detect.new.shelf))
    (as_detect c.args.order.now c.as_str-in-Detect.result.now c.in-Detect.lp c.as_str-in-Detect-2.result.now c.in-Detect.rows c.as_str-in-Detect-3.result.now c.in-Detect.dec c.in-Detect.limits c.in-Detect.is c.as_str-in-Detect.ensures c.as_str-in-Detect-2.ensures c.as_str-in-Detect-3.ensures) (stands told))
    (c.detect.ensures.failed is_fault)

pub returns-in-Propose-clause-failed : goal.returns-in-Propose-clause-failed
returns-in-Propose-clause-failed g c = λ is_fault.
    fails_as (g.F.Shelf.write_faults c.args.shelf.now) (g.F.Shelf.write_faults c.args.shelf.now) (g.F.Shelf.write_faults c.propose.new.shelf)
    (g.O.Sink.faults c.args.out.now) (g.O.Sink.faults c.propose.new.out) (g.O.Sink.puts c.args.out.now) (g.O.Sink.puts c.propose.new.out)
    (g.O.Sink.taken c.args.out.now) (g.O.Sink.taken c.propose.new.out) refl
    (λ stands told. subst (λ (o : Order). HasPutLast (stopped_at o None) (g.F.Shelf.file c.args.shelf.now) (g.F.Shelf.file c.propose.new.shelf))
    (as_propose c.args.order.now c.as_str-in-Propose.result.now c.in-Propose.lp c.as_str-in-Propose-2.result.now c.in-Propose.dec c.in-Propose.limits c.in-Propose.is c.as_str-in-Propose.ensures c.as_str-in-Propose-2.ensures) (stands told))
    (c.propose.ensures.failed is_fault)

pub returns-in-Check-clause-failed : goal.returns-in-Check-clause-failed
returns-in-Check-clause-failed g c = λ is_fault. inr (unput_as
    (λ stands told. subst (λ (o : Order). HasPutLast (stopped_at o None) (g.F.Shelf.file c.args.shelf.now) (g.F.Shelf.file c.check.new.shelf))
    (as_check c.args.order.now c.in-Check.given c.as_str-in-Check.result.now c.as_str-in-Check-2.result.now (option_map (λ name. name.now) c.named-in-Check.result) c.in-Check.is c.as_str-in-Check.ensures c.as_str-in-Check-2.ensures c.named-in-Check.ensures) stands)
    (c.check.ensures.failed is_fault))

pub returns-in-Show-clause-failed : goal.returns-in-Show-clause-failed
returns-in-Show-clause-failed g c = λ is_fault. inr (unput_as
    (λ stands told. subst (λ (o : Order). HasPutLast (stopped_at o None) (g.F.Shelf.file c.args.shelf.now) (g.F.Shelf.file c.show.new.shelf))
    (as_show c.args.order.now c.as_str-in-Show.result.now c.in-Show.lp (option_map (λ name. name.now) c.named-in-Show.result) c.in-Show.dec c.in-Show.blocks c.in-Show.classes c.in-Show.limits c.in-Show.is c.as_str-in-Show.ensures c.named-in-Show.ensures) stands)
    (c.show.ensures.failed is_fault))

pub returns-in-Demo-clause-failed : goal.returns-in-Demo-clause-failed
returns-in-Demo-clause-failed g c = λ is_fault. inr (unput_as
    (λ stands told. subst (λ (o : Order). HasPutLast (stopped_at o None) (g.F.Shelf.file c.args.shelf.now) (g.F.Shelf.file c.args.shelf.now)) (sym c.in-Demo.is) refl)
    (c.demonstrate.ensures.failed is_fault (g.F.Shelf.write_faults c.args.shelf.now)))

pub returns-in-Merge-clause-answered : goal.returns-in-Merge-clause-answered
returns-in-Merge-clause-answered g c = λ told.
    subst (λ (o : Order). AnswersBy (AnswersOrder (stopped_at o None) (g.F.Shelf.file c.args.shelf.now) c.merge.result.kept) c.merge.result.status (g.O.Sink.tells c.args.out.now) (g.O.Sink.taken c.args.out.now)
    (g.O.Sink.taken c.merge.new.out)) (as_merge c.args.order.now c.in-Merge.given c.as_str-in-Merge.result.now c.as_str-in-Merge-2.result.now c.as_str-in-Merge-3.result.now
    c.as_str-in-Merge-4.result.now (option_map (λ name. name.now) c.named-in-Merge.result) c.in-Merge.is c.as_str-in-Merge.ensures c.as_str-in-Merge-2.ensures
    c.as_str-in-Merge-3.ensures c.as_str-in-Merge-4.ensures c.named-in-Merge.ensures)
    (kept_answers c.merge.result.kept
    (AnswersMerge c.in-Merge.given.limits (g.F.Shelf.file c.args.shelf.now) c.as_str-in-Merge.result.now c.as_str-in-Merge-2.result.now c.as_str-in-Merge-3.result.now (option_map (λ name. name.now) c.named-in-Merge.result))
    c.merge.result.status _ _ _ c.merge.ensures.kept (c.merge.ensures.answered told))

pub returns-in-Merge-clause-exact : goal.returns-in-Merge-clause-exact
returns-in-Merge-clause-exact g c = λ told.
    subst (λ (o : Order). IsOnly (AnswersOrder (stopped_at o None) (g.F.Shelf.file c.args.shelf.now) c.merge.result.kept) c.merge.result.status) (as_merge c.args.order.now c.in-Merge.given c.as_str-in-Merge.result.now c.as_str-in-Merge-2.result.now c.as_str-in-Merge-3.result.now
    c.as_str-in-Merge-4.result.now (option_map (λ name. name.now) c.named-in-Merge.result) c.in-Merge.is c.as_str-in-Merge.ensures c.as_str-in-Merge-2.ensures
    c.as_str-in-Merge-3.ensures c.as_str-in-Merge-4.ensures c.named-in-Merge.ensures)
    (kept_only c.merge.result.kept _ c.merge.result.status (c.merge.ensures.exact told))

pub returns-in-Merge-clause-cut_off : goal.returns-in-Merge-clause-cut_off
returns-in-Merge-clause-cut_off g c = λ told.
    subst (λ (o : Order). CutsOff (AnswersOrder (stopped_at o None) (g.F.Shelf.file c.args.shelf.now)) c.merge.result.status c.merge.result.lost (g.O.Sink.tells c.args.out.now) (g.O.Sink.taken c.args.out.now) (g.O.Sink.taken c.merge.new.out)) (as_merge c.args.order.now c.in-Merge.given c.as_str-in-Merge.result.now c.as_str-in-Merge-2.result.now c.as_str-in-Merge-3.result.now
    c.as_str-in-Merge-4.result.now (option_map (λ name. name.now) c.named-in-Merge.result) c.in-Merge.is c.as_str-in-Merge.ensures c.as_str-in-Merge-2.ensures
    c.as_str-in-Merge-3.ensures c.as_str-in-Merge-4.ensures c.named-in-Merge.ensures)
    (kept_cut _ c.merge.result.status _ _ _ _ (c.merge.ensures.cut_off told))

pub returns-in-Merge-clause-written : goal.returns-in-Merge-clause-written
returns-in-Merge-clause-written g c = λ told.
    subst (λ (o : Order). HasWritten (stopped_at o None) (g.F.Shelf.file c.args.shelf.now) (g.F.Shelf.file c.merge.new.shelf) c.merge.result.kept c.merge.result.status)
    (as_merge c.args.order.now c.in-Merge.given c.as_str-in-Merge.result.now c.as_str-in-Merge-2.result.now c.as_str-in-Merge-3.result.now
    c.as_str-in-Merge-4.result.now (option_map (λ name. name.now) c.named-in-Merge.result) c.in-Merge.is c.as_str-in-Merge.ensures c.as_str-in-Merge-2.ensures
    c.as_str-in-Merge-3.ensures c.as_str-in-Merge-4.ensures c.named-in-Merge.ensures)
    (c.merge.ensures.leaves told)

pub returns-in-Merge-clause-failed : goal.returns-in-Merge-clause-failed
returns-in-Merge-clause-failed g c = λ is_fault.
    fails_as (g.F.Shelf.write_faults c.args.shelf.now) (g.F.Shelf.write_faults c.args.shelf.now) (g.F.Shelf.write_faults c.merge.new.shelf)
    (g.O.Sink.faults c.args.out.now) (g.O.Sink.faults c.merge.new.out) (g.O.Sink.puts c.args.out.now) (g.O.Sink.puts c.merge.new.out)
    (g.O.Sink.taken c.args.out.now) (g.O.Sink.taken c.merge.new.out) refl
    (λ stands told. subst (λ (o : Order). HasPutLast (stopped_at o None) (g.F.Shelf.file c.args.shelf.now) (g.F.Shelf.file c.merge.new.shelf))
    (as_merge c.args.order.now c.in-Merge.given c.as_str-in-Merge.result.now c.as_str-in-Merge-2.result.now c.as_str-in-Merge-3.result.now
    c.as_str-in-Merge-4.result.now (option_map (λ name. name.now) c.named-in-Merge.result) c.in-Merge.is c.as_str-in-Merge.ensures c.as_str-in-Merge-2.ensures
    c.as_str-in-Merge-3.ensures c.as_str-in-Merge-4.ensures c.named-in-Merge.ensures) (stands told))
    (c.merge.ensures.failed is_fault)

pub returns-in-Migrate-clause-answered : goal.returns-in-Migrate-clause-answered
returns-in-Migrate-clause-answered g c = λ told.
    subst (λ (o : Order). AnswersBy (AnswersOrder (stopped_at o None) (g.F.Shelf.file c.args.shelf.now) c.migrate.result.kept) c.migrate.result.status (g.O.Sink.tells c.args.out.now) (g.O.Sink.taken c.args.out.now)
    (g.O.Sink.taken c.migrate.new.out)) (as_migrate c.args.order.now c.as_str-in-Migrate.result.now c.in-Migrate.lp c.as_str-in-Migrate-2.result.now c.in-Migrate.cert c.as_str-in-Migrate-3.result.now c.in-Migrate.new
    (option_map (λ name. name.now) c.named-in-Migrate.result) c.in-Migrate.dec c.in-Migrate.limits c.in-Migrate.is c.as_str-in-Migrate.ensures c.as_str-in-Migrate-2.ensures c.as_str-in-Migrate-3.ensures c.named-in-Migrate.ensures)
    (kept_answers c.migrate.result.kept
    (AnswersMigrate c.in-Migrate.limits (g.F.Shelf.file c.args.shelf.now) c.as_str-in-Migrate.result.now c.as_str-in-Migrate-2.result.now (option_map (λ name. name.now) c.named-in-Migrate.result))
    c.migrate.result.status _ _ _ c.migrate.ensures.kept (c.migrate.ensures.answered told))

pub returns-in-Migrate-clause-exact : goal.returns-in-Migrate-clause-exact
returns-in-Migrate-clause-exact g c = λ told.
    subst (λ (o : Order). IsOnly (AnswersOrder (stopped_at o None) (g.F.Shelf.file c.args.shelf.now) c.migrate.result.kept) c.migrate.result.status) (as_migrate c.args.order.now c.as_str-in-Migrate.result.now c.in-Migrate.lp c.as_str-in-Migrate-2.result.now c.in-Migrate.cert c.as_str-in-Migrate-3.result.now c.in-Migrate.new
    (option_map (λ name. name.now) c.named-in-Migrate.result) c.in-Migrate.dec c.in-Migrate.limits c.in-Migrate.is c.as_str-in-Migrate.ensures c.as_str-in-Migrate-2.ensures c.as_str-in-Migrate-3.ensures c.named-in-Migrate.ensures)
    (kept_only c.migrate.result.kept _ c.migrate.result.status (c.migrate.ensures.exact told))

pub returns-in-Migrate-clause-cut_off : goal.returns-in-Migrate-clause-cut_off
returns-in-Migrate-clause-cut_off g c = λ told.
    subst (λ (o : Order). CutsOff (AnswersOrder (stopped_at o None) (g.F.Shelf.file c.args.shelf.now)) c.migrate.result.status c.migrate.result.lost (g.O.Sink.tells c.args.out.now) (g.O.Sink.taken c.args.out.now) (g.O.Sink.taken c.migrate.new.out)) (as_migrate c.args.order.now c.as_str-in-Migrate.result.now c.in-Migrate.lp c.as_str-in-Migrate-2.result.now c.in-Migrate.cert c.as_str-in-Migrate-3.result.now c.in-Migrate.new
    (option_map (λ name. name.now) c.named-in-Migrate.result) c.in-Migrate.dec c.in-Migrate.limits c.in-Migrate.is c.as_str-in-Migrate.ensures c.as_str-in-Migrate-2.ensures c.as_str-in-Migrate-3.ensures c.named-in-Migrate.ensures)
    (kept_cut _ c.migrate.result.status _ _ _ _ (c.migrate.ensures.cut_off told))

pub returns-in-Migrate-clause-failed : goal.returns-in-Migrate-clause-failed
returns-in-Migrate-clause-failed g c = λ is_fault.
    fails_as (g.F.Shelf.write_faults c.args.shelf.now) (g.F.Shelf.write_faults c.args.shelf.now) (g.F.Shelf.write_faults c.migrate.new.shelf)
    (g.O.Sink.faults c.args.out.now) (g.O.Sink.faults c.migrate.new.out) (g.O.Sink.puts c.args.out.now) (g.O.Sink.puts c.migrate.new.out)
    (g.O.Sink.taken c.args.out.now) (g.O.Sink.taken c.migrate.new.out) refl
    (λ stands told. subst (λ (o : Order). HasPutLast (stopped_at o None) (g.F.Shelf.file c.args.shelf.now) (g.F.Shelf.file c.migrate.new.shelf))
    (as_migrate c.args.order.now c.as_str-in-Migrate.result.now c.in-Migrate.lp c.as_str-in-Migrate-2.result.now c.in-Migrate.cert c.as_str-in-Migrate-3.result.now c.in-Migrate.new
    (option_map (λ name. name.now) c.named-in-Migrate.result) c.in-Migrate.dec c.in-Migrate.limits c.in-Migrate.is c.as_str-in-Migrate.ensures c.as_str-in-Migrate-2.ensures c.as_str-in-Migrate-3.ensures c.named-in-Migrate.ensures) (stands told))
    (c.migrate.ensures.failed is_fault)
