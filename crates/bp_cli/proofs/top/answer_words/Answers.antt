use Rattle.std.proofs.Common.{◌≡◌, inr, refl, None}
use Rattle.std.specs.Prelude.{map, string_bytes}
use Rattle.bp_report.specs.Refusals.{words_refusal}
use Rattle.frontend.proofs.Faults.{fails_as}
use Rattle.bp_cli.specs.Promises.{Demonstrates}
use Rattle.bp_cli.specs.Running.{refused, HasWritten, HasPutLast, ListsEvents, StopsOrder, stopped_at}
use Rattle.bp_cli.proofs.Words.{order_answers, order_only, order_cut, of_order, no_order, refused_two, words_cut}
use Rattle.bp_cli.proofs.top.answer_words.Goals as goal

pub returns-in-Ok-clause-answered : goal.returns-in-Ok-clause-answered
returns-in-Ok-clause-answered g c = λ told.
    order_answers (map string_bytes c.args.words.now) c.in-Ok.order c.obey.result.steps (g.F.Shelf.file c.args.shelf.now) c.obey.result.ended.kept c.obey.result.ended.status (g.O.Sink.tells c.args.out.now) (g.O.Sink.taken c.args.out.now)
    (g.O.Sink.taken c.obey.new.out) c.in-Ok.ensures.order (c.obey.ensures.answered told)

pub returns-in-Ok-clause-exact : goal.returns-in-Ok-clause-exact
returns-in-Ok-clause-exact g c = λ told.
    order_only (map string_bytes c.args.words.now) c.in-Ok.order c.obey.result.steps (g.F.Shelf.file c.args.shelf.now) c.obey.result.ended.kept c.obey.result.ended.status c.in-Ok.ensures.order
    (c.obey.ensures.exact told)

pub returns-in-Ok-clause-failed : goal.returns-in-Ok-clause-failed
returns-in-Ok-clause-failed g c = λ is_fault.
    fails_as (g.F.Shelf.write_faults c.args.shelf.now) (g.F.Shelf.write_faults c.args.shelf.now) (g.F.Shelf.write_faults c.obey.new.shelf)
    (g.O.Sink.faults c.args.out.now) (g.O.Sink.faults c.obey.new.out) (g.O.Sink.puts c.args.out.now) (g.O.Sink.puts c.obey.new.out)
    (g.O.Sink.taken c.args.out.now) (g.O.Sink.taken c.obey.new.out) refl
    (λ stands told. of_order (map string_bytes c.args.words.now) c.in-Ok.order (λ order. HasPutLast (stopped_at order c.obey.result.steps) (g.F.Shelf.file c.args.shelf.now) (g.F.Shelf.file c.obey.new.shelf))
    c.in-Ok.ensures.order (stands told))
    (c.obey.ensures.failed is_fault)

pub returns-in-Err-Refused-clause-answered : goal.returns-in-Err-Refused-clause-answered
returns-in-Err-Refused-clause-answered g c = λ told no_read no_write no_want.
    let two : c.refuse_words.result.status ≡ 2 = refused_two c.refuse_words.result.status c.refuse_words.ensures.statuses no_write no_want in (
      words_refusal,
      refused (c.read_words.ensures.refused (rw c.in-Err-Refused.field-0-is at c.in-Err-Refused.is)) c.refuse_words.ensures.kept two refl,
      (λ heard. c.refuse_words.ensures.printed heard two),
    )

pub returns-in-Err-Refused-clause-failed : goal.returns-in-Err-Refused-clause-failed
returns-in-Err-Refused-clause-failed g c = λ is_fault. inr (record {
  rose = c.refuse_words.ensures.fault is_fault;
  no_write = refl;
  once = c.refuse_words.ensures.once (λ nine. absurd (cc));
  stands = λ told. no_order (map string_bytes c.args.words.now) (λ order. HasPutLast (stopped_at order None) (g.F.Shelf.file c.args.shelf.now) (g.F.Shelf.file c.args.shelf.now))
      (c.read_words.ensures.refused (rw c.in-Err-Refused.field-0-is at c.in-Err-Refused.is));
})

pub returns-in-Ok-clause-events : goal.returns-in-Ok-clause-events
returns-in-Ok-clause-events g c = λ told.
    of_order (map string_bytes c.args.words.now) c.in-Ok.order (λ order. ListsEvents (stopped_at order c.obey.result.steps) (g.F.Shelf.file c.args.shelf.now) c.obey.result.ended.kept c.obey.result.ended.events.items)
    c.in-Ok.ensures.order (c.obey.ensures.events told)

pub returns-in-Ok-clause-cut_off : goal.returns-in-Ok-clause-cut_off
returns-in-Ok-clause-cut_off g c = λ told.
    order_cut (map string_bytes c.args.words.now) c.in-Ok.order c.obey.result.steps (g.F.Shelf.file c.args.shelf.now) c.obey.result.ended.status c.obey.result.ended.lost (g.O.Sink.tells c.args.out.now) (g.O.Sink.taken c.args.out.now)
    (g.O.Sink.taken c.obey.new.out) c.in-Ok.ensures.order (c.obey.ensures.cut_off told)

pub returns-in-Err-Refused-clause-cut_off : goal.returns-in-Err-Refused-clause-cut_off
returns-in-Err-Refused-clause-cut_off g c = λ told.
    words_cut (map string_bytes c.args.words.now) None (g.F.Shelf.file c.args.shelf.now) c.refuse_words.result.status c.refuse_words.result.lost (g.O.Sink.tells c.args.out.now) (g.O.Sink.taken c.args.out.now)
    (g.O.Sink.taken c.refuse_words.new.out) (c.read_words.ensures.refused (rw c.in-Err-Refused.field-0-is at c.in-Err-Refused.is)) c.refuse_words.ensures.lost c.refuse_words.ensures.partly

pub returns-in-Ok-clause-written : goal.returns-in-Ok-clause-written
returns-in-Ok-clause-written g c = λ told.
    of_order (map string_bytes c.args.words.now) c.in-Ok.order
    (λ order. HasWritten (stopped_at order c.obey.result.steps) (g.F.Shelf.file c.args.shelf.now) (g.F.Shelf.file c.obey.new.shelf) c.obey.result.ended.kept c.obey.result.ended.status)
    c.in-Ok.ensures.order (c.obey.ensures.written told)

pub returns-in-Err-Refused-clause-words : goal.returns-in-Err-Refused-clause-words
returns-in-Err-Refused-clause-words g c = λ two. c.read_words.ensures.refused (rw c.in-Err-Refused.field-0-is at c.in-Err-Refused.is)

pub returns-in-Ok-clause-demonstrated : goal.returns-in-Ok-clause-demonstrated
returns-in-Ok-clause-demonstrated g c =
    of_order (map string_bytes c.args.words.now) c.in-Ok.order
    (λ order. Demonstrates order c.obey.result.ended.kept c.obey.result.ended.status c.obey.result.ended.lost (g.O.Sink.tells c.args.out.now) (g.O.Sink.taken c.args.out.now) (g.O.Sink.taken c.obey.new.out))
    c.in-Ok.ensures.order c.obey.ensures.demonstrated

pub returns-in-Ok-clause-steps : goal.returns-in-Ok-clause-steps
returns-in-Ok-clause-steps g c =
    inr (of_order (map string_bytes c.args.words.now) c.in-Ok.order (λ order. StopsOrder order c.obey.result.steps) c.in-Ok.ensures.order c.obey.ensures.steps)

pub returns-in-Err-Refused-clause-steps : goal.returns-in-Err-Refused-clause-steps
returns-in-Err-Refused-clause-steps g c =
    inr (no_order (map string_bytes c.args.words.now) (λ order. StopsOrder order None) (c.read_words.ensures.refused (rw c.in-Err-Refused.field-0-is at c.in-Err-Refused.is)))
