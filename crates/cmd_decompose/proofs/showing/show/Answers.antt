use Rattle.std.proofs.Common.{◌≡◌, ◌≢◌, sym, subst, Result, IfOk}
use Rattle.std.specs.Option.{option_map}
use Rattle.frontend.specs.declared.ending.Reply.{Reply}
use Rattle.frontend.specs.declared.ending.Unprinted.{Unprinted}
use Rattle.frontend.proofs.Finishing.{readers_end, unfailed}
use Rattle.cmd_decompose.specs.Shows.{AnswersShow}
use Rattle.cmd_decompose.proofs.ShowOneAnswer.{one_answer}
use Rattle.cmd_decompose.proofs.showing.show.Goals as goal

pub finish-requires : goal.finish-requires
finish-requires g c = record {
  unfailed = subst (λ (come : Result Reply Unprinted). IfOk come (λ reply. reply.status ≢ 8)) (sym c.reply_or_status.ensures) (unfailed c.shown-answer.result c.shown-answer.ensures.statuses);
}

pub returns : goal.returns
returns g c =
    let files = g.F.Shelf.file c.args.shelf.now in
    let dec = option_map (λ name. name.now) c.args.sources.dec in
    let end = readers_end (AnswersShow c.args.sources.limits files c.args.sources.lp.now dec c.args.blocks c.args.classes) (g.F.Shelf.file c.shown-answer.new.shelf ≡ files) c.shown-answer.result c.reply_or_status.result
    (g.F.Shelf.tells c.args.shelf.now) (g.F.Shelf.read_faults c.args.shelf.now) (g.F.Shelf.read_faults c.shown-answer.new.shelf) (g.F.Shelf.write_faults c.args.shelf.now)
    (g.F.Shelf.write_faults c.shown-answer.new.shelf) c.finish.result.status c.finish.result.lost (g.O.Sink.tells c.args.out.now) (g.O.Sink.taken c.args.out.now) (g.O.Sink.taken c.finish.new.out)
    (g.O.Sink.faults c.args.out.now) (g.O.Sink.faults c.finish.new.out) (g.O.Sink.puts c.args.out.now) (g.O.Sink.puts c.finish.new.out) c.reply_or_status.ensures
    (one_answer c.args.sources.limits files c.args.sources.lp.now dec c.args.blocks c.args.classes) c.shown-answer.ensures.right c.shown-answer.ensures.statuses c.shown-answer.ensures.cause c.shown-answer.ensures.writes c.shown-answer.ensures.files
    c.finish.ensures.ends in
    record {
      answered = end.ends.answered;
      exact = end.ends.exact;
      causes = end.ends.causes;
      kept = c.finish.ensures.kept;
      events = c.finish.ensures.events;
      words = end.ends.words;
      files = c.shown-answer.ensures.files;
      writes = c.shown-answer.ensures.writes;
      silent = end.ends.silent;
      puts = end.ends.puts;
      failed = end.failed;
      cut_off = end.ends.cut_off;
    }
