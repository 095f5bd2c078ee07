use Rattle.cmd_demo.proofs.Replies.{demo_answers, demo_cut, refused_answers, refused_only, refused_cut}
use Rattle.cmd_demo.proofs.demonstrate.Goals as goal

pub returns-in-Ok-clause-answered : goal.returns-in-Ok-clause-answered
returns-in-Ok-clause-answered g c =
    demo_answers c.args.seed c.args.size c.in-Ok.reply c.in-Ok.outcome c.print.result.kept c.print.result.status (g.O.Sink.tells c.args.out.now) (g.O.Sink.taken c.args.out.now) (g.O.Sink.taken c.print.new.out)
    c.in-Ok.ensures.shown c.print.ensures.status c.print.ensures.kept c.print.ensures.printed

pub returns-in-Ok-clause-cut_off : goal.returns-in-Ok-clause-cut_off
returns-in-Ok-clause-cut_off g c =
    demo_cut c.args.seed c.args.size c.in-Ok.reply c.in-Ok.outcome c.print.result.status c.print.result.lost (g.O.Sink.tells c.args.out.now) (g.O.Sink.taken c.args.out.now) (g.O.Sink.taken c.print.new.out)
    c.in-Ok.ensures.shown c.print.ensures.lost c.print.ensures.partly

pub returns-in-Err-Refused-clause-answered : goal.returns-in-Err-Refused-clause-answered
returns-in-Err-Refused-clause-answered g c =
    let halts = c.in-Err-Refused.ensures.halted in
    refused_answers c.args.seed c.args.size c.in-Err-Refused.report.items c.print-in-Err-Refused.result.kept c.print-in-Err-Refused.result.status (g.O.Sink.tells c.args.out.now) (g.O.Sink.taken c.args.out.now) (g.O.Sink.taken c.print-in-Err-Refused.new.out)
    (rw c.in-Err-Refused.field-0-is at halts) c.print-in-Err-Refused.ensures.status c.print-in-Err-Refused.ensures.kept c.print-in-Err-Refused.ensures.printed

pub returns-in-Err-Refused-clause-exact : goal.returns-in-Err-Refused-clause-exact
returns-in-Err-Refused-clause-exact g c =
    let halts = c.in-Err-Refused.ensures.halted in
    refused_only c.args.seed c.args.size c.in-Err-Refused.report.items c.print-in-Err-Refused.result.kept c.print-in-Err-Refused.result.status
    (rw c.in-Err-Refused.field-0-is at halts) c.print-in-Err-Refused.ensures.status

pub returns-in-Err-Refused-clause-cut_off : goal.returns-in-Err-Refused-clause-cut_off
returns-in-Err-Refused-clause-cut_off g c =
    let halts = c.in-Err-Refused.ensures.halted in
    refused_cut c.args.seed c.args.size c.in-Err-Refused.report c.print-in-Err-Refused.result.status c.print-in-Err-Refused.result.lost (g.O.Sink.tells c.args.out.now) (g.O.Sink.taken c.args.out.now) (g.O.Sink.taken c.print-in-Err-Refused.new.out)
    (rw c.in-Err-Refused.field-0-is at halts) c.print-in-Err-Refused.ensures.lost c.print-in-Err-Refused.ensures.partly
