use Rattle.cmd_demo.proofs.Replies.{demos}
use Rattle.cmd_demo.proofs.summary.Goals as goal

pub returns : goal.returns
returns c =
    demos c.args.seed c.args.size c.args.b.now c.args.outcome.now c.in_ok-judged.judged c.status_of-status.result c.in_ok-report.report.items
    c.requires.ends c.in_ok-judged.ensures c.status_of-status.ensures c.in_ok-report.ensures
