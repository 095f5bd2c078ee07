use Rattle.node_bound.proofs.Strong.{reached_more}
use Rattle.node_eval.proofs.raise.strongest.Goals as goal

pub returns-clause-short : goal.returns-clause-short
returns-clause-short c =
    reached_more c.args.node.program.now.blocking c.args.node.zone.now c.raised-first.result.bound c.raised.result.bound c.args.scaled.short c.raised.ensures.no_less
    c.raised.ensures.size c.raised-first.ensures.reached
