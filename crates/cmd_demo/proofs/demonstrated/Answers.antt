use Rattle.cmd_demo.proofs.Replies.{want_halts}
use Rattle.cmd_demo.proofs.demonstrated.Goals as goal

pub returns-in_err-reply-clause-halted : goal.returns-in_err-reply-clause-halted
returns-in_err-reply-clause-halted c = want_halts c.args.seed c.args.size c.from_residual-in_err-reply.result c.from_residual-in_err-reply.ensures.1
