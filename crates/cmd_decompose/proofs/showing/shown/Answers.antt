use Rattle.std.specs.Option.{option_map}
use Rattle.frontend.specs.Answers.{went_on}
use Rattle.frontend.proofs.Lifts.{halt_right}
use Rattle.cmd_decompose.specs.Shows.{ShowsBlocked}
use Rattle.cmd_decompose.proofs.ShowOneAnswer.{shown_status}
use Rattle.cmd_decompose.proofs.showing.shown.Goals as goal

pub returns-in-Ok-reply_to-clause-right : goal.returns-in-Ok-reply_to-clause-right
returns-in-Ok-reply_to-clause-right g c = λ told. went_on c.in-Ok.b (c.in-Ok.ensures.blocked told) c.in-Ok-reply_to.ensures

pub returns-in-Ok-reply_to-clause-statuses : goal.returns-in-Ok-reply_to-clause-statuses
returns-in-Ok-reply_to-clause-statuses g c = shown_status c.args.blocks c.args.classes c.in-Ok.b c.in-Ok-reply_to.reply c.in-Ok-reply_to.ensures

pub returns-clause-right : goal.returns-clause-right
returns-clause-right g c = λ told.
    halt_right c.args.sources.limits (g.F.Shelf.file c.args.shelf.now) c.args.sources.lp.now (option_map (λ name. name.now) c.args.sources.dec) (Unit {0}) (ShowsBlocked c.args.blocks c.args.classes) c.in-Err.halt tt (c.in-Err.ensures.halted told)
