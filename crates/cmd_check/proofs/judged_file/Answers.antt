use Rattle.frontend.specs.declared.ending.Reply.{Reply}
use Rattle.frontend.proofs.Lifts.{counts_halt}
use Rattle.cmd_check.proofs.OneAnswer.{as_missing, fault_right}
use Rattle.cmd_check.proofs.Replies.{file_replies}
use Rattle.cmd_check.proofs.judged_file.Goals as goal

pub reply_of-requires : goal.reply_of-requires
reply_of-requires g c =
    let file = c.in-Ok-feed_file.ensures.stands c.args.visits c.in-Ok-make.ensures.stands in
    record { stands = (c.args.b.now, c.args.visits, file.text, c.in-Ok-feed_file.ensures.made_for, file.stands) }

pub returns-in-Ok-reply_of-clause-right : goal.returns-in-Ok-reply_of-clause-right
returns-in-Ok-reply_of-clause-right g c = λ told.
    let file = c.in-Ok-feed_file.ensures.stands c.args.visits c.in-Ok-make.ensures.stands in
    file_replies c.args.visits (g.F.Shelf.tells c.args.shelf.now) (g.F.Shelf.file c.args.shelf.now) c.args.cert.now c.args.b.now c.feed_file.new.checker c.in-Ok-reply_of.reply told file
    (c.in-Ok-reply_of.ensures.right c.args.b.now c.args.visits file.text c.in-Ok-feed_file.ensures.made_for file.stands)

pub returns-clause-right : goal.returns-clause-right
returns-clause-right g c = λ told.
    fault_right c.args.visits (g.F.Shelf.file c.args.shelf.now) c.args.cert.now c.args.b.now c.in-Err.fault
    (λ is. c.in-Err.ensures.missing told (as_missing c.in-Err.fault is))

pub returns-clause-cause : goal.returns-clause-cause
returns-clause-cause g c = counts_halt (Unit {0}) Reply c.in-Err.fault _ _ c.in-Err.ensures.cause
