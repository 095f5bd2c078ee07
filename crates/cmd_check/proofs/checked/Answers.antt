use Rattle.std.proofs.Common.{sym, subst, ℕ, Bool, IsTrue}
use Rattle.std.specs.Option.{option_map}
use Rattle.bp_shelf.specs.Shelf.{Files}
use Rattle.frontend.specs.Endings.{IsRightReply}
use Rattle.frontend.specs.Halts.{CountsHalted}
use Rattle.frontend.proofs.Lifts.{halt_right, reply_right}
use Rattle.cmd_check.specs.Checks.{ChecksVisiting}
use Rattle.cmd_check.proofs.checked.Goals as goal

pub returns-in-Ok-clause-right : goal.returns-in-Ok-clause-right
returns-in-Ok-clause-right g c = λ told.
    let files = g.F.Shelf.file c.args.shelf.now in
    let still : IsTrue (g.F.Shelf.tells c.load.new.shelf) = subst (λ (t : Bool). IsTrue t) (sym c.in-Ok.ensures.told) told in
    reply_right c.args.sources.limits files c.args.sources.lp.now (option_map (λ name. name.now) c.args.sources.dec) (Unit {0}) (ChecksVisiting c.args.visits files c.args.cert.now) c.in-Ok.b c.judged_file.result
    (c.in-Ok.ensures.blocked told)
    (subst (λ (fs : Files). IsRightReply (ChecksVisiting c.args.visits fs c.args.cert.now c.in-Ok.b) c.judged_file.result) c.in-Ok.ensures.files (c.judged_file.ensures.right still))

pub returns-in-Ok-clause-cause : goal.returns-in-Ok-clause-cause
returns-in-Ok-clause-cause g c =
    subst (λ (reads : ℕ). CountsHalted reads (g.F.Shelf.read_faults c.judged_file.new.shelf) c.judged_file.result) c.in-Ok.ensures.cause c.judged_file.ensures.cause

pub returns-in-Err-clause-right : goal.returns-in-Err-clause-right
returns-in-Err-clause-right g c = λ told.
    halt_right c.args.sources.limits (g.F.Shelf.file c.args.shelf.now) c.args.sources.lp.now (option_map (λ name. name.now) c.args.sources.dec) (Unit {0}) (ChecksVisiting c.args.visits (g.F.Shelf.file c.args.shelf.now) c.args.cert.now)
    c.in-Err.halt tt (c.in-Err.ensures.halted told)
