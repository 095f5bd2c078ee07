use Rattle.std.proofs.Common.{sym, subst, ℕ, Err, Result}
use Rattle.frontend.specs.Endings.{loses}
use Rattle.frontend.specs.declared.ending.Reply.{Reply}
use Rattle.frontend.specs.declared.ending.Unprinted.{Unprinted}
use Rattle.cmd_certificates.specs.Writes.{WritesAnew, whole}
use Rattle.cmd_certificates.proofs.Streamed.{anew_stopped}
use Rattle.cmd_certificates.proofs.migration.write_anew.Goals as goal

pub returns-in-Ok-clause-writes : goal.returns-in-Ok-clause-writes
returns-in-Ok-clause-writes g c = whole _ c.in-Ok.ensures.files c.in-Ok.ensures.cause

pub returns-in-Err-clause-writes : goal.returns-in-Err-clause-writes
returns-in-Err-clause-writes g c =
    let told = g.F.Shelf.tells c.args.shelf.now in
    let before = g.F.Shelf.file c.args.shelf.now in
    let now = g.F.Shelf.file c.rewrite_stream.new.shelf in
    let writes = g.F.Shelf.write_faults c.args.shelf.now in
    let writes_now = g.F.Shelf.write_faults c.rewrite_stream.new.shelf in
    subst (λ (status : ℕ). WritesAnew c.args.b.now c.args.cert.now told c.args.new.now before now writes writes_now c.args.reply (let r : Result Reply Unprinted = Err (loses status c.args.reply) in r))
    (sym c.stop_status.ensures)
    (anew_stopped c.args.b.now c.args.cert.now told c.args.new.now before now writes writes_now c.args.reply c.in-Err.stop c.in-Err.ensures.files c.in-Err.ensures.cause)
