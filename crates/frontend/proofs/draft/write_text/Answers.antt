use Rattle.std.proofs.Common.{sym, subst, ℕ, Err, Result}
use Rattle.frontend.specs.Endings.{WritesText, loses, written}
use Rattle.frontend.specs.declared.ending.Reply.{Reply}
use Rattle.frontend.specs.declared.ending.Unprinted.{Unprinted}
use Rattle.frontend.proofs.Drafts.{text_unwritten}
use Rattle.frontend.proofs.draft.write_text.Goals as goal

pub returns-in-Ok-clause-writes : goal.returns-in-Ok-clause-writes
returns-in-Ok-clause-writes g c = written c.in-Ok.ensures.files c.in-Ok.ensures.cause

pub returns-in-Err-clause-writes : goal.returns-in-Err-clause-writes
returns-in-Err-clause-writes g c =
    let told = g.F.Shelf.tells c.args.shelf.now in
    let before = g.F.Shelf.file c.args.shelf.now in
    let now = g.F.Shelf.file c.replace.new.self in
    let writes = g.F.Shelf.write_faults c.args.shelf.now in
    let writes_now = g.F.Shelf.write_faults c.replace.new.self in
    subst (λ (status : ℕ). WritesText told c.args.name.now c.args.text.now before now writes writes_now c.args.reply (let r : Result Reply Unprinted = Err (loses status c.args.reply) in r)) (sym c.write_status.ensures)
    (text_unwritten told c.args.name.now c.args.text.now c.args.text.now before now writes writes_now c.args.reply c.in-Err.fault c.in-Err.ensures.files c.in-Err.ensures.cause)
