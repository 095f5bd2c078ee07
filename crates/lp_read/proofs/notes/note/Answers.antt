-- A token too many is refused.
use Rattle.lp_read.specs.Noted.{seen_in}
use Rattle.lp_read.proofs.Noting.{noted_as, over_refused}
use Rattle.lp_read.proofs.notes.note.Goals as goal

pub returns-clause-fault : goal.returns-clause-fault
returns-clause-fault c =
    over_refused c.args.notes c.note_term-notes.result c.args.at (seen_in c.args.bytes.now c.args.seen) c.within_limits.result
    (noted_as c.args.notes c.in_ok-notes.notes c.in_ok-notes-2.notes c.note_term-notes.result c.args.at (seen_in c.args.bytes.now c.args.seen) c.counts_as_term.result
    c.in_ok-notes.ensures.added c.in_ok-notes-2.ensures (c.counts_as_term.ensures c.args.bytes.now) c.note_term-notes.ensures)
    c.in_ok-notes.ensures.new c.within_limits.ensures.fault
