use Rattle.cmd_certificates.proofs.Lifted.{text_read}
use Rattle.cmd_certificates.proofs.migration.migrated_of.Goals as goal

pub returns-in_ok-told-in-Ok-clause-read : goal.returns-in_ok-told-in-Ok-clause-read
returns-in_ok-told-in-Ok-clause-read c = λ text short reads.
    let m = c.in_ok-told-in-Ok.field-0 in
    text_read c.args.b text c.in-Ok.cert m short (rw c.in-Ok.is at reads) c.in_ok-told-in-Ok.ensures.b c.in_ok-told-in-Ok.ensures.cert c.in_ok-told-in-Ok.ensures.report
    c.in_ok-told-in-Ok.ensures.done

pub returns-in_ok-faulty_halt-in-Err-clause-halted : goal.returns-in_ok-faulty_halt-in-Err-clause-halted
returns-in_ok-faulty_halt-in-Err-clause-halted c = λ text reads. c.in_ok-faulty_halt-in-Err.ensures c.args.b text (rw c.in-Err.is at reads)
