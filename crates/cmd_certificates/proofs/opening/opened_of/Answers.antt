use Rattle.cmd_certificates.proofs.OpenProof.{text_opened, text_usable, text_stopped}
use Rattle.cmd_certificates.proofs.opening.opened_of.Goals as goal

pub judged-requires-clause-goes_with : goal.judged-requires-clause-goes_with
judged-requires-clause-goes_with c = let goes = c.requires.goes_with in rw c.in-Ok.is at goes

pub returns-in-Ok-clause-opened : goal.returns-in-Ok-clause-opened
returns-in-Ok-clause-opened c = λ text reads.
    let goes = c.requires.goes_with in
    text_opened c.args.b.now text c.in-Ok.cert c.judged.result (rw c.in-Ok.is at reads) (rw c.in-Ok.is at goes) c.judged.ensures.loaded c.judged.ensures.valid

pub returns-in-Ok-clause-usable : goal.returns-in-Ok-clause-usable
returns-in-Ok-clause-usable c =
    let of_text = c.requires.of_text in
    let reads = of_text.1 in
    text_usable c.args.b.now of_text.0 c.in-Ok.cert c.judged.result of_text.2 (rw c.in-Ok.is at reads) c.judged.ensures.loaded

pub returns-in-Ok-clause-stopped : goal.returns-in-Ok-clause-stopped
returns-in-Ok-clause-stopped c = λ text reads. text_stopped c.args.b.now text c.in-Ok.cert c.judged.result (rw c.in-Ok.is at reads) c.judged.ensures.stopped

pub returns-in_ok-faulty_stop-in-Err-clause-stopped : goal.returns-in_ok-faulty_stop-in-Err-clause-stopped
returns-in_ok-faulty_stop-in-Err-clause-stopped c = λ text reads. c.in_ok-faulty_stop-in-Err.ensures.stopped c.args.b.now text (rw c.in-Err.is at reads)
