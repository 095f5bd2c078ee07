use Rattle.cmd_certificates.proofs.OpenProof.{cert_rejected, cert_valid, cert_known}
use Rattle.cmd_certificates.proofs.opening.judged.Goals as goal

pub loaded-requires-clause-valid : goal.loaded-requires-clause-valid
loaded-requires-clause-valid c =
    cert_valid c.args.b.now c.args.cert.now c.in_ok-judged.judged c.in-Accepted.field-0 c.in-Accepted.is c.in_ok-judged.ensures.judged

pub returns-in_ok-check_text-in-Rejected-clause-stopped : goal.returns-in_ok-check_text-in-Rejected-clause-stopped
returns-in_ok-check_text-in-Rejected-clause-stopped c = λ text spelled.
    cert_rejected c.args.b.now c.args.cert.now c.in_ok-judged.judged c.in-Rejected.line c.in-Rejected.kind _ text c.in-Rejected.is
    c.in_ok-judged.ensures.judged c.in_ok-check_text-in-Rejected.ensures spelled

pub unreachable-requires : goal.unreachable-requires
unreachable-requires c = cert_known c.args.b.now c.args.cert.now c.in_ok-judged.judged c.in-Unknown.line c.in-Unknown.is c.in_ok-judged.ensures.judged
