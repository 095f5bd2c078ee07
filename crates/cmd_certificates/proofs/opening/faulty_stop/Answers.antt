use Rattle.std.proofs.Common.{refl}
use Rattle.cmd_certificates.specs.Opens.{faulty}
use Rattle.cmd_certificates.proofs.opening.faulty_stop.Goals as goal

pub returns-in_ok-cert_text-in-At-clause-stopped : goal.returns-in_ok-cert_text-in-At-clause-stopped
returns-in_ok-cert_text-in-At-clause-stopped c = λ b text reads.
    faulty c.in-At.line c.in-At.kind (rw c.in-At.is at reads) refl c.in_ok-cert_text-in-At.ensures
