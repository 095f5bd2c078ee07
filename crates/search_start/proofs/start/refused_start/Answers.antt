use Rattle.std.proofs.Common.{refl}
use Rattle.search_start.specs.Starts.{faulty}
use Rattle.search_start.proofs.start.refused_start.Goals as goal

pub returns-in_ok-cert_text-in-At-clause-start : goal.returns-in_ok-cert_text-in-At-clause-start
returns-in_ok-cert_text-in-At-clause-start c = λ b leaf cuts text reads.
    faulty c.in-At.line c.in-At.kind (rw c.in-At.is at reads) refl c.in_ok-cert_text-in-At.ensures
