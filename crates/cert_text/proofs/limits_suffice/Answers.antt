use Rattle.cert_text.proofs.WritesProof.{has_text}
use Rattle.cert_text.proofs.limits_suffice.Goals as goal

pub returns : goal.returns
returns c = has_text
