use Rattle.stronger_laws.proofs.StaysProof.{certified_stays_lem}
use Rattle.stronger_laws.proofs.certified_stays.Goals as goal

pub returns : goal.returns
returns c = certified_stays_lem
