use Rattle.stronger_laws.proofs.KeepProof.{priced_alike_lem}
use Rattle.stronger_laws.proofs.priced_alike.Goals as goal

pub returns : goal.returns
returns c = priced_alike_lem
