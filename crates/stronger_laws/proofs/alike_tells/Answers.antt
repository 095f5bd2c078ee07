use Rattle.stronger_laws.proofs.AlikeProof.{alike_tells_lem}
use Rattle.stronger_laws.proofs.alike_tells.Goals as goal

pub returns : goal.returns
returns c = alike_tells_lem
