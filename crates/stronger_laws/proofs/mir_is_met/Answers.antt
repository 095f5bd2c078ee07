use Rattle.stronger_laws.proofs.MirProof.{mir_is_met_lem}
use Rattle.stronger_laws.proofs.mir_is_met.Goals as goal

pub returns : goal.returns
returns c = mir_is_met_lem
