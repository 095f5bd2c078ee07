use Rattle.stronger_laws.proofs.MirProof.{mir_shrinks_lem}
use Rattle.stronger_laws.proofs.mir_shrinks.Goals as goal

pub returns : goal.returns
returns c = mir_shrinks_lem
