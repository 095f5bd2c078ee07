use Rattle.stronger_laws.proofs.BoundProof.{mir_is_bounded_lem}
use Rattle.stronger_laws.proofs.mir_is_bounded.Goals as goal

pub returns : goal.returns
returns c = mir_is_bounded_lem
