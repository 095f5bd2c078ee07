use Rattle.stronger_laws.proofs.RoundingProof.{rounding_is_mir_lem}
use Rattle.stronger_laws.proofs.rounding_is_mir.Goals as goal

pub returns : goal.returns
returns c = rounding_is_mir_lem
