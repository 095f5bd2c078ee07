use Rattle.stronger_laws.proofs.WideTruthProof.{wide_certified_is_true_lem}
use Rattle.stronger_laws.proofs.wide_certified_is_true.Goals as goal

pub returns : goal.returns
returns c = wide_certified_is_true_lem
