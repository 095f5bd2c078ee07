use Rattle.stronger_laws.proofs.WideProof.{wide_is_faithful_lem}
use Rattle.stronger_laws.proofs.wide_is_faithful.Goals as goal

pub returns : goal.returns
returns c = wide_is_faithful_lem
