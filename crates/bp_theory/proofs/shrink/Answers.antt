use Rattle.bp_theory.proofs.ShrinkProof.{shrink_lem}
use Rattle.bp_theory.proofs.shrink.Goals as goal

pub returns : goal.returns
returns c = shrink_lem
