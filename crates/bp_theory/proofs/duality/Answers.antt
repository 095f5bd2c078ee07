use Rattle.bp_theory.proofs.DualityProof.{duality_lem}
use Rattle.bp_theory.proofs.duality.Goals as goal

pub returns : goal.returns
returns c = duality_lem
