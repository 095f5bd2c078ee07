use Rattle.bp_theory.proofs.DecompositionProof.{decomposition_lem}
use Rattle.bp_theory.proofs.decomposition_is_faithful.Goals as goal

pub returns : goal.returns
returns c = decomposition_lem
