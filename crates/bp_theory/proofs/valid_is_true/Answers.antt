use Rattle.bp_theory.proofs.TruthProof.{valid_is_true_lem}
use Rattle.bp_theory.proofs.valid_is_true.Goals as goal

pub returns : goal.returns
returns c = valid_is_true_lem
