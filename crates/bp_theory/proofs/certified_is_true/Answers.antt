use Rattle.bp_theory.proofs.CutProof.{certified_is_true_lem}
use Rattle.bp_theory.proofs.certified_is_true.Goals as goal

pub returns : goal.returns
returns c = certified_is_true_lem
