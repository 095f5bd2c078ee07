use Rattle.bp_theory.proofs.JudgeProof.{judged_lem}
use Rattle.bp_theory.proofs.judged.Goals as goal

pub returns : goal.returns
returns c = judged_lem
