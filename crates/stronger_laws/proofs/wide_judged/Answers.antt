use Rattle.stronger_laws.proofs.WideJudgeProof.{wide_judged_lem}
use Rattle.stronger_laws.proofs.wide_judged.Goals as goal

pub returns : goal.returns
returns c = wide_judged_lem
