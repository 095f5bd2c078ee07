use Rattle.bp_theory.proofs.RoundProof.{rounded_holds_lem}
use Rattle.bp_theory.proofs.rounded_holds.Goals as goal

pub returns : goal.returns
returns c = rounded_holds_lem
