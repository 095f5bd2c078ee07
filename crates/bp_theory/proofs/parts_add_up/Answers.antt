use Rattle.bp_theory.proofs.RoundProof.{parts_add_up_lem}
use Rattle.bp_theory.proofs.parts_add_up.Goals as goal

pub returns : goal.returns
returns c = parts_add_up_lem
