use Rattle.bp_theory.proofs.ClassProof.{least_over_box_lem}
use Rattle.bp_theory.proofs.least_over_box.Goals as goal

pub returns : goal.returns
returns c = least_over_box_lem
