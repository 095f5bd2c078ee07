use Rattle.bp_theory.proofs.CopyProof.{copies_of_each_lem}
use Rattle.bp_theory.proofs.copies_of_each.Goals as goal

pub returns : goal.returns
returns c = copies_of_each_lem
