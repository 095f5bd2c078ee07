use Rattle.bp_theory.proofs.FaithProof.{adding_up_lem}
use Rattle.bp_theory.proofs.adding_up_is_faithful.Goals as goal

pub returns : goal.returns
returns c = adding_up_lem
