use Rattle.bp_theory.proofs.DigitsProof.{digits_are_fewest_lem}
use Rattle.bp_theory.proofs.digits_are_fewest.Goals as goal

pub returns : goal.returns
returns c = digits_are_fewest_lem
