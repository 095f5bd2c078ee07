use Rattle.bp_theory.proofs.DigitsProof.{digits_by_zeros_lem}
use Rattle.bp_theory.proofs.digits_by_zeros.Goals as goal

pub returns : goal.returns
returns c = digits_by_zeros_lem
