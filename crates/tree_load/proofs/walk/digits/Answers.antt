use Rattle.std.proofs.Common.{arith}
use Rattle.bp_theory.proofs.DigitsProof.{digits_by_zeros_lem}
use Rattle.tree_load.proofs.walk.digits.Goals as goal

pub returns-clause-value : goal.returns-clause-value
returns-clause-value c = omega (arith, digits_by_zeros_lem c.args.number c.ranges.number.fits)
