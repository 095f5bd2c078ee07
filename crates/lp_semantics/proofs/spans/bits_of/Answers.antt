-- The digits of a 64-bit number are those behind its leading zeros.
use Rattle.std.proofs.Common.{ap, arith}
use Rattle.bp_theory.specs.Digits.{binary_digits}
use Rattle.bp_theory.proofs.DigitsProof.{digits_by_zeros_lem}
use Rattle.lp_semantics.proofs.spans.bits_of.Goals as goal

pub returns-clause-bits : goal.returns-clause-bits
returns-clause-bits c =
    omega (arith, digits_by_zeros_lem c.length_of.result (omega arith), ap binary_digits c.length_of.ensures)
