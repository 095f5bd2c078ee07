use Rattle.std.proofs.Common.{arith, to_z, of_z}
use Rattle.std.specs.Int.{w128}
use Rattle.std.proofs.lemmas.Int.{ints}
use Rattle.enumeration.proofs.DivisorLaws.{zero_tells, multiple_tells}
use Rattle.enumeration.proofs.divisor.has_multiple.Goals as goal

pub returns-then-divisor-eq0 : goal.returns-then-divisor-eq0
returns-then-divisor-eq0 c = zero_tells c.args.divisor c.args.low.now c.args.rhs.now c.has_zero.result (omega (arith, c.if-divisor-eq0.true)) c.has_zero.ensures

pub returns : goal.returns
returns c =
    multiple_tells c.args.divisor c.args.low.now c.args.rhs.now c.multiple_below-multiple.result (to_z w128 (of_z w128 c.multiple_below-multiple.result)) c.reaches.result
    c.multiple_below-multiple.ensures.multiple c.multiple_below-multiple.ensures.below c.multiple_below-multiple.ensures.close
    (omega (arith, ints, c.multiple_below-multiple.type_inv)) c.reaches.ensures
