use Rattle.std.proofs.Common.{subst}
use Rattle.std.specs.Int.{IsGcd}
use Rattle.enumeration.proofs.DivisorLaws.{divisor_more}
use Rattle.enumeration.proofs.divisor.divisor_of.Goals as goal

pub loop-term-preserved : goal.loop-term-preserved
loop-term-preserved c =
    divisor_more c.args.terms.now c.loop-term.term-index c.loop-term.divisor c.common_divisor-divisor.result c.loop-term-test.true
    (subst (λ n. IsGcd c.loop-term.divisor n c.common_divisor-divisor.result) c.magnitude.ensures c.common_divisor-divisor.ensures) c.loop-term.invariant
