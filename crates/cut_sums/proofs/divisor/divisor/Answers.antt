use Rattle.std.proofs.Common.{◌≡◌, get_or, subst, arith}
use Rattle.std.specs.Prelude.{pos, unsigned_abs}
use Rattle.std.proofs.lemmas.Int.{ints}
use Rattle.std.specs.Int.{IsGcd}
use Rattle.cut_sums.proofs.PlainLemmas.{divisor_of_none, divisor_more}
use Rattle.cut_sums.proofs.divisor.divisor.Goals as goal

pub loop-term-init : goal.loop-term-init
loop-term-init c = divisor_of_none c.args.terms.now

pub loop-term-preserved : goal.loop-term-preserved
loop-term-preserved c =
    let size : c.unsigned_abs.result ≡ unsigned_abs (get_or c.args.terms.now c.loop-term.term-index (record { var = 0; coef = pos 0 })).coef =
    omega (arith, ints, c.unsigned_abs.ensures.value) in
    divisor_more c.args.terms.now c.loop-term.term-index (record { var = 0; coef = pos 0 }) c.loop-term.q c.greatest_common_divisor-q.result c.loop-term-test.true
    c.loop-term.invariant
    (subst (λ n. IsGcd c.loop-term.q n c.greatest_common_divisor-q.result) size c.greatest_common_divisor-q.ensures)
