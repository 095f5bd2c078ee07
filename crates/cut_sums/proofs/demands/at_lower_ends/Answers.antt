-- One more term keeps the sum so far within what the terms allow.
use Rattle.std.proofs.Common.{arith, to_z}
use Rattle.std.specs.Prelude.{pos}
use Rattle.std.specs.Int.{w128}
use Rattle.std.proofs.lemmas.Int.{ints}
use Rattle.cut_sums.proofs.SizeLemmas.{low_more}
use Rattle.cut_sums.proofs.demands.at_lower_ends.Goals as goal

pub plus-sum-requires : goal.plus-sum-requires
plus-sum-requires c =
    let h = low_more c.args.spans.now c.args.terms.now c.loop-term.term-index (record { var = 0; coef = pos 0 }) (to_z w128 c.loop-term.sum-bits) c.low_product-more.result
    c.loop-term-test.true c.loop-term.invariant c.low_product-more.ensures c.requires.small in
    omega (arith, ints, h.1)

pub loop-term-preserved : goal.loop-term-preserved
loop-term-preserved c =
    let h = low_more c.args.spans.now c.args.terms.now c.loop-term.term-index (record { var = 0; coef = pos 0 }) (to_z w128 c.loop-term.sum-bits) c.low_product-more.result
    c.loop-term-test.true c.loop-term.invariant c.low_product-more.ensures c.requires.small in
    omega (arith, ints, h.0)
