use Rattle.std.proofs.Common.{arith, to_z}
use Rattle.std.specs.Prelude.{pos}
use Rattle.std.specs.Int.{w128}
use Rattle.std.proofs.lemmas.Int.{ints}
use Rattle.open_nodes.proofs.PlainBound.{one_more, so_far_small}
use Rattle.open_nodes.proofs.bound.better_total.Goals as goal

pub plus-sum-requires : goal.plus-sum-requires
plus-sum-requires c =
    let h = one_more c.args.constant.now c.args.terms.now c.args.spans.now c.loop-term.term-index (record { var = 0; coef = pos 0 })
    (to_z w128 c.loop-term.sum-bits) c.end_cost.result c.requires.small c.loop-term-test.true c.loop-term.invariant c.end_cost.ensures in
    omega (arith, ints, h.1)

pub loop-term-preserved : goal.loop-term-preserved
loop-term-preserved c =
    let h = one_more c.args.constant.now c.args.terms.now c.args.spans.now c.loop-term.term-index (record { var = 0; coef = pos 0 })
    (to_z w128 c.loop-term.sum-bits) c.end_cost.result c.requires.small c.loop-term-test.true c.loop-term.invariant c.end_cost.ensures in
    omega (arith, ints, h.0)

pub returns-clause-small : goal.returns-clause-small
returns-clause-small c =
    so_far_small c.args.constant.now c.args.terms.now c.args.spans.now c.loop-term.term-index (to_z w128 c.loop-term.sum-bits) c.requires.small c.loop-term.invariant
