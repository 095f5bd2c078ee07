use Rattle.std.proofs.Common.{◌∙◌, subst, sym, ◌^◌, ◌<◌, pos}
use Rattle.std.specs.Prelude.{unsigned_abs}
use Rattle.std.specs.Int.{w128}
use mir.Val.{of_z, to_z}
use Rattle.pricing_problem.specs.Ends.{top_cost}
use Rattle.pricing_problem.proofs.EndLaws.{top_cost-within}
use Rattle.pricing_problem.proofs.Passed.{passed}
use Rattle.enumeration.proofs.BeginLaws.{term_short, row_sum_fits, reach_by_more}
use Rattle.enumeration.proofs.start.sum_of_highs.Goals as goal

pub top_of-end-requires-clause-short : goal.top_of-end-requires-clause-short
top_of-end-requires-clause-short c =
    term_short c.args.zone.now c.args.spans.now c.args.terms.now c.loop-term.term-index (record { var = 0; coef = pos 0 })
    c.requires.proper c.requires.inside c.requires.small c.loop-term-test.true

pub plus-sum-requires : goal.plus-sum-requires
plus-sum-requires c =
    row_sum_fits top_cost c.args.zone.now c.args.spans.now c.args.terms.now c.loop-term.term-index (to_z w128 c.loop-term.sum-bits) (to_z w128 (of_z w128 c.top_of-end.result))
    top_cost-within c.requires.proper c.requires.inside c.requires.small c.loop-term.invariant
    (subst (λ z. unsigned_abs z < 2 ^ 62) (sym (passed c.top_of-end.result c.top_of-end.type_inv)) c.top_of-end.ensures.small)

pub loop-term-preserved : goal.loop-term-preserved
loop-term-preserved c =
    reach_by_more top_cost c.args.zone.now c.args.terms.now c.loop-term.term-index (record { var = 0; coef = pos 0 }) (to_z w128 (of_z w128 c.plus-sum.result))
    (to_z w128 c.loop-term.sum-bits) (to_z w128 (of_z w128 c.top_of-end.result)) c.loop-term-test.true
    (passed c.plus-sum.result c.plus-sum.type_inv ∙ c.plus-sum.ensures)
    c.loop-term.invariant
    (passed c.top_of-end.result c.top_of-end.type_inv ∙ c.top_of-end.ensures.value)
