use Rattle.std.proofs.Common.{◌∙◌, subst, sym, ◌^◌, ◌<◌, pos}
use Rattle.std.specs.Prelude.{unsigned_abs}
use Rattle.std.specs.Int.{w128}
use mir.Val.{of_z, to_z}
use Rattle.bp_theory.specs.Bound.{end_cost}
use Rattle.pricing_problem.proofs.EndLaws.{end_cost-within}
use Rattle.pricing_problem.proofs.Passed.{passed}
use Rattle.enumeration.proofs.BeginLaws.{term_short, row_sum_fits, reach_by_more}
use Rattle.enumeration.proofs.start.sum_of_lows.Goals as goal

pub least_of-end-requires-clause-short : goal.least_of-end-requires-clause-short
least_of-end-requires-clause-short c =
    term_short c.args.zone.now c.args.spans.now c.args.terms.now c.loop-term.term-index (record { var = 0; coef = pos 0 })
    c.requires.proper c.requires.inside c.requires.small c.loop-term-test.true

pub plus-sum-requires : goal.plus-sum-requires
plus-sum-requires c =
    row_sum_fits end_cost c.args.zone.now c.args.spans.now c.args.terms.now c.loop-term.term-index (to_z w128 c.loop-term.sum-bits) (to_z w128 (of_z w128 c.least_of-end.result))
    end_cost-within c.requires.proper c.requires.inside c.requires.small c.loop-term.invariant
    (subst (λ z. unsigned_abs z < 2 ^ 62) (sym (passed c.least_of-end.result c.least_of-end.type_inv)) c.least_of-end.ensures.small)

pub loop-term-preserved : goal.loop-term-preserved
loop-term-preserved c =
    reach_by_more end_cost c.args.zone.now c.args.terms.now c.loop-term.term-index (record { var = 0; coef = pos 0 }) (to_z w128 (of_z w128 c.plus-sum.result))
    (to_z w128 c.loop-term.sum-bits) (to_z w128 (of_z w128 c.least_of-end.result)) c.loop-term-test.true
    (passed c.plus-sum.result c.plus-sum.type_inv ∙ c.plus-sum.ensures)
    c.loop-term.invariant
    (passed c.least_of-end.result c.least_of-end.type_inv ∙ c.least_of-end.ensures.value)
