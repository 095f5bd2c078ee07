use Rattle.std.proofs.Common.{◌∙◌, ap, sym, ◌+ℤ◌, take}
use Rattle.std.specs.Int.{w128}
use mir.Val.{of_z, to_z}
use Rattle.bp_theory.specs.Bound.{box_least}
use Rattle.pricing_problem.proofs.Passed.{passed}
use Rattle.enumeration.proofs.BeginLaws.{cost_fits, cost_total_fits, box_least_more}
use Rattle.enumeration.proofs.start.least_cost.Goals as goal

pub least_end-end-requires : goal.least_end-end-requires
least_end-end-requires c = cost_fits c.args.zone.now c.args.costs.now c.loop-k.k c.loop-k-test.true c.requires.sizes

pub plus-sum-requires : goal.plus-sum-requires
plus-sum-requires c =
    cost_total_fits c.args.zone.now c.args.costs.now c.loop-k.k (to_z w128 c.loop-k.sum-bits) (to_z w128 (of_z w128 c.least_end-end.result)) c.loop-k-test.true
    c.requires.sizes c.loop-k.invariant (passed c.least_end-end.result c.least_end-end.type_inv ∙ c.least_end-end.ensures)

pub loop-k-preserved : goal.loop-k-preserved
loop-k-preserved c =
    passed c.plus-sum.result c.plus-sum.type_inv
    ∙ c.plus-sum.ensures
    ∙ ap (λ z. z +ℤ to_z w128 (of_z w128 c.least_end-end.result)) c.loop-k.invariant
    ∙ ap (λ z. box_least (take c.loop-k.k c.args.zone.now) c.args.costs.now +ℤ z) (passed c.least_end-end.result c.least_end-end.type_inv ∙ c.least_end-end.ensures)
    ∙ sym (box_least_more c.args.zone.now c.args.costs.now c.loop-k.k c.loop-k-test.true)
