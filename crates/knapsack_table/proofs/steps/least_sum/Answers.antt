use Rattle.std.proofs.Common.{◌∙◌, ap, sym, subst, ◌+ℤ◌, ◌^◌, ◌≤◌, take, arith}
use Rattle.std.specs.Prelude.{unsigned_abs}
use Rattle.std.specs.Int.{w128}
use Rattle.std.proofs.lemmas.List.{take_all}
use mir.Val.{of_z, to_z}
use Rattle.bp_theory.specs.Bound.{box_least}
use Rattle.pricing_problem.proofs.Passed.{passed}
use Rattle.pricing_problem.proofs.EndLaws.{end_cost-within}
use Rattle.bp_theory.specs.Program.{span_at}
use Rattle.std.proofs.Common.{get_or, pos}
use Rattle.knapsack_table.proofs.StepLaws.{box_least_more, box_least_so_far, end_fits, small_sum_fits}
use Rattle.knapsack_table.proofs.steps.least_sum.Goals as goal

pub least_end-end-requires : goal.least_end-end-requires
least_end-end-requires c = omega (arith, c.requires.small, end_fits c.args.spans.now c.args.coefs.now c.loop-k.k c.loop-k-test.true)

pub plus-sum-requires : goal.plus-sum-requires
plus-sum-requires c =
    small_sum_fits (to_z w128 c.loop-k.sum-bits) (to_z w128 (of_z w128 c.least_end-end.result))
    (subst (λ z. unsigned_abs z ≤ 2 ^ 123) (sym c.loop-k.invariant)
    (omega (arith, c.requires.small, box_least_so_far c.args.spans.now c.args.coefs.now c.loop-k.k)))
    (subst (λ z. unsigned_abs z ≤ 2 ^ 123) (sym (passed c.least_end-end.result c.least_end-end.type_inv ∙ c.least_end-end.ensures))
    (omega (
      arith,
      c.requires.small,
      end_fits c.args.spans.now c.args.coefs.now c.loop-k.k c.loop-k-test.true,
      end_cost-within (span_at c.args.spans.now c.loop-k.k) (get_or c.args.coefs.now c.loop-k.k (pos 0)),
    )))

pub loop-k-preserved : goal.loop-k-preserved
loop-k-preserved c =
    passed c.plus-sum.result c.plus-sum.type_inv
    ∙ c.plus-sum.ensures
    ∙ ap (λ z. z +ℤ to_z w128 (of_z w128 c.least_end-end.result)) c.loop-k.invariant
    ∙ ap (λ z. box_least (take c.loop-k.k c.args.spans.now) c.args.coefs.now +ℤ z) (passed c.least_end-end.result c.least_end-end.type_inv ∙ c.least_end-end.ensures)
    ∙ sym (box_least_more c.args.spans.now c.args.coefs.now c.loop-k.k c.loop-k-test.true (omega (arith, c.loop-k-test.true, c.requires.each)))

pub returns-clause-small : goal.returns-clause-small
returns-clause-small c =
    subst (λ z. unsigned_abs z ≤ 2 ^ 123) (sym c.loop-k.invariant)
    (omega (arith, c.requires.small, box_least_so_far c.args.spans.now c.args.coefs.now c.loop-k.k))
