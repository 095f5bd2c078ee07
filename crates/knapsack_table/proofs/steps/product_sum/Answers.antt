use Rattle.std.proofs.Common.{◌≡◌, ◌∙◌, sym, ap, subst, ◌^◌, ◌<◌, ◌≤◌, pos, ◌+ℤ◌, List, take, length, get_or, arith}
use Rattle.std.proofs.Math.IntN.{ℤ}
use Rattle.std.specs.Prelude.{unsigned_abs}
use Rattle.std.specs.Int.{w128}
use Rattle.std.proofs.lemmas.List.{take_all}
use mir.Val.{of_z, to_z}
use Rattle.bp_theory.specs.Sums.{dot}
use Rattle.bp_theory.specs.Program.{IsWithin}
use Rattle.bp_theory.proofs.ZipLaws.{AllZip-length}
use Rattle.pricing_problem.proofs.Passed.{passed}
use Rattle.knapsack_table.proofs.StepLaws.{dot_more, dot_small, product_small, small_product_fits, small_sum_fits}
use Rattle.knapsack_table.proofs.steps.product_sum.Goals as goal

pub bounds-numbers-k : goal.bounds-numbers-k
bounds-numbers-k c = omega (arith, c.loop-k-test.true, AllZip-length IsWithin c.args.zone.now c.args.numbers.now c.requires.inside)

pub times-more-requires : goal.times-more-requires
times-more-requires c =
    small_product_fits _ _ (product_small c.args.zone.now c.args.factors.now c.args.numbers.now c.loop-k.k c.requires.inside c.loop-k-test.true) c.requires.small

pub plus-sum-requires : goal.plus-sum-requires
plus-sum-requires c =
    small_sum_fits (to_z w128 c.loop-k.sum-bits) (to_z w128 (of_z w128 c.times-more.result))
    (subst (λ z. unsigned_abs z ≤ 2 ^ 123) (sym c.loop-k.invariant)
    (omega (arith, c.requires.small, dot_small c.args.zone.now c.args.factors.now c.args.numbers.now c.loop-k.k c.requires.inside)))
    (subst (λ z. unsigned_abs z ≤ 2 ^ 123) (sym (passed c.times-more.result c.times-more.type_inv ∙ c.times-more.ensures))
    (omega (arith, c.requires.small, product_small c.args.zone.now c.args.factors.now c.args.numbers.now c.loop-k.k c.requires.inside c.loop-k-test.true)))

pub loop-k-preserved : goal.loop-k-preserved
loop-k-preserved c =
    passed c.plus-sum.result c.plus-sum.type_inv
    ∙ c.plus-sum.ensures
    ∙ ap (λ z. z +ℤ to_z w128 (of_z w128 c.times-more.result)) c.loop-k.invariant
    ∙ ap (λ z. dot (take c.loop-k.k c.args.factors.now) c.args.numbers.now +ℤ z) (passed c.times-more.result c.times-more.type_inv ∙ c.times-more.ensures)
    ∙ sym (dot_more c.args.factors.now c.args.numbers.now c.loop-k.k (omega (arith, c.loop-k-test.true, c.requires.each))
    (omega (arith, c.loop-k-test.true, AllZip-length IsWithin c.args.zone.now c.args.numbers.now c.requires.inside)))

pub returns-clause-small : goal.returns-clause-small
returns-clause-small c =
    subst (λ z. unsigned_abs z ≤ 2 ^ 123) (sym c.loop-k.invariant)
    (omega (arith, c.requires.small, dot_small c.args.zone.now c.args.factors.now c.args.numbers.now c.loop-k.k c.requires.inside))
