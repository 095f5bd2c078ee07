-- One product more.
use Rattle.std.proofs.Common.{sym, ap, ◌∙◌, arith}
use Rattle.std.specs.Int.{w128, int_wrap}
use Rattle.std.proofs.lemmas.List.{take_all}
use Rattle.bp_theory.specs.Sums.{dot}
use Rattle.col_pool.proofs.PoolLemmas.{wrap_step, dot_more}
use Rattle.col_pool.proofs.activities.total.Goals as goal

pub loop-place-preserved : goal.loop-place-preserved
loop-place-preserved c =
    wrap_step _ _ _ _ _ c.plus-sum.type_inv c.product-more.type_inv c.plus-sum.ensures c.loop-place.invariant c.product-more.ensures
    ∙ ap (int_wrap w128) (sym (dot_more c.args.costs.now c.args.point.now c.loop-place.place c.loop-place-test.true (omega (arith, c.requires, c.loop-place-test.true))))

pub returns : goal.returns
returns c =
    c.loop-place.invariant ∙ ap (λ cs. int_wrap w128 (dot cs c.args.point.now)) (take_all c.loop-place.place c.args.costs.now c.loop-place-test.false)
