use Rattle.std.proofs.Common.{sym, ap, ◌∙◌, pos, arith}
use Rattle.std.specs.Prelude.{◌*ℤ◌, zip}
use Rattle.std.specs.Int.{w128, int_wrap}
use Rattle.std.proofs.lemmas.List.{take_all}
use Rattle.std.proofs.lemmas.Slice.Zip.{length-zip}
use Rattle.search_laws.specs.Master.{weighted_cost}
use Rattle.master_gap.proofs.Steps.{wrap_step, zip_more}
use Rattle.master_gap.proofs.load.cost_of.Goals as goal

pub loop-j-preserved : goal.loop-j-preserved
loop-j-preserved c =
    let j = c.loop-j.j in
    wrap_step _ _ _ _ _ c.plus-sum.type_inv c.product-part.type_inv c.plus-sum.ensures c.loop-j.invariant
    c.product-part.ensures
    ∙ ap (int_wrap w128) (sym (zip_more (λ e. e.0.cost *ℤ e.1) c.args.cols.now c.args.weights.now j c.index-cols-j.result (pos 0) c.requires c.loop-j-test.true))

pub returns : goal.returns
returns c =
    let zs = zip c.args.cols.now c.args.weights.now in
    c.loop-j.invariant ∙ ap (λ ys. int_wrap w128 (weighted_cost ys)) (take_all c.loop-j.j zs (omega (arith, length-zip c.args.cols.now c.args.weights.now, c.requires, c.loop-j-test.false)))
