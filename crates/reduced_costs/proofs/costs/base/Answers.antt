use Rattle.std.proofs.Common.{◌≡◌, ◌∙◌, arith, to_z, of_z}
use Rattle.std.specs.Prelude.{ℤ}
use Rattle.std.specs.Int.{w128}
use Rattle.std.proofs.lemmas.Int.{ints}
use Rattle.reduced_costs.proofs.Steps.{base_more}
use Rattle.reduced_costs.proofs.costs.base.Goals as goal

pub plus-sum-requires : goal.plus-sum-requires
plus-sum-requires c =
    let more : ℤ = to_z w128 (of_z w128 c.side_product-more.result) in
    let same : more ≡ c.side_product-more.result = omega (arith, ints) in
    let h = base_more c.args.b.now.blocking c.args.proof.now c.as_slice-mult-items.result.now c.loop-mult.mult-index (to_z w128 c.loop-mult.sum-bits) more
    c.as_slice-mult-items.ensures c.loop-mult-test.true c.loop-mult.invariant (same ∙ c.side_product-more.ensures) c.requires in
    omega (arith, ints, h.1)

pub loop-mult-preserved : goal.loop-mult-preserved
loop-mult-preserved c =
    let more : ℤ = to_z w128 (of_z w128 c.side_product-more.result) in
    let same : more ≡ c.side_product-more.result = omega (arith, ints) in
    let h = base_more c.args.b.now.blocking c.args.proof.now c.as_slice-mult-items.result.now c.loop-mult.mult-index (to_z w128 c.loop-mult.sum-bits) more
    c.as_slice-mult-items.ensures c.loop-mult-test.true c.loop-mult.invariant (same ∙ c.side_product-more.ensures) c.requires in
    omega (arith, ints, h.0, c.plus-sum.ensures)
