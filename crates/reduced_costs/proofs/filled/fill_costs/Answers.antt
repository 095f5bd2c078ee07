use Rattle.std.proofs.Common.{◌≡◌, ◌∙◌, sym, List, [], ◌<◌, length, pos, arith, to_z, of_z}
use Rattle.std.proofs.Math.IntN.{ℤ}
use Rattle.std.specs.Int.{w128}
use Rattle.std.proofs.lemmas.Int.{ints}
use Rattle.std.proofs.lemmas.List.{ext_get_or, length-map, get_or-map}
use Rattle.bp_theory.specs.Bound.{reduced_cost}
use Rattle.bp_theory.specs.Blocking.{Copy}
use Rattle.reduced_costs.specs.Sizes.{reduced_costs}
use Rattle.reduced_costs.proofs.FillLemmas.{same_more}
use Rattle.reduced_costs.proofs.filled.fill_costs.Goals as goal

pub returns : goal.returns
returns c =
    let many : length (reduced_costs c.args.proof.now c.args.block.now.block) ≡ length c.args.block.now.block.copies =
    length-map c.args.block.now.block.copies (reduced_cost c.args.proof.now) in
    let long : length c.loop-place.costs.items ≡ length c.args.block.now.block.copies = omega (arith, c.loop-place.invariant.0, c.loop-place.costs.ok.0) in
    ext_get_or (pos 0) c.loop-place.costs.items (reduced_costs c.args.proof.now c.args.block.now.block) (omega (arith, many, long))
    (λ i l. c.loop-place.invariant.1 i (omega (arith, l, long, c.loop-place-test.false, c.loop-place.costs.ok.0)))

pub loop-place-preserved : goal.loop-place-preserved
loop-place-preserved c =
    let cs : List Copy = c.args.block.now.block.copies in
    let none : Copy = record { var = 0; cost = pos 0; coefs = [] } in
    let there : c.loop-place.place < length cs = omega (arith, c.loop-place-test.true, c.len-place-end.ensures, c.requires.room) in
    let value : ℤ = to_z w128 (of_z w128 c.reduced_cost.result) in
    let same : value ≡ c.reduced_cost.result = omega (arith, ints) in (
      c.loop-place.invariant.0,
      same_more (pos 0) c.loop-place.costs.items (reduced_costs c.args.proof.now c.args.block.now.block) c.loop-place.place value
          (omega (arith, there, c.loop-place.invariant.0, c.loop-place.costs.ok.0))
          (same ∙ c.reduced_cost.ensures none ∙ sym (get_or-map (reduced_cost c.args.proof.now) cs c.loop-place.place none (pos 0) there))
          c.loop-place.invariant.1,
    )
