use Rattle.std.proofs.Common.{◌≡◌, ◌∙◌, [], arith, to_z, of_z, ap, sym, subst}
use Rattle.std.specs.Prelude.{ℤ}
use Rattle.std.specs.Int.{w128}
use Rattle.std.proofs.lemmas.Int.{ints}
use Rattle.bp_theory.specs.Blocking.{Block}
use Rattle.reduced_costs.specs.Sizes.{IsSmallBlock, block_least}
use Rattle.reduced_costs.proofs.Magnitude.{bound_small, blocks_small, proof_small}
use Rattle.reduced_costs.proofs.Steps.{bound_more, bound_is, bound_within}
use Rattle.lagr_bound.proofs.plain.box_bound.Goals as goal

abbrev none : Block
none = record { copies = []; rows = [] }

pub base-sum-requires : goal.base-sum-requires
base-sum-requires c =
    let all = bound_small c.args.b.now c.args.zone.now c.args.proof.now c.blocks-blocks.ensures.formed c.requires.zone c.requires.fits in
    omega (arith, all)

pub box_least-part-requires-clause-block : goal.box_least-part-requires-clause-block
box_least-part-requires-clause-block c =
    subst (IsSmallBlock c.args.zone.now c.args.proof.now) (sym (c.block.ensures.block none))
    (blocks_small c.args.b.now c.args.zone.now c.args.proof.now c.blocks-blocks.ensures.formed c.requires.zone c.requires.fits c.loop-number.number none
    (omega (arith, c.loop-number-test.true, c.blocks-blocks.ensures.blocks)))

pub box_least-part-requires-clause-proof : goal.box_least-part-requires-clause-proof
box_least-part-requires-clause-proof c = proof_small c.args.b.now c.args.proof.now c.blocks-blocks.ensures.formed c.requires.fits

pub plus-sum-requires : goal.plus-sum-requires
plus-sum-requires c =
    let more : ℤ = to_z w128 (of_z w128 c.box_least-part.result) in
    let same : more ≡ c.box_least-part.result = omega (arith, ints) in
    let all = bound_small c.args.b.now c.args.zone.now c.args.proof.now c.blocks-blocks.ensures.formed c.requires.zone c.requires.fits in
    let h = bound_more c.args.b.now.blocking c.args.zone.now c.args.proof.now c.loop-number.number (to_z w128 c.loop-number.sum-bits) more
    (omega (arith, c.loop-number-test.true, c.blocks-blocks.ensures.blocks)) c.loop-number.invariant
    (same ∙ c.box_least-part.ensures.value ∙ ap (block_least c.args.zone.now c.args.proof.now) (c.block.ensures.block none)) all in
    omega (arith, ints, h.1)

pub loop-number-preserved : goal.loop-number-preserved
loop-number-preserved c =
    let more : ℤ = to_z w128 (of_z w128 c.box_least-part.result) in
    let same : more ≡ c.box_least-part.result = omega (arith, ints) in
    let all = bound_small c.args.b.now c.args.zone.now c.args.proof.now c.blocks-blocks.ensures.formed c.requires.zone c.requires.fits in
    let h = bound_more c.args.b.now.blocking c.args.zone.now c.args.proof.now c.loop-number.number (to_z w128 c.loop-number.sum-bits) more
    (omega (arith, c.loop-number-test.true, c.blocks-blocks.ensures.blocks)) c.loop-number.invariant
    (same ∙ c.box_least-part.ensures.value ∙ ap (block_least c.args.zone.now c.args.proof.now) (c.block.ensures.block none)) all in
    omega (arith, ints, h.0, c.plus-sum.ensures)

pub returns-clause-bound : goal.returns-clause-bound
returns-clause-bound c =
    bound_is c.args.b.now.blocking c.args.zone.now c.args.proof.now c.loop-number.number (to_z w128 c.loop-number.sum-bits) c.requires.zone.proper c.requires.picked
    (omega (arith, c.loop-number-test.false, c.blocks-blocks.ensures.blocks)) c.loop-number.invariant

pub returns-clause-size : goal.returns-clause-size
returns-clause-size c =
    let all = bound_small c.args.b.now c.args.zone.now c.args.proof.now c.blocks-blocks.ensures.formed c.requires.zone c.requires.fits in
    bound_within c.args.b.now.blocking c.args.zone.now c.args.proof.now c.loop-number.number (to_z w128 c.loop-number.sum-bits) c.loop-number.invariant all
