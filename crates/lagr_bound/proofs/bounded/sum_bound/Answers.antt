use Rattle.std.proofs.Common.{◌≡◌, refl, ◌∙◌, sym, ap, subst, ◌<◌, ◌+◌, None, map, length, get_or, arith, to_z, of_z}
use Rattle.std.proofs.Math.IntN.{ℤ, ◌+ℤ◌}
use Rattle.std.specs.Int.{w128}
use Rattle.std.proofs.lemmas.Int.{ints}
use Rattle.bp_theory.specs.Bound.{IsPart}
use Rattle.search_laws.specs.Spread.{block_at}
use Rattle.lagr_bound.specs.declared.bounded.Bounded.TheVariants.{Whole}
use Rattle.block_pricers.specs.Told.{told_point}
use Rattle.reduced_costs.proofs.Magnitude.{bound_small}
use Rattle.lagr_bound.proofs.PartLemmas.{HasParts, no_parts, one_part_more, parts_small, all_parts, endless_is, never_otherwise}
use Rattle.lagr_bound.proofs.bounded.sum_bound.Goals as goal

pub base-sum-requires : goal.base-sum-requires
base-sum-requires c =
    let all = bound_small c.args.b.now c.args.zone.now c.args.proof.now c.blocks-blocks.ensures.formed c.requires.zone c.requires.fits in
    omega (arith, all)

pub loop-number-init : goal.loop-number-init
loop-number-init c =
    let start : ℤ = to_z w128 (of_z w128 c.base-sum.result) in
    let same : start ≡ c.base-sum.result = omega (arith, ints) in
    (refl, c.forget.ensures.silent, no_parts c.args.b.now.blocking c.args.zone.now c.args.proof.now start (same ∙ c.base-sum.ensures), omega arith)

pub plus-sum-requires : goal.plus-sum-requires
plus-sum-requires c =
    let more : ℤ = to_z w128 (of_z w128 c.in-Least.least) in
    let same : more ≡ c.in-Least.least = omega (arith, ints) in
    let sum : ℤ = to_z w128 c.loop-number.sum-bits in
    let there : c.loop-number.number < length c.args.b.now.blocking.blocks = omega (arith, c.loop-number-test.true, c.blocks-blocks.ensures.blocks) in
    let part = subst (IsPart c.args.zone.now c.args.proof.now c.loop-number.number (block_at c.args.b.now.blocking c.loop-number.number)) (sym same) c.in-Least.ensures.answer in
    let h = parts_small c.args.b.now.blocking c.args.zone.now c.args.proof.now (c.loop-number.number + 1) (sum +ℤ more)
    (one_part_more c.args.b.now.blocking c.args.zone.now c.args.proof.now c.loop-number.number sum more there c.loop-number.invariant.2 part)
    (bound_small c.args.b.now c.args.zone.now c.args.proof.now c.blocks-blocks.ensures.formed c.requires.zone c.requires.fits) in
    omega (arith, ints, h)

pub returns-in-Nothing-clause-answer : goal.returns-in-Nothing-clause-answer
returns-in-Nothing-clause-answer c =
    endless_is c.args.b.now.blocking c.args.zone.now c.args.proof.now c.loop-number.number
    (omega (arith, c.loop-number-test.true, c.blocks-blocks.ensures.blocks)) c.in-Nothing.ensures.answer

pub loop-number-preserved : goal.loop-number-preserved
loop-number-preserved c =
    let more : ℤ = to_z w128 (of_z w128 c.in-Least.least) in
    let same : more ≡ c.in-Least.least = omega (arith, ints) in
    let sum : ℤ = to_z w128 c.loop-number.sum-bits in
    let next : ℤ = to_z w128 (of_z w128 c.plus-sum.result) in
    let next_is : next ≡ sum +ℤ more = omega (arith, ints, c.plus-sum.ensures) in
    let there : c.loop-number.number < length c.args.b.now.blocking.blocks = omega (arith, c.loop-number-test.true, c.blocks-blocks.ensures.blocks) in
    let part = subst (IsPart c.args.zone.now c.args.proof.now c.loop-number.number (block_at c.args.b.now.blocking c.loop-number.number)) (sym same) c.in-Least.ensures.answer in (
      c.part.ensures.made_for ∙ c.loop-number.invariant.0,
      (λ k. ap (λ v. get_or (map told_point v.items) k None) c.part.ensures.told ∙ c.loop-number.invariant.1 k),
      subst (HasParts c.args.b.now.blocking c.args.zone.now c.args.proof.now (c.loop-number.number + 1)) (sym next_is)
          (one_part_more c.args.b.now.blocking c.args.zone.now c.args.proof.now c.loop-number.number sum more there c.loop-number.invariant.2 part),
      omega (arith, c.loop-number-test.true),
    )

pub returns-clause-answer : goal.returns-clause-answer
returns-clause-answer c =
    all_parts c.args.b.now.blocking c.args.zone.now c.args.proof.now c.loop-number.number (to_z w128 c.loop-number.sum-bits)
    (omega (arith, c.loop-number.invariant.3, c.loop-number-test.false, c.blocks-blocks.ensures.blocks)) c.loop-number.invariant.2

pub returns-clause-endless : goal.returns-clause-endless
returns-clause-endless c never endless =
    never_otherwise c.args.b.now.blocking c.args.zone.now c.args.proof.now c.args.cap (Whole (to_z w128 c.loop-number.sum-bits))
    (all_parts c.args.b.now.blocking c.args.zone.now c.args.proof.now c.loop-number.number (to_z w128 c.loop-number.sum-bits)
    (omega (arith, c.loop-number.invariant.3, c.loop-number-test.false, c.blocks-blocks.ensures.blocks)) c.loop-number.invariant.2)
    never endless

pub returns-clause-size : goal.returns-clause-size
returns-clause-size c =
    parts_small c.args.b.now.blocking c.args.zone.now c.args.proof.now c.loop-number.number (to_z w128 c.loop-number.sum-bits) c.loop-number.invariant.2
    (bound_small c.args.b.now c.args.zone.now c.args.proof.now c.blocks-blocks.ensures.formed c.requires.zone c.requires.fits)
