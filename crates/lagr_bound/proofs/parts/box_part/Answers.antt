use Rattle.std.proofs.Common.{◌≡◌, ◌∙◌, sym, ap, subst, arith, to_z, of_z}
use Rattle.std.proofs.Math.IntN.{ℤ}
use Rattle.std.specs.Int.{w128}
use Rattle.std.proofs.lemmas.Int.{ints}
use Rattle.bp_theory.specs.Bound.{IsPart}
use Rattle.search_laws.specs.Spread.{block_at}
use Rattle.reduced_costs.specs.Sizes.{IsSmallBlock, block_least}
use Rattle.reduced_costs.proofs.Magnitude.{blocks_small, proof_small}
use Rattle.reduced_costs.proofs.FillLemmas.{no_block}
use Rattle.lagr_bound.proofs.PartLemmas.{box_is_part}
use Rattle.lagr_bound.proofs.parts.box_part.Goals as goal

pub box_least-requires-clause-block : goal.box_least-requires-clause-block
box_least-requires-clause-block c =
    subst (IsSmallBlock c.args.zone.now c.args.proof.now) (sym (c.block.ensures.block no_block))
    (blocks_small c.args.b.now c.args.zone.now c.args.proof.now c.requires.formed c.requires.zone c.requires.fits c.args.number no_block c.requires.there)

pub box_least-requires-clause-proof : goal.box_least-requires-clause-proof
box_least-requires-clause-proof c = proof_small c.args.b.now c.args.proof.now c.requires.formed c.requires.fits

pub returns : goal.returns
returns c =
    let value : ℤ = to_z w128 (of_z w128 c.box_least.result) in
    let same : value ≡ c.box_least.result = omega (arith, ints) in
    let least : value ≡ block_least c.args.zone.now c.args.proof.now (block_at c.args.b.now.blocking c.args.number) =
    same ∙ c.box_least.ensures.value ∙ ap (block_least c.args.zone.now c.args.proof.now) (c.block.ensures.block no_block) in
    subst (IsPart c.args.zone.now c.args.proof.now c.args.number (block_at c.args.b.now.blocking c.args.number)) (sym least)
    (box_is_part c.args.zone.now c.args.proof.now c.args.number (block_at c.args.b.now.blocking c.args.number) c.requires.zone.proper c.requires.other)
