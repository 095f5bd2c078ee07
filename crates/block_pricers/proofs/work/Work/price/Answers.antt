use Rattle.std.proofs.Common.{◌∙◌, sym, ap, subst, ◌<◌, List, map, length, arith}
use Rattle.std.proofs.lemmas.List.{get_or_default}
use Rattle.bp_theory.specs.Bound.{spans_of}
use Rattle.bp_theory.specs.Trees.{IsZone}
use Rattle.bp_theory.specs.declared.Span.{Span}
use Rattle.reduced_costs.specs.Sizes.{IsSmallBlock}
use Rattle.block_pricers.specs.Forms.{BlockForm, form_at}
use Rattle.block_pricers.specs.Desks.{form_of}
use Rattle.reduced_costs.proofs.Magnitude.{blocks_small, proof_small}
use Rattle.reduced_costs.proofs.FillLemmas.{no_block}
use Rattle.block_pricers.proofs.FormLemmas.{form_in_at}
use Rattle.block_pricers.proofs.DeskLemmas.{seats_many, seat_form}
use Rattle.reduced_costs.proofs.FillLemmas.{zone_of_block}
use Rattle.block_pricers.proofs.work.Work.price.Goals as goal

pub price_at-requires-clause-same_block : goal.price_at-requires-clause-same_block
price_at-requires-clause-same_block c =
    let own : c.args.number < length c.args.self.now.seats.items =
    omega (arith, c.requires.there, seats_many c.args.b.now c.args.self.now.desks.items c.args.self.now.seats.items c.requires.made_for) in
    ap (form_at (map form_of c.args.self.now.desks.items))
    (c.index-seat.ensures ∙ get_or_default c.args.self.now.seats.items c.args.number c.index-seat.result.now 0 own)
    ∙ seat_form c.args.self.now.desks.items c.args.self.now.seats.items c.args.number own
    ∙ ap (λ (fs : List BlockForm). form_at fs c.args.number) c.requires.made_for
    ∙ sym (form_in_at c.args.b.now c.block-block.result.now c.args.number c.requires.there c.block-block.ensures.block c.block-block.ensures.spans)

pub price_at-requires-clause-zone : goal.price_at-requires-clause-zone
price_at-requires-clause-zone c =
    subst (λ (ss : List Span). IsZone ss (spans_of c.args.zone.now c.block-block.result.now.block)) (sym c.block-block.ensures.spans)
    (zone_of_block c.args.b.now.named.program.spans c.args.zone.now c.block-block.result.now.block c.requires.zone)

pub price_at-requires-clause-block : goal.price_at-requires-clause-block
price_at-requires-clause-block c =
    subst (IsSmallBlock c.args.zone.now c.args.proof.now) (sym (c.block-block.ensures.block no_block))
    (blocks_small c.args.b.now c.args.zone.now c.args.proof.now c.requires.formed c.requires.zone c.requires.fits c.args.number no_block c.requires.there)

pub price_at-requires-clause-proof : goal.price_at-requires-clause-proof
price_at-requires-clause-proof c = proof_small c.args.b.now c.args.proof.now c.requires.formed c.requires.fits
