use Rattle.std.specs.Prelude.{All}
use Rattle.std.proofs.Common.{◌∙◌, sym, ap, subst, ◌<◌, List, map, length, arith}
use Rattle.std.proofs.lemmas.List.{get_or_default}
use Rattle.bp_theory.specs.Bound.{spans_of}
use Rattle.bp_theory.specs.Trees.{IsZone}
use Rattle.bp_theory.specs.Blocking.{Block, Copy}
use Rattle.bp_theory.specs.declared.Span.{Span}
use Rattle.block_pricers.specs.Forms.{BlockForm, form_at}
use Rattle.block_pricers.specs.Desks.{form_of}
use Rattle.reduced_costs.proofs.Magnitude.{vars_there}
use Rattle.reduced_costs.proofs.FillLemmas.{no_block}
use Rattle.block_pricers.proofs.FormLemmas.{form_in_at}
use Rattle.block_pricers.proofs.DeskLemmas.{seats_many, seat_form}
use Rattle.reduced_costs.proofs.FillLemmas.{zone_of_block}
use Rattle.block_pricers.proofs.work.Work.choose.Goals as goal

pub choose_at-requires-clause-same_block : goal.choose_at-requires-clause-same_block
choose_at-requires-clause-same_block c =
    let own : c.args.number < length c.args.self.now.seats.items =
    omega (arith, c.requires.there, seats_many c.args.b.now c.args.self.now.desks.items c.args.self.now.seats.items c.requires.made_for) in
    ap (form_at (map form_of c.args.self.now.desks.items))
    (c.index-seat.ensures ∙ get_or_default c.args.self.now.seats.items c.args.number c.index-seat.result.now 0 own)
    ∙ seat_form c.args.self.now.desks.items c.args.self.now.seats.items c.args.number own
    ∙ ap (λ (fs : List BlockForm). form_at fs c.args.number) c.requires.made_for
    ∙ sym (form_in_at c.args.b.now c.block-block.result.now c.args.number c.requires.there c.block-block.ensures.block c.block-block.ensures.spans)

pub choose_at-requires-clause-zone : goal.choose_at-requires-clause-zone
choose_at-requires-clause-zone c =
    subst (λ (ss : List Span). IsZone ss (spans_of c.args.zone.now c.block-block.result.now.block)) (sym c.block-block.ensures.spans)
    (zone_of_block c.args.b.now.named.program.spans c.args.zone.now c.block-block.result.now.block c.requires.zone)

pub choose_at-requires-clause-vars : goal.choose_at-requires-clause-vars
choose_at-requires-clause-vars c =
    subst (λ (block : Block). All (λ (k : Copy). k.var < length c.args.zone.now) block.copies) (sym (c.block-block.ensures.block no_block))
    (vars_there c.args.b.now c.args.zone.now c.requires.formed c.requires.zone c.args.number no_block c.requires.there)
