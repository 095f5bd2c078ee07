use Rattle.std.proofs.Common.{◌∙◌, sym, subst, ℕ, ◌<◌, All, length, get_or}
use Rattle.block_pricers.specs.Forms.{forms_in}
use Rattle.block_pricers.specs.Pricers.{IsFitting}
use Rattle.block_pricers.specs.declared.desk.Desk.{Desk}
use Rattle.block_pricers.proofs.FormLemmas.{has_form, form_in_at, all_more}
use Rattle.block_pricers.proofs.DeskLemmas.{one_desk_more, enough_more}
use Rattle.block_pricers.proofs.GraphLemmas.{spending_more, graphs_more}
use Rattle.block_pricers.proofs.desks.desks_of.Goals as goal

pub make-requires : goal.make-requires
make-requires c =
    has_form c.args.b.now c.block.result.now (get_or c.args.blocks.now c.loop-number.number-index 0) c.requires.formed
    (c.requires.there c.loop-number.number-index 0 c.loop-number-test.true) c.block.ensures.block c.block.ensures.spans

pub loop-number-preserved : goal.loop-number-preserved
loop-number-preserved c =
    let own : ℕ = get_or c.args.blocks.now c.loop-number.number-index 0 in
    let there : own < length c.args.b.now.blocking.blocks = c.requires.there c.loop-number.number-index 0 c.loop-number-test.true in (
      one_desk_more (forms_in c.args.b.now) c.args.blocks.now c.loop-number.number-index c.loop-number.desks.items c.push.new.self.items c.in_ok-desk.desk
          c.loop-number-test.true c.in_ok-push.ensures.items
          (c.in_ok-desk.ensures.form ∙ form_in_at c.args.b.now c.block.result.now own there c.block.ensures.block c.block.ensures.spans)
          c.loop-number.invariant.0,
      enough_more c.loop-number.most c.larger-most.result c.cells.result c.loop-number.desks.items c.push.new.self.items c.in_ok-desk.desk c.in_ok-push.ensures.items
          c.larger-most.ensures.first c.larger-most.ensures.second c.loop-number.invariant.1 c.cells.ensures,
      subst (All (λ (desk : Desk). IsFitting desk.pricer)) (sym c.in_ok-push.ensures.items)
          (all_more (λ (desk : Desk). IsFitting desk.pricer) c.loop-number.desks.items c.in_ok-desk.desk c.loop-number.invariant.2 c.in_ok-desk.ensures.kind),
      spending_more c.loop-number.room c.make.new.room c.loop-number.desks.items c.push.new.self.items c.in_ok-desk.desk c.in_ok-push.ensures.items
          c.in_ok-desk.ensures.spent c.loop-number.invariant.3,
      graphs_more c.loop-number.room c.loop-number.desks.items c.push.new.self.items c.in_ok-desk.desk c.in_ok-push.ensures.items
          c.in_ok-desk.ensures.search c.loop-number.invariant.3 c.loop-number.invariant.4,
    )
