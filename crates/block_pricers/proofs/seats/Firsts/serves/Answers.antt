use Rattle.std.proofs.Common.{◌≡◌, ◌∙◌, sym, ap, ◌<◌, length, get_or, arith}
use Rattle.std.proofs.lemmas.Bool.{OnTrue_at, OnTrue_from}
use Rattle.std.proofs.lemmas.List.{get_or_default}
use Rattle.block_pricers.specs.Forms.{form_at, forms_in}
use Rattle.block_pricers.proofs.FormLemmas.{form_in_at}
use Rattle.block_pricers.proofs.seats.Firsts.serves.Goals as goal

pub returns : goal.returns
returns c =
    let there : c.args.seat < length c.args.self.now.list.items = omega (arith, c.args.self.now.list.ok.0) in
    let first_is : c.index.result.now ≡ get_or c.args.self.now.list.items c.args.seat 0 =
    c.index.ensures ∙ get_or_default c.args.self.now.list.items c.args.seat c.index.result.now 0 there in
    let first_there : c.index.result.now < length c.args.b.now.blocking.blocks = omega (arith, c.requires.firsts c.args.seat 0 there, first_is) in
    OnTrue_from c.have_same_form.result _ (λ yes. record {
      there = there;
      same = ap (form_at (forms_in c.args.b.now)) (sym first_is)
          ∙ sym (form_in_at c.args.b.now c.block-first.result.now c.index.result.now first_there c.block-first.ensures.block c.block-first.ensures.spans)
          ∙ OnTrue_at yes c.have_same_form.ensures
          ∙ form_in_at c.args.b.now c.block-other.result.now c.args.block c.requires.there c.block-other.ensures.block c.block-other.ensures.spans;
    })
