use Rattle.std.proofs.Common.{◌≡◌, ◌∙◌, sym, ap, subst, length, List, arith}
use Rattle.bp_theory.specs.declared.Span.{Span}
use Rattle.pricing_problem.specs.Form.{IsPriceable}
use Rattle.knapsack_table.specs.Narrowed.{narrowed}
use Rattle.knapsack_table.proofs.FormLaws.{coefs_many, zone_many}
use Rattle.knapsack_table.proofs.NarrowLaws.{length-narrowed, narrowed_priceable, priced_in_zone}
use Rattle.knapsack_table.proofs.price.price_zone.Goals as goal

pub narrow-requires-clause-coefs : goal.narrow-requires-clause-coefs
narrow-requires-clause-coefs c =
    ap length c.deref.ensures.value ∙ coefs_many c.args.form.now c.args.zone.now c.args.costs.now c.requires.priceable

pub price_table-requires-clause-priceable : goal.price_table-requires-clause-priceable
price_table-requires-clause-priceable c =
    let part : c.deref-2.result.now ≡ narrowed c.index-row.result.now.sense c.args.form.now.coefs.items c.args.zone.now c.args.costs.now =
    c.deref-2.ensures.value ∙ c.narrow.ensures ∙ ap (λ as'. narrowed c.index-row.result.now.sense as' c.args.zone.now c.args.costs.now) c.deref.ensures.value in
    subst (λ (ss : List Span). IsPriceable c.args.form.now.spans.items ss c.args.costs.now) (sym part)
    (narrowed_priceable c.index-row.result.now.sense c.args.form.now.coefs.items c.args.form.now.spans.items c.args.zone.now c.args.costs.now
    (coefs_many c.args.form.now c.args.zone.now c.args.costs.now c.requires.priceable) c.requires.priceable)

pub returns-clause-part : goal.returns-clause-part
returns-clause-part c =
    omega (
      arith,
      c.narrow.new.part.ok.0,
      ap length c.narrow.ensures,
      length-narrowed c.index-row.result.now.sense c.deref.result.now c.args.zone.now c.args.costs.now
          (ap length c.deref.ensures.value ∙ coefs_many c.args.form.now c.args.zone.now c.args.costs.now c.requires.priceable) c.requires.priceable.each,
      zone_many c.args.form.now c.args.zone.now c.args.costs.now c.requires.priceable,
    )

pub returns-clause-answer : goal.returns-clause-answer
returns-clause-answer c =
    priced_in_zone c.args.form.now c.args.zone.now c.deref-2.result.now c.args.costs.now c.index-row.result.now c.index-row.ensures c.requires.priceable
    (c.deref-2.ensures.value ∙ c.narrow.ensures ∙ ap (λ as'. narrowed c.index-row.result.now.sense as' c.args.zone.now c.args.costs.now) c.deref.ensures.value)
    c.price_table.new.table.point.items c.price_table.result c.price_table.ensures.answer
