use Rattle.std.proofs.Common.{◌≡◌, ◌∙◌, sym, ap, subst, [], map, length, get_or, set, ◌<◌, arith}
use Rattle.std.proofs.Math.IntN.{ℤ}
use Rattle.std.specs.Prelude.{List}
use Rattle.std.proofs.lemmas.List.{get_or-map, get_or-set_same, length-set}
use Rattle.pricing_problem.specs.Priced.{IsPriced}
use Rattle.bp_theory.specs.Bound.{spans_of}
use Rattle.reduced_costs.specs.Sizes.{reduced_costs}
use Rattle.block_pricers.specs.Forms.{no_form}
use Rattle.block_pricers.specs.Desks.{form_of, priced_point}
use Rattle.block_pricers.proofs.FormLemmas.{map-set_alike}
use Rattle.block_pricers.proofs.DeskLemmas.{enough_at}
use Rattle.block_pricers.proofs.work.price_at.Goals as goal

pub price-requires-clause-same_block : goal.price-requires-clause-same_block
price-requires-clause-same_block c =
    ap form_of c.index_mut.ensures.value
    ∙ sym (get_or-map form_of c.args.desks.now.items c.args.seat c.index_mut.result.now no_form (omega (arith, c.requires.there, c.args.desks.now.ok.0)))
    ∙ c.requires.same_block

pub price-requires-clause-cells : goal.price-requires-clause-cells
price-requires-clause-cells c =
    enough_at _ c.args.desks.now.items c.args.seat c.index_mut.result.now (omega (arith, c.requires.there, c.args.desks.now.ok.0)) c.index_mut.ensures.value c.requires.cells

pub returns-clause-answer : goal.returns-clause-answer
returns-clause-answer c =
    let there : c.args.seat < length c.args.desks.now.items = omega (arith, c.requires.there, c.args.desks.now.ok.0) in
    let same : get_or (map priced_point (set c.args.desks.now.items c.args.seat c.price.new.self)) c.args.seat [] ≡ priced_point c.price.new.self =
    get_or-map priced_point (set c.args.desks.now.items c.args.seat c.price.new.self) c.args.seat c.price.new.self []
    (omega (arith, there, length-set c.args.desks.now.items c.args.seat c.price.new.self))
    ∙ ap priced_point (get_or-set_same c.args.desks.now.items c.args.seat c.price.new.self c.price.new.self there) in
    subst (λ (y : List ℤ). IsPriced c.args.block.now.block.rows (spans_of c.args.zone.now c.args.block.now.block) (reduced_costs c.args.proof.now c.args.block.now.block)
    c.args.cap c.price.result y) (sym same) c.price.ensures.answer

pub returns-clause-forms : goal.returns-clause-forms
returns-clause-forms c =
    map-set_alike form_of c.args.desks.now.items c.args.seat c.price.new.self c.index_mut.result.now (omega (arith, c.requires.there, c.args.desks.now.ok.0))
    (c.price.ensures.form ∙ ap form_of c.index_mut.ensures.value)
