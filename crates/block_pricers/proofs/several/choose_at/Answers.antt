use Rattle.std.proofs.Common.{◌≡◌, ◌∙◌, sym, ap, subst, [], map, length, get_or, set, ◌<◌, arith}
use Rattle.std.proofs.Math.IntN.{ℤ}
use Rattle.std.specs.Prelude.{List}
use Rattle.std.specs.Bool.{OnTrue}
use Rattle.std.proofs.lemmas.List.{get_or-map, get_or-set_same, length-set}
use Rattle.bp_theory.specs.Bound.{IsPoint, spans_of}
use Rattle.block_pricers.specs.Forms.{no_form}
use Rattle.block_pricers.specs.Desks.{form_of, priced_point}
use Rattle.block_pricers.proofs.FormLemmas.{map-set_alike}
use Rattle.block_pricers.proofs.several.choose_at.Goals as goal

pub choose-requires-clause-same_block : goal.choose-requires-clause-same_block
choose-requires-clause-same_block c =
    ap form_of c.index_mut.ensures.value
    ∙ sym (get_or-map form_of c.args.desks.now.items c.args.seat c.index_mut.result.now no_form (omega (arith, c.requires.there, c.args.desks.now.ok.0)))
    ∙ c.requires.same_block

pub returns-clause-point : goal.returns-clause-point
returns-clause-point c =
    let there : c.args.seat < length c.args.desks.now.items = omega (arith, c.requires.there, c.args.desks.now.ok.0) in
    let same : get_or (map priced_point (set c.args.desks.now.items c.args.seat c.choose.new.self)) c.args.seat [] ≡ priced_point c.choose.new.self =
    get_or-map priced_point (set c.args.desks.now.items c.args.seat c.choose.new.self) c.args.seat c.choose.new.self []
    (omega (arith, there, length-set c.args.desks.now.items c.args.seat c.choose.new.self))
    ∙ ap priced_point (get_or-set_same c.args.desks.now.items c.args.seat c.choose.new.self c.choose.new.self there) in
    subst (λ (y : List ℤ). OnTrue c.choose.result (IsPoint c.args.block.now.block.rows (spans_of c.args.zone.now c.args.block.now.block) y)) (sym same) c.choose.ensures.point

pub returns-clause-forms : goal.returns-clause-forms
returns-clause-forms c =
    map-set_alike form_of c.args.desks.now.items c.args.seat c.choose.new.self c.index_mut.result.now (omega (arith, c.requires.there, c.args.desks.now.ok.0))
    (c.choose.ensures.form ∙ ap form_of c.index_mut.ensures.value)
