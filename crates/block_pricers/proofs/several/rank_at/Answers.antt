use Rattle.std.proofs.Common.{◌≡◌, ◌∙◌, sym, ap, arith}
use Rattle.std.proofs.lemmas.List.{get_or-map}
use Rattle.block_pricers.specs.Forms.{no_form}
use Rattle.block_pricers.specs.Desks.{form_of}
use Rattle.block_pricers.proofs.FormLemmas.{map-set_alike}
use Rattle.block_pricers.proofs.several.rank_at.Goals as goal

pub rank-requires-clause-same_block : goal.rank-requires-clause-same_block
rank-requires-clause-same_block c =
    ap form_of c.index_mut.ensures.value
    ∙ sym (get_or-map form_of c.args.desks.now.items c.args.seat c.index_mut.result.now no_form (omega (arith, c.requires.there, c.args.desks.now.ok.0)))
    ∙ c.requires.same_block

pub returns-clause-forms : goal.returns-clause-forms
returns-clause-forms c =
    map-set_alike form_of c.args.desks.now.items c.args.seat c.rank.new.self c.index_mut.result.now (omega (arith, c.requires.there, c.args.desks.now.ok.0))
    (c.rank.ensures.form ∙ ap form_of c.index_mut.ensures.value)
