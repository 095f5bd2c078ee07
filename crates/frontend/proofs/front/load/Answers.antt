use Rattle.std.proofs.Common.{sym, subst, Bool, IsTrue}
use Rattle.std.specs.Option.{option_map}
use Rattle.bp_shelf.specs.Shelf.{Files}
use Rattle.frontend.specs.Front.{HasDec}
use Rattle.frontend.specs.Halts.{DecHalts}
use Rattle.frontend.proofs.Comes.{model_halted, dec_halted, blocks_come, blocks_halted}
use Rattle.frontend.proofs.front.load.Goals as goal

pub returns-in_err-model-clause-halted : goal.returns-in_err-model-clause-halted
returns-in_err-model-clause-halted g c = λ told.
    model_halted c.args.sources.limits (g.F.Shelf.file c.args.shelf.now) c.args.sources.lp.now (option_map (λ name. name.now) c.args.sources.dec) c.in_err-model.field-0.0 c.from_residual.result
    c.from_residual.ensures.1 (c.in_err-model.ensures.halted told)

pub returns-in_err-parts-clause-halted : goal.returns-in_err-parts-clause-halted
returns-in_err-parts-clause-halted g c = λ told.
    let still : IsTrue (g.F.Shelf.tells c.load_model.new.shelf) = subst (λ (b : Bool). IsTrue b) (sym c.in_ok-model.ensures.told) told in
    dec_halted c.args.sources.limits (g.F.Shelf.file c.args.shelf.now) c.args.sources.lp.now (option_map (λ name. name.now) c.args.sources.dec) c.in_ok-model.model c.in_err-parts.field-0.0
    c.from_residual-in_err-parts.result c.from_residual-in_err-parts.ensures.1 (c.in_ok-model.ensures.model told)
    (subst (λ (files : Files). DecHalts files c.in_ok-model.model (option_map (λ name. name.now) c.args.sources.dec) c.in_err-parts.field-0.0) c.in_ok-model.ensures.files
    (c.in_err-parts.ensures.halted still))

pub returns-clause-blocked : goal.returns-clause-blocked
returns-clause-blocked g c = λ told.
    let still : IsTrue (g.F.Shelf.tells c.load_model.new.shelf) = subst (λ (b : Bool). IsTrue b) (sym c.in_ok-model.ensures.told) told in
    blocks_come c.args.sources.limits (g.F.Shelf.file c.args.shelf.now) c.args.sources.lp.now (option_map (λ name. name.now) c.args.sources.dec) c.in_ok-model.model c.in_ok-parts.parts c.in_blocks.result
    (c.in_ok-model.ensures.model told)
    (subst (λ (files : Files). HasDec files c.in_ok-model.model (option_map (λ name. name.now) c.args.sources.dec) c.in_ok-parts.parts) c.in_ok-model.ensures.files
    (c.in_ok-parts.ensures.dec still)) c.in_blocks.ensures.blocked

pub returns-clause-halted : goal.returns-clause-halted
returns-clause-halted g c = λ told.
    let still : IsTrue (g.F.Shelf.tells c.load_model.new.shelf) = subst (λ (b : Bool). IsTrue b) (sym c.in_ok-model.ensures.told) told in
    blocks_halted c.args.sources.limits (g.F.Shelf.file c.args.shelf.now) c.args.sources.lp.now (option_map (λ name. name.now) c.args.sources.dec) c.in_ok-model.model c.in_ok-parts.parts c.in_blocks.result
    (c.in_ok-model.ensures.model told)
    (subst (λ (files : Files). HasDec files c.in_ok-model.model (option_map (λ name. name.now) c.args.sources.dec) c.in_ok-parts.parts) c.in_ok-model.ensures.files
    (c.in_ok-parts.ensures.dec still)) c.in_blocks.ensures.halted
