use Rattle.frontend.proofs.Comes.{model_text_halted, dec_text_halted, text_blocks_come, text_blocks_halted}
use Rattle.frontend.proofs.front.blocks_of.Goals as goal

pub returns-in_err-model-clause-halted : goal.returns-in_err-model-clause-halted
returns-in_err-model-clause-halted c =
    model_text_halted c.args.limits c.args.lp.now c.args.dec.now c.in_err-model.field-0.0 c.from_residual.result c.from_residual.ensures.1 c.in_err-model.ensures.halted

pub returns-in_err-parts-clause-halted : goal.returns-in_err-parts-clause-halted
returns-in_err-parts-clause-halted c =
    dec_text_halted c.args.limits c.args.lp.now c.args.dec.now c.in_ok-model.model c.in_err-parts.field-0.0 c.from_residual-in_err-parts.result
    c.from_residual-in_err-parts.ensures.1 c.in_ok-model.ensures.model c.in_err-parts.ensures.halted

pub returns-clause-blocked : goal.returns-clause-blocked
returns-clause-blocked c =
    text_blocks_come c.args.limits c.args.lp.now c.args.dec.now c.in_ok-model.model c.in_ok-parts.parts c.in_blocks.result c.in_ok-model.ensures.model
    c.in_ok-parts.ensures.dec c.in_blocks.ensures.blocked

pub returns-clause-halted : goal.returns-clause-halted
returns-clause-halted c =
    text_blocks_halted c.args.limits c.args.lp.now c.args.dec.now c.in_ok-model.model c.in_ok-parts.parts c.in_blocks.result c.in_ok-model.ensures.model
    c.in_ok-parts.ensures.dec c.in_blocks.ensures.halted
