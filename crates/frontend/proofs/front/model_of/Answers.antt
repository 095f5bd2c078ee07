use Rattle.lp_semantics.specs.Model.{IsFaultOf}
use Rattle.frontend.proofs.RowNames.{rows_named}
use Rattle.frontend.proofs.front.model_of.Goals as goal

pub returns-in-Ok-clause-names : goal.returns-in-Ok-clause-names
returns-in-Ok-clause-names c = rows_named c.args.limits c.args.text.now c.in-Ok.model c.rows-rows.ensures.kept c.in-Ok.ensures.read

pub returns-in_ok-lp_text-in-Err-At-clause-halted : goal.returns-in_ok-lp_text-in-Err-At-clause-halted
returns-in_ok-lp_text-in-Err-At-clause-halted c =
    let fault : IsFaultOf c.args.limits c.args.text.now c.in-Err-At.field-0 = c.in-Err-At.ensures.fault in
    (c.in-Err-At.line, c.in-Err-At.kind, rw c.in-Err-At.field-0-is at fault, c.in_ok-lp_text-in-Err-At.ensures)
