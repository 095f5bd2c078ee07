use Rattle.std.proofs.Common.{refl, sym, subst, ℕ, List, Some}
use Rattle.dec_write.specs.Rows.{IsRowsFault}
use Rattle.frontend.specs.Written.{stops}
use Rattle.cmd_decompose.specs.Detects.{RowsCome, faulty}
use Rattle.cmd_decompose.proofs.detection.rows_of.Goals as goal

pub returns-in_ok-rows_text-in-Err-At-clause-halted : goal.returns-in_ok-rows_text-in-Err-At-clause-halted
returns-in_ok-rows_text-in-Err-At-clause-halted c =
    let fault : IsRowsFault c.args.list.now c.args.model.now c.in-Err-At.field-0 = c.in-Err-At.ensures.fault in
    subst (λ (report : List ℕ). RowsCome c.args.model.now (Some c.args.list.now) (stops 3 report)) (sym c.in_ok-rows_text-in-Err-At.ensures)
    (faulty c.args.list.now c.in-Err-At.line c.in-Err-At.kind refl (rw c.in-Err-At.field-0-is at fault))
