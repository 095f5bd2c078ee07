use Rattle.cmd_decompose.proofs.Lifted.{found_come, many_come}
use Rattle.cmd_decompose.proofs.detection.blocks_of.Goals as goal

pub returns-in_ok-written-in-Ok-clause-found : goal.returns-in_ok-written-in-Ok-clause-found
returns-in_ok-written-in-Ok-clause-found c =
    let found = c.in_ok-written-in-Ok.field-0 in
    found_come c.args.model.now c.args.master.now c.in-Ok.dec found c.in-Ok.ensures.found c.in-Ok.ensures.few c.in_ok-written-in-Ok.ensures.text
    c.in_ok-written-in-Ok.ensures.report c.in_ok-written-in-Ok.ensures.done

pub returns-in_ok-rows_text-in-Err-Blocks-clause-halted : goal.returns-in_ok-rows_text-in-Err-Blocks-clause-halted
returns-in_ok-rows_text-in-Err-Blocks-clause-halted c =
    many_come c.args.model.now c.args.master.now c.in_ok-rows_text-in-Err-Blocks.field-0.items (c.find.ensures.many (rw c.in-Err-Blocks.field-0-is at c.in-Err-Blocks.is))
    c.in_ok-rows_text-in-Err-Blocks.ensures
