-- A row's name is new where it goes last.
use Rattle.std.proofs.Common.{refl}
use Rattle.lp_read.proofs.NameLists.{absent_has, present_has}
use Rattle.lp_read.proofs.notes.add_row.Goals as goal

pub returns-in_ok-push-clause-new : goal.returns-in_ok-push-clause-new
returns-in_ok-push-clause-new c = absent_has c.args.notes.row_names c.args.name.now (c.in_ok-added.ensures.is_new.0 c.if-added.true)

pub returns-else-added-clause-fault : goal.returns-else-added-clause-fault
returns-else-added-clause-fault c = (refl, refl, present_has c.args.notes.row_names c.args.name.now c.in_ok-added.added.1 c.in_ok-added.ensures.is_new.1 c.if-added.false)
