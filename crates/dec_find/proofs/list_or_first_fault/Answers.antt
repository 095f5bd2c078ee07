use Rattle.dec_write.proofs.RowsLemmas.{list_or_fault_lem}
use Rattle.dec_find.proofs.list_or_first_fault.Goals as goal

pub returns : goal.returns
returns c = list_or_fault_lem
