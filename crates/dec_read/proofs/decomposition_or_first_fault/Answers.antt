use Rattle.dec_read.proofs.LawLemmas.{decomposition_or_fault_lem}
use Rattle.dec_read.proofs.decomposition_or_first_fault.Goals as goal

pub returns : goal.returns
returns c = decomposition_or_fault_lem
