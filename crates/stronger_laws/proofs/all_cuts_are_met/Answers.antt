use Rattle.stronger_laws.proofs.AllCutsProof.{all_cuts_are_met_lem}
use Rattle.stronger_laws.proofs.all_cuts_are_met.Goals as goal

pub returns : goal.returns
returns c = all_cuts_are_met_lem
