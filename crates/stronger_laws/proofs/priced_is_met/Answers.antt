use Rattle.stronger_laws.proofs.AllCutsProof.{priced_is_met_lem}
use Rattle.stronger_laws.proofs.priced_is_met.Goals as goal

pub returns : goal.returns
returns c = priced_is_met_lem
