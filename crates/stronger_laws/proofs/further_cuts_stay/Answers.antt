use Rattle.stronger_laws.proofs.FurtherProof.{further_cuts_stay_lem}
use Rattle.stronger_laws.proofs.further_cuts_stay.Goals as goal

pub returns : goal.returns
returns c = further_cuts_stay_lem
