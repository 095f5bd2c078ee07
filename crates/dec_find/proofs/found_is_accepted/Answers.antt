use Rattle.dec_components.proofs.FoundLemmas.{found_accepted}
use Rattle.dec_find.proofs.found_is_accepted.Goals as goal

pub returns : goal.returns
returns c = found_accepted
