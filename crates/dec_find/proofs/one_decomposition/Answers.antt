use Rattle.dec_components.proofs.FoundLemmas.{found_once}
use Rattle.dec_find.proofs.one_decomposition.Goals as goal

pub returns : goal.returns
returns c = found_once
