use Rattle.tree_merge.proofs.LostProof.{nothing_is_lost_lem}
use Rattle.tree_merge.proofs.laws.nothing_is_lost.Goals as goal

pub returns : goal.returns
returns c = nothing_is_lost_lem
