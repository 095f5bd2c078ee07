use Rattle.tree_merge.proofs.CountProof.{merged_with_itself_lem}
use Rattle.tree_merge.proofs.laws.merged_with_itself.Goals as goal

pub returns : goal.returns
returns c = merged_with_itself_lem
