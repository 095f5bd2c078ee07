use Rattle.tree_merge.proofs.KeepProof.{merge_keeps_lem}
use Rattle.tree_merge.proofs.laws.merge_keeps.Goals as goal

pub returns : goal.returns
returns c = merge_keeps_lem
