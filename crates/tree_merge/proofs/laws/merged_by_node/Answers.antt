use Rattle.tree_merge.proofs.NodeProof.{merged_by_node_lem}
use Rattle.tree_merge.proofs.laws.merged_by_node.Goals as goal

pub returns : goal.returns
returns c = merged_by_node_lem
