use Rattle.tree_merge.proofs.CountProof.{nodes_add_up_lem}
use Rattle.tree_merge.proofs.laws.nodes_add_up.Goals as goal

pub returns : goal.returns
returns c = nodes_add_up_lem
