use Rattle.tree_merge.proofs.NodeProof.{order_is_free_lem}
use Rattle.tree_merge.proofs.laws.order_is_free.Goals as goal

pub returns : goal.returns
returns c = order_is_free_lem
