use Rattle.tree_merge.proofs.BoundProof.{leaves_are_worth_lem}
use Rattle.tree_merge.proofs.laws.leaves_are_worth.Goals as goal

pub returns : goal.returns
returns c = leaves_are_worth_lem
