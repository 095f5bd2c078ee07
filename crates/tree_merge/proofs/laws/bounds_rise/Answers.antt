use Rattle.tree_merge.proofs.BoundProof.{bounds_rise_lem}
use Rattle.tree_merge.proofs.laws.bounds_rise.Goals as goal

pub returns : goal.returns
returns c = bounds_rise_lem
