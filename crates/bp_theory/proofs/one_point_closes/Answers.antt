use Rattle.bp_theory.proofs.PointProof.{one_point_lem}
use Rattle.bp_theory.proofs.one_point_closes.Goals as goal

pub returns : goal.returns
returns c = one_point_lem
