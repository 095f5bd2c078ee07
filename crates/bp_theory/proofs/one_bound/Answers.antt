use Rattle.bp_theory.proofs.ShrinkProof.{one_bound_lem}
use Rattle.bp_theory.proofs.one_bound.Goals as goal

pub returns : goal.returns
returns c = one_bound_lem
