use Rattle.bp_theory.proofs.CopyProof.{stands_where_nonzero_lem}
use Rattle.bp_theory.proofs.stands_where_nonzero.Goals as goal

pub returns : goal.returns
returns c = stands_where_nonzero_lem
