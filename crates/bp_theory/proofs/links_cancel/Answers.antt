use Rattle.bp_theory.proofs.CopyProof.{links_cancel_lem}
use Rattle.bp_theory.proofs.links_cancel.Goals as goal

pub returns : goal.returns
returns c = links_cancel_lem
