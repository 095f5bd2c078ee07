use Rattle.bp_theory.proofs.CutProof.{cuts_are_met_lem}
use Rattle.bp_theory.proofs.cuts_are_met.Goals as goal

pub returns : goal.returns
returns c = cuts_are_met_lem
