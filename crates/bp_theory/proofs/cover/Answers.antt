use Rattle.bp_theory.proofs.CoverProof.{cover_lem}
use Rattle.bp_theory.proofs.cover.Goals as goal

pub returns : goal.returns
returns c = cover_lem
