use Rattle.bp_theory.proofs.TruthProof.{older_lem}
use Rattle.bp_theory.proofs.older.Goals as goal

pub returns : goal.returns
returns c = older_lem
