use Rattle.bp_theory.proofs.ClassProof.{split_shrinks_lem}
use Rattle.bp_theory.proofs.split_shrinks.Goals as goal

pub returns : goal.returns
returns c = split_shrinks_lem
