use Rattle.bp_theory.proofs.ClassProof.{same_price_lem}
use Rattle.bp_theory.proofs.same_price_alike.Goals as goal

pub returns : goal.returns
returns c = same_price_lem
