use Rattle.std.proofs.Common.{rules}
use Rattle.std.proofs.lemmas.Int.{wraps}
use Rattle.master_gap.proofs.numbers.minus.Goals as goal

pub returns : goal.returns
returns c = search (rules, wraps)
