use Rattle.std.proofs.Common.{rules}
use Rattle.std.proofs.lemmas.Int.{wraps}
use Rattle.column_assignment.proofs.whole.plus.Goals as goal

pub returns : goal.returns
returns c = search (rules, wraps)
