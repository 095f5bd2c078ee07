use Rattle.std.proofs.Common.{rules}
use Rattle.std.proofs.lemmas.Int.{wraps}
use Rattle.col_pool.proofs.numbers.plus.Goals as goal

pub returns : goal.returns
returns c = search (rules, wraps)
