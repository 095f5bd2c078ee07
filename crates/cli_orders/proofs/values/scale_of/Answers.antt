use Rattle.std.proofs.Common.{rules}
use Rattle.cli_orders.proofs.values.scale_of.Goals as goal

-- what is lacking is in none of these
pub returns-in_err-seed-clause-refused : goal.returns-in_err-seed-clause-refused
returns-in_err-seed-clause-refused c = λ e scale is. c.number.ensures.refused (search (rules, e)) scale.seed is.seed

pub returns-in_err-size-clause-refused : goal.returns-in_err-size-clause-refused
returns-in_err-size-clause-refused c = λ e scale is. c.number-2.ensures.refused (search (rules, e)) scale.size is.size
