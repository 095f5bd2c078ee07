use Rattle.std.proofs.Common.{Some, rules}
use Rattle.cli_orders.proofs.values.number.Goals as goal

pub returns-in_err-optional_number-clause-refused : goal.returns-in_err-optional_number-clause-refused
returns-in_err-optional_number-clause-refused c = λ e n has. c.optional_number.ensures.refused (search (rules, e)) (Some n) has
