use Rattle.std.proofs.Common.{rules}
use Rattle.cli_orders.proofs.values.solve_numbers.Goals as goal

-- what is lacking is in none of these
pub returns-in_err-steps-clause-refused : goal.returns-in_err-steps-clause-refused
returns-in_err-steps-clause-refused c = λ e numbers is. c.optional_number.ensures.refused (search (rules, e)) numbers.steps is.steps

pub returns-in_err-leaf-clause-refused : goal.returns-in_err-leaf-clause-refused
returns-in_err-leaf-clause-refused c = λ e numbers is. c.optional_number-2.ensures.refused (search (rules, e)) numbers.leaf is.leaf

pub returns-in_err-workers-clause-refused : goal.returns-in_err-workers-clause-refused
returns-in_err-workers-clause-refused c = λ e numbers is. c.optional_count.ensures.refused (search (rules, e)) numbers.workers is.workers

pub returns-in_err-order-clause-refused : goal.returns-in_err-order-clause-refused
returns-in_err-order-clause-refused c = λ e numbers is. c.optional_number-3.ensures.refused (search (rules, e)) numbers.order is.order

pub returns-in_err-cuts-clause-refused : goal.returns-in_err-cuts-clause-refused
returns-in_err-cuts-clause-refused c = λ e numbers is. c.count_or_none.ensures.refused (search (rules, e)) numbers.cuts is.cuts
