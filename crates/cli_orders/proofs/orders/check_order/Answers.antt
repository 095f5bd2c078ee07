use Rattle.std.proofs.Common.{refl, sym, rules}
use Rattle.clap.specs.Words.{found_of, rows_of}
use Rattle.cli_orders.proofs.Needs.{not_there, check_needs}
use Rattle.cli_orders.proofs.orders.check_order.Goals as goal

-- what is lacking is in no such order
pub returns-in_err-visits-clause-refused : goal.returns-in_err-visits-clause-refused
returns-in_err-visits-clause-refused c = λ e order has.
    let needs = check_needs (rows_of (found_of c.args.check.now)) order has in
    c.optional_number.ensures.refused (search (rules, e)) needs.visits needs.number

pub returns-in_err-cert-clause-refused : goal.returns-in_err-cert-clause-refused
returns-in_err-cert-clause-refused c = λ e order has.
    let needs = check_needs (rows_of (found_of c.args.check.now)) order has in
    not_there _ (c.given.ensures.refused (search (rules, e))) needs.cert

pub returns-in_err-lp-clause-refused : goal.returns-in_err-lp-clause-refused
returns-in_err-lp-clause-refused c = λ e order has.
    let needs = check_needs (rows_of (found_of c.args.check.now)) order has in
    not_there _ (c.problem_of.ensures.refused (search (rules, e))) needs.lp

pub returns-clause-order : goal.returns-clause-order
returns-clause-order c =
    let problem = c.in_ok-lp.ensures.files in
    (refl, problem.lp, c.in_ok-cert.ensures.value, problem.dec, c.in_ok-visits.ensures.number, sym c.limits_of.ensures)
