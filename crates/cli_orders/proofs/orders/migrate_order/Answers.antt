use Rattle.std.proofs.Common.{refl, sym, rules}
use Rattle.clap.specs.Words.{found_of, rows_of}
use Rattle.cli_orders.proofs.Needs.{not_there, migrate_needs}
use Rattle.cli_orders.proofs.orders.migrate_order.Goals as goal

-- what is lacking is in no such order
pub returns-in_err-cert-clause-refused : goal.returns-in_err-cert-clause-refused
returns-in_err-cert-clause-refused c = λ e order has.
    let needs = migrate_needs (rows_of (found_of c.args.migrate.now)) order has in
    not_there _ (c.given.ensures.refused (search (rules, e))) needs.cert

pub returns-in_err-new-clause-refused : goal.returns-in_err-new-clause-refused
returns-in_err-new-clause-refused c = λ e order has.
    let needs = migrate_needs (rows_of (found_of c.args.migrate.now)) order has in
    not_there _ (c.given-2.ensures.refused (search (rules, e))) needs.new

pub returns-in_err-lp-clause-refused : goal.returns-in_err-lp-clause-refused
returns-in_err-lp-clause-refused c = λ e order has.
    let needs = migrate_needs (rows_of (found_of c.args.migrate.now)) order has in
    not_there _ (c.problem_of.ensures.refused (search (rules, e))) needs.lp

pub returns-clause-order : goal.returns-clause-order
returns-clause-order c =
    let problem = c.in_ok-lp.ensures.files in
    (refl, problem.lp, c.in_ok-cert.ensures.value, c.in_ok-new.ensures.value, problem.dec, sym c.limits_of.ensures)
