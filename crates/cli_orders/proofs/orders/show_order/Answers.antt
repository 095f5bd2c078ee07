use Rattle.std.proofs.Common.{refl, sym, rules}
use Rattle.clap.specs.Words.{found_of, rows_of}
use Rattle.cli_orders.proofs.Needs.{not_there, show_needs}
use Rattle.cli_orders.proofs.orders.show_order.Goals as goal

-- what is lacking is in no such order
pub returns-in_err-lp-clause-refused : goal.returns-in_err-lp-clause-refused
returns-in_err-lp-clause-refused c = λ e order has.
    let needs = show_needs (rows_of (found_of c.args.show.now)) order has in
    not_there _ (c.problem_of.ensures.refused (search (rules, e))) needs.lp

pub returns-clause-order : goal.returns-clause-order
returns-clause-order c =
    let problem = c.in_ok-lp.ensures.files in
    (refl, problem.lp, problem.dec, sym c.flag-blocks.ensures, sym c.flag-classes.ensures, sym c.limits_of.ensures)
