use Rattle.std.proofs.Common.{refl, sym, rules}
use Rattle.clap.specs.Words.{found_of, rows_of}
use Rattle.cli_orders.proofs.Needs.{not_there, merge_needs}
use Rattle.cli_orders.proofs.orders.merge_order.Goals as goal

-- what is lacking is in no such order
pub returns-in_err-sides-clause-refused : goal.returns-in_err-sides-clause-refused
returns-in_err-sides-clause-refused c = λ e order has.
    let needs = merge_needs (rows_of (found_of c.args.merge.now)) order has in
    c.sides_of.ensures.refused (search (rules, e)) needs.sides needs.are

pub returns-in_err-new-clause-refused : goal.returns-in_err-new-clause-refused
returns-in_err-new-clause-refused c = λ e order has.
    let needs = merge_needs (rows_of (found_of c.args.merge.now)) order has in
    not_there _ (c.given.ensures.refused (search (rules, e))) needs.new

pub returns-in_err-lp-clause-refused : goal.returns-in_err-lp-clause-refused
returns-in_err-lp-clause-refused c = λ e order has.
    let needs = merge_needs (rows_of (found_of c.args.merge.now)) order has in
    not_there _ (c.problem_of.ensures.refused (search (rules, e))) needs.lp

pub returns-clause-order : goal.returns-clause-order
returns-clause-order c =
    let sides = c.in_ok-sides.ensures.files in
    let problem = c.in_ok-lp.ensures.files in
    (refl, problem.lp, sides.first, sides.second, c.in_ok-new.ensures.value, problem.dec, sym c.limits_of.ensures)
