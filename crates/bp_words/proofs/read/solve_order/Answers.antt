use Rattle.std.proofs.Common.{refl, sym, rules}
use Rattle.clap.specs.Words.{found_of, rows_of}
use Rattle.cli_orders.proofs.Needs.{not_there, solve_needs}
use Rattle.bp_words.proofs.read.solve_order.Goals as goal

-- what is lacking is in no such order
pub returns-in_err-numbers-clause-refused : goal.returns-in_err-numbers-clause-refused
returns-in_err-numbers-clause-refused c = λ e order has.
    let needs = solve_needs (rows_of (found_of c.args.solve.now)) order has in
    c.solve_numbers.ensures.refused (search (rules, e)) needs.numbers needs.are

pub returns-in_err-lp-clause-refused : goal.returns-in_err-lp-clause-refused
returns-in_err-lp-clause-refused c = λ e order has.
    let needs = solve_needs (rows_of (found_of c.args.solve.now)) order has in
    not_there _ (c.problem_of.ensures.refused (search (rules, e))) needs.lp

pub returns-clause-order : goal.returns-clause-order
returns-clause-order c =
    let numbers = c.in_ok-numbers.ensures.numbers in
    let ends = c.in_ok-ends.ensures in
    let problem = c.in_ok-lp.ensures.files in
    (refl, problem.lp, problem.dec, numbers.steps, ends.cert, ends.from, numbers.leaf, numbers.workers, numbers.order, search rules, numbers.cuts, sym c.limits_of.ensures, c.in_ok-watching.ensures)
