use Rattle.std.proofs.Common.{refl, sym, rules}
use Rattle.clap.specs.Words.{found_of, rows_of}
use Rattle.cli_orders.proofs.Needs.{propose_needs}
use Rattle.cli_orders.proofs.orders.propose_order.Goals as goal

-- what is lacking is in no such order
pub returns-in_err-lp-clause-refused : goal.returns-in_err-lp-clause-refused
returns-in_err-lp-clause-refused c = λ e order has.
    let needs = propose_needs (rows_of (found_of c.args.propose.now)) order has in
    c.pair_of.ensures.refused (search (rules, e)) needs.pair needs.files

pub returns-clause-order : goal.returns-clause-order
returns-clause-order c =
    let pair = c.in_ok-lp.ensures.files in
    (refl, pair.lp, pair.dec, sym c.limits_of.ensures)
