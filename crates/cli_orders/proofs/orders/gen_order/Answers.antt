use Rattle.std.proofs.Common.{refl, rules}
use Rattle.clap.specs.Words.{found_of, rows_of}
use Rattle.cli_orders.proofs.Needs.{gen_needs}
use Rattle.cli_orders.proofs.orders.gen_order.Goals as goal

-- what is lacking is in no such order
pub returns-in_err-scale-clause-refused : goal.returns-in_err-scale-clause-refused
returns-in_err-scale-clause-refused c = λ e order has.
    let needs = gen_needs (rows_of (found_of c.args.make.now)) order has in
    c.scale_of.ensures.refused (search (rules, e)) needs.scale needs.is

pub returns-in_err-lp-clause-refused : goal.returns-in_err-lp-clause-refused
returns-in_err-lp-clause-refused c = λ e order has.
    let needs = gen_needs (rows_of (found_of c.args.make.now)) order has in
    c.pair_of.ensures.refused (search (rules, e)) needs.pair needs.files

pub returns-clause-order : goal.returns-clause-order
returns-clause-order c =
    let scale = c.in_ok-scale.ensures.numbers in
    let pair = c.in_ok-lp.ensures.files in
    (refl, scale.seed, scale.size, pair.lp, pair.dec)
