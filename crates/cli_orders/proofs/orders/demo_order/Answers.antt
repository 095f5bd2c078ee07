use Rattle.std.proofs.Common.{refl, rules}
use Rattle.clap.specs.Words.{found_of, rows_of}
use Rattle.cli_orders.proofs.Needs.{demo_needs}
use Rattle.cli_orders.proofs.orders.demo_order.Goals as goal

-- what is lacking is in no such order
pub returns-in_err-scale-clause-refused : goal.returns-in_err-scale-clause-refused
returns-in_err-scale-clause-refused c = λ e order has.
    let needs = demo_needs (rows_of (found_of c.args.demo.now)) order has in
    c.scale_of.ensures.refused (search (rules, e)) needs.scale needs.is

pub returns-clause-order : goal.returns-clause-order
returns-clause-order c =
    let scale = c.in_ok-scale.ensures.numbers in
    (refl, scale.seed, scale.size)
