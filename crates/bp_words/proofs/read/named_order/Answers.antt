use Rattle.clap.specs.Words.{found_of, rows_of}
use Rattle.cli_orders.proofs.OtherName.{other_name}
use Rattle.bp_words.proofs.read.named_order.Goals as goal

pub returns-in_default-clause-refused : goal.returns-in_default-clause-refused
returns-in_default-clause-refused c = λ e order has.
    let last = c.in_default in
    other_name c.args.name.now (rows_of (found_of c.args.given.now)) order last.not-solve last.not-check last.not-show last.not-gen last.not-demo last.not-detect last.not-propose last.not-merge last.not-migrate has
