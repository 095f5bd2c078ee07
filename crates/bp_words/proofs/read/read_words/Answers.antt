use Rattle.std.proofs.Common.{◌≡◌, ◌∙◌, sym, ap, subst, List, Option, map, string_bytes}
use Rattle.clap.specs.Words.{App, Row, Text, is_simple, subcommand_rows_of, subcommand_of}
use Rattle.cli_orders.specs.CommandLine.{command_line}
use Rattle.cli_orders.specs.Orders.{IsStated}
use Rattle.cli_orders.proofs.Line.{line_is_simple}
use Rattle.cli_orders.proofs.Refusal.{error_refused}
use Rattle.cli_orders.proofs.Stated.{in_range_if_ok, order_if_ok}
use Rattle.cli_orders.proofs.Taken.{refused_words}
use Rattle.bp_words.proofs.read.read_words.Goals as goal

-- words that are not refused give an order, which the subcommand would state
pub returns-clause-refused : goal.returns-clause-refused
returns-clause-refused c = λ e.
    let words : List Text = map string_bytes c.args.words.now in
    let same : subcommand_rows_of c.in-Ok.matches ≡ subcommand_of command_line words =
    (c.in-Ok.ensures.matches (ap is_simple c.in_ok-command.ensures ∙ line_is_simple)).1
    ∙ ap (λ (a : App). subcommand_of a words) c.in_ok-command.ensures in
    refused_words words
    (λ order stated. c.stated_order.ensures.refused e order (subst (λ (met : Option (Text × List Row)). IsStated met order) (sym same) stated))

pub returns-clause-order : goal.returns-clause-order
returns-clause-order c =
    let words : List Text = map string_bytes c.args.words.now in
    let same : subcommand_rows_of c.in-Ok.matches ≡ subcommand_of command_line words =
    (c.in-Ok.ensures.matches (ap is_simple c.in_ok-command.ensures ∙ line_is_simple)).1
    ∙ ap (λ (a : App). subcommand_of a words) c.in_ok-command.ensures in
    order_if_ok _ words (subcommand_rows_of c.in-Ok.matches) c.stated_order.result c.stated_order.ensures.order c.in_ok-command.ensures same c.in-Ok.ensures.kinds

pub returns-clause-range : goal.returns-clause-range
returns-clause-range c = in_range_if_ok (subcommand_rows_of c.in-Ok.matches) c.stated_order.result c.stated_order.ensures.order

-- and an error of the words refuses them
pub returns-in-Err-clause-refused : goal.returns-in-Err-clause-refused
returns-in-Err-clause-refused c = λ e.
    error_refused _ (map string_bytes c.args.words.now) c.in-Err.error c.kind.result c.fault_of_kind.result c.in_ok-command.ensures c.in-Err.ensures.kinds c.kind.ensures c.fault_of_kind.ensures.refused e
