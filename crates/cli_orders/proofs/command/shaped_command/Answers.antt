use Rattle.std.proofs.Common.{sym, subst, take, List}
use Rattle.std.proofs.lemmas.List.{take_more}
use Rattle.cli_orders.specs.CommandLine.{IsShaped}
use Rattle.cli_orders.specs.Tables.{shape_by}
use Rattle.cli_orders.specs.declared.command.Argument.{Argument}
use Rattle.cli_orders.proofs.Tables.{one_argument_more}
use Rattle.cli_orders.proofs.command.shaped_command.Goals as goal

pub loop-argument-preserved : goal.loop-argument-preserved
loop-argument-preserved c =
    let name = c.args.subcommand.now.name.now in
    let all = c.args.subcommand.now.arguments.now in
    let at = c.loop-argument.argument-index in
    subst (λ (xs : List Argument). IsShaped c.in_ok-command.command (shape_by name xs)) (sym (take_more all at _ c.loop-argument-test.true))
    (one_argument_more c.loop-argument.command c.rule_of_argument.result c.in_ok-command.command name (take at all) _
    c.loop-argument.invariant c.rule_of_argument.ensures.rule c.rule_of_argument.ensures.local c.in_ok-command.ensures)
