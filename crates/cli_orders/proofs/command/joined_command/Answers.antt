use Rattle.std.proofs.Common.{◌≡◌, sym, subst, take, List}
use Rattle.std.proofs.lemmas.List.{take_more}
use Rattle.clap.specs.Words.{app_of}
use Rattle.cli_orders.specs.Tables.{line_by}
use Rattle.cli_orders.specs.declared.command.Subcommand.{Subcommand}
use Rattle.cli_orders.proofs.Tables.{one_subcommand_more}
use Rattle.cli_orders.proofs.command.joined_command.Goals as goal

pub loop-subcommand-preserved : goal.loop-subcommand-preserved
loop-subcommand-preserved c =
    let all = c.args.subcommands.now in
    let at = c.loop-subcommand.subcommand-index in
    subst (λ (xs : List Subcommand). app_of c.in_ok-command.command ≡ line_by xs) (sym (take_more all at _ c.loop-subcommand-test.true))
    (one_subcommand_more c.loop-subcommand.command c.in_ok-command.command (take at all) _ c.loop-subcommand.invariant c.in_ok-command.ensures)
