use Rattle.std.proofs.Common.{◌≡◌, take}
use Rattle.clap.specs.Words.{app_of}
use Rattle.cli_orders.specs.Tables.{line_by}
use Rattle.cli_orders.proofs.command.joined_command.Given as goal

abbrev pub invariant-loop-subcommand : goal.invariant-loop-subcommand
invariant-loop-subcommand l = app_of l.command ≡ line_by (take l.subcommand-index l.subcommands)
