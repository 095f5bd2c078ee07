use Rattle.std.proofs.Common.{take}
use Rattle.cli_orders.specs.CommandLine.{IsShaped}
use Rattle.cli_orders.specs.Tables.{shape_by}
use Rattle.cli_orders.proofs.command.shaped_command.Given as goal

abbrev pub invariant-loop-argument : goal.invariant-loop-argument
invariant-loop-argument l = IsShaped l.command (shape_by l.subcommand.name.now (take l.argument-index l.argument-items))
