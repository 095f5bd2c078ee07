-- The command is simple, and no argument has a rule on another.
use Rattle.std.proofs.Common.{◌≡◌, refl, true}
use Rattle.clap.specs.Words.{is_simple, is_simple_and_free}
use Rattle.clap.proofs.OnLiterals.{clap_on_literals}
use Rattle.cli_orders.specs.CommandLine.{command_line}

pub line_is_simple : is_simple command_line ≡ true
unfolding clap_on_literals
line_is_simple = refl

pub line_is_free : is_simple_and_free command_line ≡ true
unfolding clap_on_literals
line_is_free = refl
