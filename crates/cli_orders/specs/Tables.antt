-- What the tables of subcommands and their arguments say to the crate that reads words.
use Rattle.std.specs.Prelude.{◌≡◌, ℕ, List, [], ◌∷◌, map, Some, false, true}
use Rattle.clap.specs.Words.{App, Rule, Shape, app_of, new_rule, with_subcommand}
use Rattle.clap.specs.Simple.{new_shape}
use Rattle.clap.specs.declared.builder.action.ArgAction.TheVariants.{SetTrue}
use Rattle.clap.specs.declared.builder.command.Command.{Command}
use Rattle.clap.specs.declared.builder.value_parser.ValueParser.TheVariants.{Unsigned}
use Rattle.cli_orders.specs.CommandLine.{program_words}
use Rattle.cli_orders.specs.declared.command.Argument.{Argument}
use Rattle.cli_orders.specs.declared.command.Argument.TheVariants.{FileWord, FileOption, NumberWord, NumberOption, Flag}
use Rattle.cli_orders.specs.declared.command.Subcommand.{Subcommand}

-- the rule of an argument
abbrev pub rule_of_argument : Argument → Rule
rule_of_argument (FileWord id) = record (new_rule id.now) { required = true }
rule_of_argument (FileOption id) = record (new_rule id.now) { long = Some id.now }
rule_of_argument (NumberWord id low high) = record (new_rule id.now) { required = true; parser = Some (Unsigned low high) }
rule_of_argument (NumberOption id low high) = record (new_rule id.now) { long = Some id.now; parser = Some (Unsigned low high) }
rule_of_argument (Flag id) = record (new_rule id.now) { long = Some id.now; action = Some SetTrue }

-- the shape of a subcommand of a name with its arguments
abbrev pub shape_by : List ℕ → List Argument → Shape
shape_by name arguments = record (new_shape name) { rules = map rule_of_argument arguments }

abbrev pub shape_of_subcommand : Subcommand → Shape
shape_of_subcommand s = shape_by s.name.now s.arguments.now

-- the program with subcommands
abbrev pub line_by : List Subcommand → App
line_by [] = record { top = program_words; subs = [] }
line_by (x ∷ xs) = record { top = record program_words { is_leaf = false }; subs = map shape_of_subcommand (x ∷ xs) }

-- `new` is `old` with a subcommand more
pub record GainsSubcommand (old : Command) (subcommand : Subcommand) (new : Command) : Type 0 where
  pub app : app_of new ≡ with_subcommand (app_of old) (shape_of_subcommand subcommand)
