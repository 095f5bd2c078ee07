-- A command grows by its tables.
use Rattle.std.proofs.Common.{◌≡◌, ◌∙◌, sym, ap, ap₂, refl, ℕ, Bool, false, List, [], ◌∷◌, ◌++◌}
use Rattle.std.specs.Prelude.{◌||◌}
use Rattle.std.proofs.lemmas.List.{map_push}
use Rattle.clap.specs.Built.{AddsArg}
use Rattle.clap.specs.Words.{App, Rule, Shape, app_of, rule_of, with_rule, with_subcommand}
use Rattle.clap.specs.declared.builder.arg.Arg.{Arg}
use Rattle.clap.specs.declared.builder.command.Command.{Command}
use Rattle.cli_orders.specs.CommandLine.{program_words, IsShaped}
use Rattle.cli_orders.specs.Tables.{rule_of_argument, shape_by, shape_of_subcommand, line_by, GainsSubcommand}
use Rattle.cli_orders.specs.declared.command.Argument.{Argument}
use Rattle.cli_orders.specs.declared.command.Subcommand.{Subcommand}

-- a command of one argument more
pub one_argument_more : (old : Command) (given : Arg) (new : Command) (name : List ℕ) (xs : List Argument) (x : Argument) → IsShaped old (shape_by name xs)
    → rule_of given ≡ rule_of_argument x → given.global ≡ false → AddsArg old given new → IsShaped new (shape_by name (xs ++ x ∷ []))
one_argument_more old given new name xs x shaped rule local adds = record {
  app = adds.shape local ∙ (ap₂ with_rule shaped.app rule
      ∙ ap (λ (rules : List Rule). record { top = record (shape_by name xs) { rules = rules }; subs = [] }) (sym (map_push rule_of_argument xs x)));
  local = adds.globals ∙ ap₂ (λ (a b : Bool). a || b) shaped.local local;
}

-- a program of one subcommand more
line_more : (xs : List Subcommand) (x : Subcommand) → with_subcommand (line_by xs) (shape_of_subcommand x) ≡ line_by (xs ++ x ∷ [])
line_more [] x = refl
line_more (y ∷ ys) x =
    ap (λ (subs : List Shape). record { top = record program_words { is_leaf = false }; subs = subs }) (sym (map_push shape_of_subcommand (y ∷ ys) x))

pub one_subcommand_more : (old new : Command) (xs : List Subcommand) (x : Subcommand) → app_of old ≡ line_by xs → GainsSubcommand old x new
    → app_of new ≡ line_by (xs ++ x ∷ [])
one_subcommand_more old new xs x was gains = gains.app ∙ (ap (λ (app : App). with_subcommand app (shape_of_subcommand x)) was ∙ line_more xs x)
