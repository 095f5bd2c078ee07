-- The command line: subcommands, one of which is required, without help or version words.
use Rattle.std.specs.Prelude.{◌≡◌, ℕ, ◌-◌, ◌^◌, [], ◌∷◌, Some, true, false, codes}
use Rattle.clap.specs.Words.{App, Rule, Shape, new_rule, app_of}
use Rattle.clap.specs.Simple.{new_shape}
use Rattle.clap.specs.declared.builder.action.ArgAction.TheVariants.{SetTrue}
use Rattle.clap.specs.declared.builder.command.Command.{Command}
use Rattle.clap.specs.declared.builder.command.Command.TheViews.{out-Command}
use Rattle.clap.specs.declared.builder.value_parser.ValueParser.TheVariants.{Unsigned}

-- the LP file, by its place
abbrev pub lp_word : Rule
lp_word = record (new_rule (codes "lp")) { required = true }

-- the file of the decomposition, behind `--dec`
abbrev pub dec_option : Rule
dec_option = record (new_rule (codes "dec")) { long = Some (codes "dec") }

-- the file for the certificate, behind `--cert`
abbrev pub cert_option : Rule
cert_option = record (new_rule (codes "cert")) { long = Some (codes "cert") }

-- the file of the certificate to go on from, behind `--from`
abbrev pub from_option : Rule
from_option = record (new_rule (codes "from")) { long = Some (codes "from") }

-- whether the blocks are listed, by `--blocks`
abbrev pub blocks_flag : Rule
blocks_flag = record (new_rule (codes "blocks")) { long = Some (codes "blocks"); action = Some SetTrue }

-- whether one block of each class is listed, by `--classes`
abbrev pub classes_flag : Rule
classes_flag = record (new_rule (codes "classes")) { long = Some (codes "classes"); action = Some SetTrue }

-- whether the large limits are asked for, by `--large`
abbrev pub large_flag : Rule
large_flag = record (new_rule (codes "large")) { long = Some (codes "large"); action = Some SetTrue }

-- the greatest number of steps, of a leaf, of visits, of a seed, of a size, of workers and of cuts
abbrev pub most_steps : ℕ
most_steps = 2 ^ 60

abbrev pub most_leaf : ℕ
most_leaf = 2 ^ 64 - 1

abbrev pub most_visits : ℕ
most_visits = 2 ^ 64 - 1

abbrev pub most_seed : ℕ
most_seed = 2 ^ 64 - 1

abbrev pub most_size : ℕ
most_size = 1024

abbrev pub most_workers : ℕ
most_workers = 64

abbrev pub most_cuts : ℕ
most_cuts = 256

-- the steps, behind `--steps`
abbrev pub steps_option : Rule
steps_option = record (new_rule (codes "steps")) { long = Some (codes "steps"); parser = Some (Unsigned 0 most_steps) }

-- the number of an open leaf of the certificate to go on from, behind `--leaf`
abbrev pub leaf_option : Rule
leaf_option = record (new_rule (codes "leaf")) { long = Some (codes "leaf"); parser = Some (Unsigned 1 most_leaf) }

-- how many visits pricing may take, behind `--visits`
abbrev pub visits_option : Rule
visits_option = record (new_rule (codes "visits")) { long = Some (codes "visits"); parser = Some (Unsigned 0 most_visits) }

-- how many workers there are and the seed of their order, behind `--workers` and `--order`
abbrev pub workers_option : Rule
workers_option = record (new_rule (codes "workers")) { long = Some (codes "workers"); parser = Some (Unsigned 1 most_workers) }

abbrev pub order_option : Rule
order_option = record (new_rule (codes "order")) { long = Some (codes "order"); parser = Some (Unsigned 0 most_seed) }

-- how many cuts may be added, behind `--cuts`
abbrev pub cuts_option : Rule
cuts_option = record (new_rule (codes "cuts")) { long = Some (codes "cuts"); parser = Some (Unsigned 0 most_cuts) }

-- for how long a search may go on and up to which gap, how often a line of its table comes, and the file that ends it, behind
-- `--time`, `--gap`, `--log` and `--stop`
abbrev pub time_option : Rule
time_option = record (new_rule (codes "time")) { long = Some (codes "time") }

abbrev pub gap_option : Rule
gap_option = record (new_rule (codes "gap")) { long = Some (codes "gap") }

abbrev pub log_option : Rule
log_option = record (new_rule (codes "log")) { long = Some (codes "log") }

abbrev pub stop_option : Rule
stop_option = record (new_rule (codes "stop")) { long = Some (codes "stop") }

-- the seed and the size, by their places
abbrev pub seed_word : Rule
seed_word = record (new_rule (codes "seed")) { required = true; parser = Some (Unsigned 0 most_seed) }

abbrev pub size_word : Rule
size_word = record (new_rule (codes "size")) { required = true; parser = Some (Unsigned 1 most_size) }

-- the decomposition's file, by its place
abbrev pub dec_word : Rule
dec_word = record (new_rule (codes "dec")) { required = true }

-- the certificate's file, by its place
abbrev pub cert_word : Rule
cert_word = record (new_rule (codes "cert")) { required = true }

-- the file of master rows, by its place
abbrev pub rows_word : Rule
rows_word = record (new_rule (codes "rows")) { required = true }

-- the certificates to merge, and the file for the one that is written, by their places
abbrev pub first_word : Rule
first_word = record (new_rule (codes "first")) { required = true }

abbrev pub second_word : Rule
second_word = record (new_rule (codes "second")) { required = true }

abbrev pub new_word : Rule
new_word = record (new_rule (codes "new")) { required = true }

-- `solve LP [--dec FILE] [--steps N] [--cert FILE] [--from CERT] [--leaf K] [--workers W] [--order SEED] [--cuts C] [--large]
--   [--time SECONDS] [--gap PERCENT] [--log SECONDS] [--stop FILE]`
abbrev pub solve_words : Shape
solve_words = record (new_shape (codes "solve")) {
  rules = lp_word ∷ dec_option ∷ steps_option ∷ cert_option ∷ from_option ∷ leaf_option ∷ workers_option ∷ order_option ∷ cuts_option ∷ large_flag
      ∷ time_option ∷ gap_option ∷ log_option ∷ stop_option ∷ [];
}

-- `check LP CERT [--dec FILE] [--visits M] [--large]`
abbrev pub check_words : Shape
check_words = record (new_shape (codes "check")) { rules = lp_word ∷ cert_word ∷ dec_option ∷ visits_option ∷ large_flag ∷ [] }

-- `show LP [--dec FILE] [--blocks] [--classes] [--large]`
abbrev pub show_words : Shape
show_words = record (new_shape (codes "show")) { rules = lp_word ∷ dec_option ∷ blocks_flag ∷ classes_flag ∷ large_flag ∷ [] }

-- `gen SEED SIZE LP DEC`
abbrev pub gen_words : Shape
gen_words = record (new_shape (codes "gen")) { rules = seed_word ∷ size_word ∷ lp_word ∷ dec_word ∷ [] }

-- `demo SEED SIZE`
abbrev pub demo_words : Shape
demo_words = record (new_shape (codes "demo")) { rules = seed_word ∷ size_word ∷ [] }

-- `detect LP ROWS DEC [--large]`
abbrev pub detect_words : Shape
detect_words = record (new_shape (codes "detect")) { rules = lp_word ∷ rows_word ∷ dec_word ∷ large_flag ∷ [] }

-- `propose LP DEC [--large]`
abbrev pub propose_words : Shape
propose_words = record (new_shape (codes "propose")) { rules = lp_word ∷ dec_word ∷ large_flag ∷ [] }

-- `merge LP FIRST SECOND NEW [--dec FILE] [--large]`
abbrev pub merge_words : Shape
merge_words = record (new_shape (codes "merge")) { rules = lp_word ∷ first_word ∷ second_word ∷ new_word ∷ dec_option ∷ large_flag ∷ [] }

-- `migrate LP CERT NEW [--dec FILE] [--large]`
abbrev pub migrate_words : Shape
migrate_words = record (new_shape (codes "migrate")) { rules = lp_word ∷ cert_word ∷ new_word ∷ dec_option ∷ large_flag ∷ [] }

-- the program itself
abbrev pub program_words : Shape
program_words = record (new_shape (codes "bprice")) {
  disable_help_flag = true;
  disable_help_subcommand = true;
  disable_version_flag = true;
  subcommand_required = true;
}

-- the whole command: the program with its subcommands
abbrev pub command_line : App
command_line = record {
  top = record program_words { is_leaf = false };
  subs = solve_words ∷ check_words ∷ show_words ∷ gen_words ∷ demo_words ∷ detect_words ∷ propose_words ∷ merge_words ∷ migrate_words ∷ [];
}

-- a command reads words by a shape, and has no argument that its subcommands take over
pub record IsShaped (command : Command) (shape : Shape) : Type 0 where
  pub app : app_of command ≡ record { top = shape; subs = [] }
  pub local : (out-Command command).has_globals ≡ false
