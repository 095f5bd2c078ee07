-- What a command line orders.
use Rattle.std.specs.Prelude.{◌≡◌, ◌≢◌, ◌⊎◌, ℕ, ◌≤◌, ◌&&◌, not, nat_le, nat_eq, Bool, true, false, List, [], ◌∷◌, length, if◌then◌else◌, Option, Some, None, IfSome, IsSome, is_some, ◌||◌, codes}
use Rattle.std.specs.Option.{option_map_or}
use Rattle.std.specs.Str.{bytes_eq}
use Rattle.std.specs.Str.Parse.{IsNumeral, digits_value, without_leading_plus}
use Rattle.clap.specs.Words.{Row, Text, first_of, subcommand_of, fault_of}
use Rattle.bp_theory.specs.declared.Limits.{Limits}
use Rattle.bp_theory.specs.declared.Limits.TheVariants.{Usual, Large}
use Rattle.cli_orders.specs.CommandLine.{command_line, most_steps, most_leaf, most_visits, most_seed, most_size, most_workers, most_cuts}
use Rattle.cli_orders.specs.declared.order.Order.{Order}
use Rattle.cli_orders.specs.declared.order.Watching.{Watching}
use Rattle.cli_orders.specs.declared.order.Order.TheVariants.{Solve, Check, Show, Gen, Demo, Detect, Propose, Merge, Migrate}

-- a text means a number from `low` to `high`: it is decimal digits, before which a plus may stand
pub record IsNumber (text : Text) (low high n : ℕ) : Type 0 where
  pub digits : IsNumeral 10 (without_leading_plus text)
  pub value : n ≡ digits_value 10 (without_leading_plus text)
  pub least : low ≤ n
  pub most : n ≤ high

-- a value is there, and means a number
abbrev pub HasNumber : Option Text → (low high n : ℕ) → Type 0
HasNumber given low high n = (text : Text) × (given ≡ Some text) × IsNumber text low high n

-- a value means a number where it is there
abbrev pub MayHaveNumber : Option Text → (low high : ℕ) → Option ℕ → Type 0
MayHaveNumber given low high None = given ≡ None
MayHaveNumber given low high (Some n) = HasNumber given low high n

-- a value means a number up to `high` where it is there, and else the number is 0
abbrev pub HasCount : Option Text → (high n : ℕ) → Type 0
HasCount None high n = n ≡ 0
HasCount (Some text) high n = IsNumber text 0 high n

-- a flag is given: its value is then `true`
abbrev pub is_set : Option Text → Bool
is_set given = option_map_or (λ text. bytes_eq text (codes "true")) given false

-- the large limits where they are asked for, and else the usual ones
abbrev pub limits_by : Bool → Limits
limits_by true = Large
limits_by false = Usual

-- the limits by the value of the flag `--large`
abbrev pub limits_of : Option Text → Limits
limits_of given = limits_by (is_set given)

-- a leaf is named only beside a certificate to go on from, and not beside workers or their order
abbrev pub GoTogether : (leaf from workers order : Option Text) → Type 0
GoTogether None from workers order = Unit {0}
GoTogether (Some leaf) from workers order = IsSome from × (workers ≡ None) × (order ≡ None)

-- the same of the rows of the subcommand
abbrev pub IsLeafPlaced : List Row → Type 0
IsLeafPlaced rows =
    GoTogether (first_of (codes "leaf") rows) (first_of (codes "from") rows) (first_of (codes "workers") rows) (first_of (codes "order") rows)

-- whether a text goes on as an amount does: decimal digits, and one point at most with digits on both sides, by whether a point and
-- a digit behind the last one were met
abbrev pub is_amount_from : (pointed digit : Bool) → Text → Bool
is_amount_from pointed digit [] = digit
is_amount_from pointed digit (c ∷ cs) = if nat_le 48 c && nat_le c 57 then is_amount_from pointed true cs
    else (if nat_eq c 46 && (digit && not pointed) then is_amount_from true false cs else false)

-- an amount is decimal, of 18 bytes at most
abbrev pub is_amount : Text → Bool
is_amount text = nat_le (length text) 18 && is_amount_from false false text

-- a value is an amount where it is there
abbrev pub is_amount_or_none : Option Text → Bool
is_amount_or_none given = option_map_or is_amount given true

-- a word that watches a search stands beside none of a leaf, workers and their order
abbrev pub GoesAlone : (watching leaf workers order : Option Text) → Type 0
GoesAlone None leaf workers order = Unit {0}
GoesAlone (Some text) leaf workers order = (leaf ≡ None) × (workers ≡ None) × (order ≡ None)

-- the same of a word by its name
abbrev pub IsAloneIn : List Row → (name : Text) → Type 0
IsAloneIn rows name = GoesAlone (first_of name rows) (first_of (codes "leaf") rows) (first_of (codes "workers") rows) (first_of (codes "order") rows)

-- whether anything watches a search
abbrev pub is_watched : Watching → Bool
is_watched w = is_some w.time || (is_some w.gap || (is_some w.log || is_some w.stop))

-- the words of `solve` go together: a leaf is where it may be named, the words that watch a search stand where they may, and their
-- numbers are amounts
pub record ArePlaced (rows : List Row) : Type 0 where
  pub leaf : IsLeafPlaced rows
  pub time : IsAloneIn rows (codes "time")
  pub gap : IsAloneIn rows (codes "gap")
  pub log : IsAloneIn rows (codes "log")
  pub stop : IsAloneIn rows (codes "stop")
  pub seconds : is_amount_or_none (first_of (codes "time") rows) ≡ true
  pub percent : is_amount_or_none (first_of (codes "gap") rows) ≡ true
  pub every : is_amount_or_none (first_of (codes "log") rows) ≡ true

-- what watches a search, by its words
pub record IsWatching (rows : List Row) (watching : Watching) : Type 0 where
  pub time : first_of (codes "time") rows ≡ watching.time
  pub gap : first_of (codes "gap") rows ≡ watching.gap
  pub log : first_of (codes "log") rows ≡ watching.log
  pub stop : first_of (codes "stop") rows ≡ watching.stop

-- an order has the values that stand in the rows of the subcommand
abbrev pub HasValues : Text → List Row → Order → Type 0
HasValues name rows (Solve given) =
    (name ≡ codes "solve") × (first_of (codes "lp") rows ≡ Some given.lp) × (first_of (codes "dec") rows ≡ given.dec)
    × MayHaveNumber (first_of (codes "steps") rows) 0 most_steps given.steps × (first_of (codes "cert") rows ≡ given.cert)
    × (first_of (codes "from") rows ≡ given.from) × MayHaveNumber (first_of (codes "leaf") rows) 1 most_leaf given.leaf
    × MayHaveNumber (first_of (codes "workers") rows) 1 most_workers given.workers
    × MayHaveNumber (first_of (codes "order") rows) 0 most_seed given.order × ArePlaced rows
    × HasCount (first_of (codes "cuts") rows) most_cuts given.cuts × (limits_of (first_of (codes "large") rows) ≡ given.limits)
    × IsWatching rows given.watching
HasValues name rows (Check given) =
    (name ≡ codes "check") × (first_of (codes "lp") rows ≡ Some given.lp) × (first_of (codes "cert") rows ≡ Some given.cert)
    × (first_of (codes "dec") rows ≡ given.dec) × MayHaveNumber (first_of (codes "visits") rows) 0 most_visits given.visits
    × (limits_of (first_of (codes "large") rows) ≡ given.limits)
HasValues name rows (Show lp dec blocks classes limits) =
    (name ≡ codes "show") × (first_of (codes "lp") rows ≡ Some lp) × (first_of (codes "dec") rows ≡ dec)
    × (is_set (first_of (codes "blocks") rows) ≡ blocks) × (is_set (first_of (codes "classes") rows) ≡ classes) × (limits_of (first_of (codes "large") rows) ≡ limits)
HasValues name rows (Gen seed size lp dec) =
    (name ≡ codes "gen") × HasNumber (first_of (codes "seed") rows) 0 most_seed seed
    × HasNumber (first_of (codes "size") rows) 1 most_size size × (first_of (codes "lp") rows ≡ Some lp)
    × (first_of (codes "dec") rows ≡ Some dec)
HasValues name rows (Demo seed size) =
    (name ≡ codes "demo") × HasNumber (first_of (codes "seed") rows) 0 most_seed seed
    × HasNumber (first_of (codes "size") rows) 1 most_size size
HasValues name rows (Detect lp list dec limits) =
    (name ≡ codes "detect") × (first_of (codes "lp") rows ≡ Some lp) × (first_of (codes "rows") rows ≡ Some list)
    × (first_of (codes "dec") rows ≡ Some dec) × (limits_of (first_of (codes "large") rows) ≡ limits)
HasValues name rows (Propose lp dec limits) =
    (name ≡ codes "propose") × (first_of (codes "lp") rows ≡ Some lp) × (first_of (codes "dec") rows ≡ Some dec)
    × (limits_of (first_of (codes "large") rows) ≡ limits)
HasValues name rows (Merge given) =
    (name ≡ codes "merge") × (first_of (codes "lp") rows ≡ Some given.lp) × (first_of (codes "first") rows ≡ Some given.first)
    × (first_of (codes "second") rows ≡ Some given.second) × (first_of (codes "new") rows ≡ Some given.new)
    × (first_of (codes "dec") rows ≡ given.dec) × (limits_of (first_of (codes "large") rows) ≡ given.limits)
HasValues name rows (Migrate lp cert new dec limits) =
    (name ≡ codes "migrate") × (first_of (codes "lp") rows ≡ Some lp) × (first_of (codes "cert") rows ≡ Some cert)
    × (first_of (codes "new") rows ≡ Some new) × (first_of (codes "dec") rows ≡ dec)
    × (limits_of (first_of (codes "large") rows) ≡ limits)

-- the numbers of an order are in their ranges, and a leaf goes with a certificate to go on from and without a crew
abbrev pub IsInRange : Order → Type 0
IsInRange (Solve given) =
    IfSome given.steps (λ n. n ≤ most_steps) × IfSome given.workers (λ n. (1 ≤ n) × (n ≤ most_workers))
    × IfSome given.leaf (λ n. (1 ≤ n) × IsSome given.from × (given.workers ≡ None) × (given.order ≡ None))
    × (given.cuts ≤ most_cuts)
IsInRange (Check given) = Unit {0}
IsInRange (Show lp dec blocks classes limits) = Unit {0}
IsInRange (Gen seed size lp dec) = (1 ≤ size) × (size ≤ most_size)
IsInRange (Demo seed size) = (1 ≤ size) × (size ≤ most_size)
IsInRange (Detect lp list dec limits) = Unit {0}
IsInRange (Propose lp dec limits) = Unit {0}
IsInRange (Merge given) = Unit {0}
IsInRange (Migrate lp cert new dec limits) = Unit {0}

-- the subcommand that was met, with its rows, states an order
pub record IsStated (met : Option (Text × List Row)) (order : Order) : Type 0 where
  pub name : Text
  pub rows : List Row
  pub subcommand : met ≡ Some (name, rows)
  pub values : HasValues name rows order

-- words are a command line that gives an order: the command takes them, and the subcommand that they name states it
pub record IsOrderOf (words : List Text) (order : Order) : Type 0 where
  pub taken : fault_of command_line words ≡ []
  pub stated : IsStated (subcommand_of command_line words) order

-- the subcommand that was met is `solve`, and its words do not go together: a leaf without a certificate to go on from or beside a
-- crew, or a word that watches the search beside one of those, or without an amount
abbrev pub MisplacesWord : Option (Text × List Row) → Type 0
MisplacesWord met = (rows : List Row) × (met ≡ Some (codes "solve", rows)) × (ArePlaced rows → ⊥)

-- words are no command line: the command finds a fault in them, or they misplace a word
abbrev pub AreRefused : List Text → Type 0
AreRefused words = (fault_of command_line words ≢ []) ⊎ MisplacesWord (subcommand_of command_line words)
