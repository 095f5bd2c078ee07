-- What a tree says of its variables by number: their bounds, and the terms as they are written.
use Rattle.std.specs.Prelude.{◌≡◌, ℕ, zero, suc, ◌+◌, ◌<◌, ◌≤◌, Bool, true, false, not, ◌||◌, if◌then◌else◌, List, [], ◌∷◌, take, filter_map, fold, length, replicate, slice_set, slice_index_or, Option, Some, None, unwrap_or, pos}
use Rattle.bp_theory.specs.declared.Limits.{Limits}
use Rattle.bp_theory.specs.Limits.{most_digits}
use Rattle.std.specs.Str.{bytes_eq}
use Rattle.bp_theory.specs.Digits.{zone_bits}
use Rattle.bp_theory.specs.declared.Span.{Span}
use Rattle.bp_theory.specs.declared.Term.{Term}
use Rattle.bp_theory.specs.declared.Row.{Row}
use Rattle.lp_token.specs.declared.LpKind.{LpKind}
use Rattle.lp_syntax.specs.Tree as plain
use Rattle.lp_syntax.specs.Tree.{Name, Item, term, constant, Bound, Part, bounds, generals, binaries}
use Rattle.lp_syntax.specs.declared.tree.Sign.{Sign}
use Rattle.lp_syntax.specs.declared.tree.Sign.TheVariants.{Plus as plus, Minus as minus}
use Rattle.lp_syntax.specs.declared.tree.Comparison.{Comparison}
use Rattle.lp_syntax.specs.declared.tree.Comparison.TheVariants.{AtMost as at_most, AtLeast as at_least, Equal as equal}
use Rattle.lp_semantics.specs.Meaning.{Extended, whole, above, Ends, Side, lower, upper, Statement, statements, greater, lesser, signed, minimised, row_meaning}
use Rattle.lp_semantics.specs.Reading.{ends_fault}
use Rattle.lp_semantics.specs.declared.bounds.Stated.{Stated}

-- whether a sign, and a run of signs, is minus
abbrev pub is_minus : Sign → Bool
is_minus plus = false
is_minus minus = true

abbrev pub is_negative : List Sign → Bool
is_negative [] = false
is_negative (s ∷ signs) = if is_minus s then not (is_negative signs) else is_negative signs

-- the number of a name in a list of names
abbrev pub number_in : List Name → Name → ℕ
number_in [] n = zero
number_in (m ∷ names) n = if bytes_eq n m then zero else suc (number_in names n)

-- a variable of which nothing is said
abbrev pub unsaid : Stated
unsaid = record { lo = whole (pos 0); hi = above; general = false; binary = false }

-- a value on a side
abbrev pub with_value : Stated → Side → Extended → Stated
with_value s lower x = record { lo = x; hi = s.hi; general = s.general; binary = s.binary }
with_value s upper x = record { lo = s.lo; hi = x; general = s.general; binary = s.binary }

abbrev pub with_general : Stated → Stated
with_general s = record { lo = s.lo; hi = s.hi; general = true; binary = s.binary }

abbrev pub with_binary : Stated → Stated
with_binary s = record { lo = s.lo; hi = s.hi; general = s.general; binary = true }

-- what is said of a variable, by number
abbrev pub stated_at : List Stated → ℕ → Stated
stated_at table k = slice_index_or table k unsaid

-- one value more on a side of a variable
abbrev pub say_at : List Stated → ℕ → Side → Extended → List Stated
say_at table k side x = slice_set table k (with_value (stated_at table k) side x)

-- what a variable compared with a value says
abbrev pub compare_at : List Stated → ℕ → Comparison → Extended → List Stated
compare_at table k at_most x = say_at table k upper x
compare_at table k at_least x = say_at table k lower x
compare_at table k equal x = say_at (say_at table k lower x) k upper x

-- one statement more
abbrev pub say : List Name → List Stated → Statement → List Stated
say names table s = say_at table (number_in names s.variable) s.side s.value

-- the statements of a bound
abbrev pub say_bound : List Name → List Stated → Bound → List Stated
say_bound names table b = fold (say names) table (statements b)

abbrev pub list_general : List Name → List Stated → Name → List Stated
list_general names table n = slice_set table (number_in names n) (with_general (stated_at table (number_in names n)))

abbrev pub list_binary : List Name → List Stated → Name → List Stated
list_binary names table n = slice_set table (number_in names n) (with_binary (stated_at table (number_in names n)))

-- what a section says
abbrev pub say_part : List Name → List Stated → Part → List Stated
say_part names table (bounds bs) = fold (say_bound names) table bs
say_part names table (generals ns) = fold (list_general names) table ns
say_part names table (binaries ns) = fold (list_binary names) table ns

-- what is said of each variable in all sections
unfoldable pub table_of : List Name → List Part → List Stated
table_of names parts = fold (say_part names) (replicate (length names) unsaid) parts

-- the ends of a variable: a binary's are intersected with 0..1
abbrev pub ends_in : Stated → Ends
ends_in s =
    if s.binary
    then record { lo = greater s.lo (whole (pos 0)); hi = lesser s.hi (whole (pos 1)) }
    else record { lo = s.lo; hi = s.hi }

-- a variable that is whole by a list
abbrev pub is_listed_in : Stated → Bool
is_listed_in s = s.general || s.binary

-- what is wrong with the bounds of a variable
abbrev pub fault_in : Stated → Option LpKind
fault_in s = ends_fault (ends_in s) (is_listed_in s)

-- the first variable at fault
pub record IsFirstBoundsFault (table : List Stated) (number : ℕ) (kind : LpKind) : Type 0 where
  pub there : number < length table
  pub fault : fault_in (stated_at table number) ≡ Some kind
  pub first : (k : ℕ) → k < number → fault_in (stated_at table k) ≡ None

-- the first variable with which the spans' binary digits are too many
pub record IsFirstPast (limits : Limits) (spans : List Span) (number : ℕ) : Type 0 where
  pub there : number < length spans
  pub before : zone_bits (take number spans) ≤ most_digits limits
  pub past : most_digits limits < zone_bits (take (number + 1) spans)

-- a sign in front, or none, that turns what is turned already or not
abbrev pub turned_by : Bool → Sign → Bool
turned_by turned plus = turned
turned_by turned minus = not turned

-- a term as it is written, with its variable's number
abbrev pub raw_term : List Name → Bool → plain.Term → Term
raw_term names turned t = record { var = number_in names t.variable; coef = minimised turned (signed t.signs (unwrap_or t.factor 1)) }

abbrev pub raw_item : List Name → Bool → Item → Option Term
raw_item names turned (term t) = Some (raw_term names turned t)
raw_item names turned (constant c) = None

-- the terms of items as they are written
abbrev pub raw_terms : List Name → Bool → List Item → List Term
raw_terms names turned items = filter_map (raw_item names turned) items

-- a row with its terms as they are written
abbrev pub raw_row : List Name → plain.Row → Row
raw_row names r =
    let m = row_meaning r in
    record { sense = m.sense; low = m.low; rhs = m.rhs; terms = raw_terms names false m.items }
