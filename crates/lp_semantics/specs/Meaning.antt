-- The model that a tree means.
use Rattle.std.specs.Prelude.{ℕ, ◌+◌, ◌*◌, Bool, true, false, ◌&&◌, ◌||◌, if◌then◌else◌, List, [], ◌∷◌, ◌++◌, map, zip, flat_map, sum_by, max, None, Some, unwrap_or, ℤ, pos, neg_ℤ, nat_abs, ◌+ℤ◌, int_le, int_lt}
use Rattle.std.specs.List.{list_any}
use Rattle.std.specs.Str.{bytes_eq}
use Rattle.bp_theory.specs.Program.{reach}
use Rattle.bp_theory.specs.declared.Span.{Span}
use Rattle.bp_theory.specs.declared.Sense.{Sense}
use Rattle.bp_theory.specs.declared.Sense.TheVariants.{Le, Ge, Eq, In}
use Rattle.lp_syntax.specs.Tree.{Name, Term, Item, term, constant, Sum, Row, expression_first, number_first, ranged, Bound, value_first, name_first, between, free, Part, bounds, generals, binaries, SyntaxTree, comparison_of, sites, spelling}
use Rattle.lp_syntax.specs.declared.tree.Sign.{Sign}
use Rattle.lp_syntax.specs.declared.tree.Sign.TheVariants.{Plus as plus, Minus as minus}
use Rattle.lp_syntax.specs.declared.tree.Comparison.{Comparison}
use Rattle.lp_syntax.specs.declared.tree.Comparison.TheVariants.{AtMost as at_most, AtLeast as at_least, Equal as equal}
use Rattle.lp_syntax.specs.declared.tree.Signed.{Signed}
use Rattle.lp_syntax.specs.declared.tree.Direction.TheVariants.{Upward as upward, Downward as downward}
use Rattle.lp_syntax.specs.declared.tree.Value.{Value}
use Rattle.lp_syntax.specs.declared.tree.Value.TheVariants.{Finite as finite, Endless as endless}
use Rattle.lp_syntax.specs.Roles.{Seen, seen, variables, row_names}
pub use Rattle.lp_semantics.specs.declared.extended.Extended.{Extended}
pub use Rattle.lp_semantics.specs.declared.extended.Extended.TheVariants.{Below as below, Whole as whole, Above as above}
pub use Rattle.lp_semantics.specs.declared.extended.Ends.{Ends}

-- a number under a run of signs: the product of both
abbrev pub signed : List Sign → ℕ → ℤ
signed [] n = pos n
signed (plus ∷ signs) n = signed signs n
signed (minus ∷ signs) n = neg_ℤ (signed signs n)

abbrev pub number_of : Signed → ℤ
number_of v = signed v.signs v.size

abbrev pub total : List ℤ → ℤ
total [] = pos 0
total (z ∷ zs) = z +ℤ total zs

-- the summands of a sum, each with all its signs
abbrev pub with_sign : Sign → Item → Item
with_sign s (term t) = term (record t { signs = s ∷ t.signs })
with_sign s (constant c) = constant (record c { signs = s ∷ c.signs })

abbrev pub items_of : Sum Item → List Item
items_of e = e.first ∷ map (λ m. with_sign m.0 m.1) e.more

-- a row's sum as one of items
abbrev pub as_items : Sum Term → List Item
as_items e = term e.first ∷ map (λ m. with_sign m.0 (term m.1)) e.more

-- A variable's coefficient is the sum over its terms, and the constant the sum of the constants.
abbrev pub share_of : Name → Item → ℤ
share_of n (term t) = if bytes_eq n t.variable then signed t.signs (unwrap_or t.factor 1) else pos 0
share_of n (constant c) = pos 0

abbrev pub constant_of : Item → ℤ
constant_of (term t) = pos 0
constant_of (constant c) = number_of c

unfoldable pub item_coefficient : List Item → Name → ℤ
item_coefficient items n = total (map (share_of n) items)

-- a row's sum lies between low and rhs; for all senses but `In` these are equal
pub record RowMeaning : Type 0 where
  pub sense : Sense
  pub low : ℤ
  pub rhs : ℤ
  pub items : List Item

-- a row with one side
abbrev pub one_sided : Sense → ℤ → List Item → RowMeaning
one_sided sense side items = record { sense = sense; low = side; rhs = side; items = items }

abbrev pub sense_of : Comparison → Sense
sense_of at_most = Le
sense_of at_least = Ge
sense_of equal = Eq

-- `5 >= e` means `e <= 5`
abbrev pub turned : Comparison → Comparison
turned at_most = at_least
turned at_least = at_most
turned equal = equal

abbrev pub row_meaning : Row → RowMeaning
row_meaning (expression_first label e c v) = one_sided (sense_of c) (number_of v) (as_items e)
row_meaning (number_first label v c e) = one_sided (sense_of (turned c)) (number_of v) (as_items e)
row_meaning (ranged label v upward e w) = record { sense = In; low = number_of v; rhs = number_of w; items = as_items e }
row_meaning (ranged label v downward e w) = record { sense = In; low = number_of w; rhs = number_of v; items = as_items e }

abbrev pub extended_le : Extended → Extended → Bool
extended_le below _ = true
extended_le _ above = true
extended_le (whole a) (whole b) = int_le a b
extended_le _ _ = false

abbrev pub value_of : Value → Extended
value_of (finite v) = whole (number_of v)
value_of (endless signs) = if int_lt (signed signs 1) (pos 0) then below else above

-- a statement on a side of a variable's bounds
pub data Side : Type 0 where
  lower upper : Side

pub record Statement : Type 0 where
  pub variable : Name
  pub side : Side
  pub value : Extended

abbrev pub says : Name → Side → Extended → Statement
says n side value = record { variable = n; side = side; value = value }

-- what `n` compared with a value says
abbrev pub compared : Name → Comparison → Extended → List Statement
compared n at_most v = says n upper v ∷ []
compared n at_least v = says n lower v ∷ []
compared n equal v = says n lower v ∷ says n upper v ∷ []

abbrev pub statements : Bound → List Statement
statements (value_first v c n) = compared n (turned c) (value_of v)
statements (name_first n c v) = compared n c (value_of v)
statements (between v d n w) = compared n (turned (comparison_of d)) (value_of v) ++ compared n (comparison_of d) (value_of w)
statements (free n w) = says n lower below ∷ says n upper above ∷ []

abbrev pub part_statements : Part → List Statement
part_statements (bounds bs) = flat_map statements bs
part_statements _ = []

abbrev pub general_names : Part → List Name
general_names (generals ns) = ns
general_names _ = []

abbrev pub binary_names : Part → List Name
binary_names (binaries ns) = ns
binary_names _ = []

-- whether a statement is on a side of a variable
abbrev pub is_on : Name → Side → Statement → Bool
is_on n lower s = bytes_eq n s.variable && (elim s.side [ lower ↦ true | upper ↦ false ])
is_on n upper s = bytes_eq n s.variable && (elim s.side [ lower ↦ false | upper ↦ true ])

-- what the last statement on a side of a variable says, or the default
abbrev pub last_said : Name → Side → Extended → List Statement → Extended
last_said n side default [] = default
last_said n side default (s ∷ more) = last_said n side (if is_on n side s then s.value else default) more

abbrev pub greater : Extended → Extended → Extended
greater a b = if extended_le a b then b else a

abbrev pub lesser : Extended → Extended → Extended
lesser a b = if extended_le a b then a else b

-- whether a list of names has a name
abbrev pub has_name : List Name → Name → Bool
has_name names n = list_any (bytes_eq n) names

unfoldable pub stated_ends : SyntaxTree → Name → Ends
stated_ends t n =
    let all = flat_map part_statements t.parts in
    record { lo = last_said n lower (whole (pos 0)) all; hi = last_said n upper above all }

-- the bounds of a variable: a binary's are intersected with 0..1
unfoldable pub ends : SyntaxTree → Name → Ends
unfolding stated_ends
ends t n =
    let stated = stated_ends t n in
    if has_name (flat_map binary_names t.parts) n
    then record { lo = greater stated.lo (whole (pos 0)); hi = lesser stated.hi (whole (pos 1)) }
    else stated

-- a variable that is whole by a list
unfoldable pub is_listed : SyntaxTree → Name → Bool
is_listed t n = has_name (flat_map general_names t.parts) n || has_name (flat_map binary_names t.parts) n

-- the model

-- an infinite end stands for 0 here; no accepted tree has one
abbrev pub end_value : Extended → ℤ
end_value (whole z) = z
end_value _ = pos 0

abbrev pub span_of : Ends → Span
span_of e = record { lo = end_value e.lo; hi = end_value e.hi }

-- a row of the model: its coefficients in order of the variables
pub record ModelRow : Type 0 where
  pub sense : Sense
  pub low : ℤ
  pub rhs : ℤ
  pub coefficients : List ℤ

pub record TextModel : Type 0 where
  pub names : List Name
  pub spans : List Span
  pub row_names : List Name
  pub rows : List ModelRow
  pub costs : List ℤ
  pub constant : ℤ
  pub maximises : Bool

-- the tokens of a tree's text with their roles
unfoldable pub tokens_of : SyntaxTree → List Seen
unfolding sites spelling
tokens_of t = seen (sites t) (spelling t)

abbrev pub objective_items : SyntaxTree → List Item
objective_items t = elim t.objective [ None ↦ [] | Some e ↦ items_of e ]

-- costs are minimised: those of a maximising text are negated
abbrev pub minimised : Bool → ℤ → ℤ
minimised true z = neg_ℤ z
minimised false z = z

abbrev pub model_row : List Name → RowMeaning → ModelRow
model_row names r = record { sense = r.sense; low = r.low; rhs = r.rhs; coefficients = map (item_coefficient r.items) names }

unfoldable pub model_of : SyntaxTree → TextModel
unfolding tokens_of
model_of t =
    let names = variables (tokens_of t) in
    record {
      names = names;
      spans = map (λ n. span_of (ends t n)) names;
      row_names = row_names (tokens_of t);
      rows = map (λ r. model_row names (row_meaning r)) t.rows;
      costs = map (λ n. minimised t.maximises (item_coefficient (objective_items t) n)) names;
      constant = minimised t.maximises (total (map constant_of (objective_items t)));
      maximises = t.maximises;
    }

-- how much a sum may come to, beside a number
unfoldable pub largest_activity : ℕ → List ℤ → List Span → ℕ
largest_activity beside coefficients spans = beside + sum_by (λ p. nat_abs p.0 * reach p.1) (zip coefficients spans)

abbrev pub row_activity : List Span → ModelRow → ℕ
row_activity spans r = largest_activity (max (nat_abs r.low) (nat_abs r.rhs)) r.coefficients spans
