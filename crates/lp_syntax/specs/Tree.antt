-- The syntax of LP texts: trees, and the symbols that spell them.
use Rattle.std.specs.Prelude.{ℕ, Bool, true, false, not, ◌&&◌, if◌then◌else◌, List, [], ◌∷◌, ◌++◌, map, flat_map, Option, None, Some, codes, ◌≡◌, IsTrue}
use Rattle.std.specs.List.{list_all}
use Rattle.std.specs.Str.{bytes_eq, str_to_ascii_lowercase}
use Rattle.lp_token.specs.declared.Section.{Section}
use Rattle.lp_token.specs.declared.Section.TheVariants.{Maximize, Minimize, Rows, Bounds, Generals, Binaries, End}
use Rattle.lp_token.specs.declared.LpKind.{LpKind}
pub use Rattle.lp_syntax.specs.declared.tree.Sign.{Sign}
pub use Rattle.lp_syntax.specs.declared.tree.Sign.TheVariants.{Plus as plus, Minus as minus}
pub use Rattle.lp_syntax.specs.declared.tree.Comparison.{Comparison}
pub use Rattle.lp_syntax.specs.declared.tree.Comparison.TheVariants.{AtMost as at_most, AtLeast as at_least, Equal as equal}
pub use Rattle.lp_syntax.specs.declared.tree.Direction.{Direction}
pub use Rattle.lp_syntax.specs.declared.tree.Direction.TheVariants.{Upward as upward, Downward as downward}
pub use Rattle.lp_syntax.specs.declared.tree.Signed.{Signed}
pub use Rattle.lp_syntax.specs.declared.tree.Value.{Value}
pub use Rattle.lp_syntax.specs.declared.tree.Value.TheVariants.{Finite as finite, Endless as endless}
pub use Rattle.lp_syntax.specs.declared.tree.Site.{Site}
pub use Rattle.lp_syntax.specs.declared.tree.Site.TheVariants.{ObjectiveFirst as objective_first, ObjectiveMore as objective_more, RowFirst as row_first, RowMore as row_more, Listed as listed, Other as other}

-- a name's bytes
abbrev pub Name : Type 0
Name = List ℕ

-- a token as the grammar sees it; `unfit` has a fault of its own, and stands in no text
pub data Symbol : Type 0 where
  word : Section → Symbol
  name : Name → Symbol
  number : ℕ → Symbol
  infinity : Symbol
  sign : Sign → Symbol
  comparison : Comparison → Symbol
  colon : Symbol
  unfit : LpKind → Symbol

-- signs, perhaps a number, and a variable's name
pub record Term : Type 0 where
  pub signs : List Sign
  pub factor : Option ℕ
  pub variable : Name

-- what an objective adds up: terms and constants
pub data Item : Type 0 where
  term : Term → Item
  constant : Signed → Item

-- a first summand, and further ones with a sign before each
pub record Sum (A : Type 0) : Type 0 where
  pub first : A
  pub more : List (Sign × A)

pub data Row : Type 0 where
  expression_first : Option Name → Sum Term → Comparison → Signed → Row
  number_first : Option Name → Signed → Comparison → Sum Term → Row
  ranged : Option Name → Signed → Direction → Sum Term → Signed → Row

-- `free` has the word as it is written behind the name
pub data Bound : Type 0 where
  value_first : Value → Comparison → Name → Bound
  name_first : Name → Comparison → Value → Bound
  between : Value → Direction → Name → Value → Bound
  free : Name → Name → Bound

pub data Part : Type 0 where
  bounds : List Bound → Part
  generals : List Name → Part
  binaries : List Name → Part

pub record SyntaxTree : Type 0 where
  pub maximises : Bool
  pub label : Option Name
  pub objective : Option (Sum Item)
  pub rows : List Row
  pub parts : List Part

-- the symbols of each

abbrev pub comparison_of : Direction → Comparison
comparison_of upward = at_most
comparison_of downward = at_least

abbrev pub spelled_label : Option Name → List Symbol
spelled_label None = []
spelled_label (Some n) = name n ∷ colon ∷ []

abbrev pub spelled_signs : List Sign → List Symbol
spelled_signs signs = map sign signs

abbrev pub spelled_signed : Signed → List Symbol
spelled_signed v = spelled_signs v.signs ++ (number v.size ∷ [])

abbrev pub spelled_factor : Option ℕ → List Symbol
spelled_factor None = []
spelled_factor (Some n) = number n ∷ []

abbrev pub spelled_term : Term → List Symbol
spelled_term t = spelled_signs t.signs ++ (spelled_factor t.factor ++ (name t.variable ∷ []))

abbrev pub spelled_item : Item → List Symbol
spelled_item (term t) = spelled_term t
spelled_item (constant c) = spelled_signed c

abbrev pub spelled_sum : {A : Type 0} → (A → List Symbol) → Sum A → List Symbol
spelled_sum spelled s = spelled s.first ++ flat_map (λ m. sign m.0 ∷ spelled m.1) s.more

abbrev pub spelled_row : Row → List Symbol
spelled_row (expression_first label e c v) = spelled_label label ++ (spelled_sum spelled_term e ++ (comparison c ∷ spelled_signed v))
spelled_row (number_first label v c e) = spelled_label label ++ (spelled_signed v ++ (comparison c ∷ spelled_sum spelled_term e))
spelled_row (ranged label v d e w) = spelled_label label ++ (spelled_signed v ++ (comparison (comparison_of d) ∷ (spelled_sum spelled_term e ++ (comparison (comparison_of d) ∷ spelled_signed w))))

abbrev pub spelled_value : Value → List Symbol
spelled_value (finite v) = spelled_signed v
spelled_value (endless signs) = spelled_signs signs ++ (infinity ∷ [])

pub record Written : Type 0 where
  pub symbol : Symbol
  pub site : Site

abbrev pub placed : Site → List Symbol → List Written
placed site symbols = map (λ s. record { symbol = s; site = site }) symbols

-- the first symbol in one place, and all others in another
abbrev pub headed : Site → Site → List Symbol → List Written
headed first more [] = []
headed first more (s ∷ symbols) = record { symbol = s; site = first } ∷ placed more symbols

abbrev pub written_objective : SyntaxTree → List Written
written_objective t = headed objective_first objective_more (spelled_label t.label ++ (elim t.objective [ None ↦ [] | Some e ↦ spelled_sum spelled_item e ]))

abbrev pub written_row : Row → List Written
written_row r = headed row_first row_more (spelled_row r)

abbrev pub written_bound : Bound → List Written
written_bound (value_first v c n) = placed other (spelled_value v ++ (comparison c ∷ [])) ++ placed listed (name n ∷ [])
written_bound (name_first n c v) = placed listed (name n ∷ []) ++ placed other (comparison c ∷ spelled_value v)
written_bound (between v d n w) = placed other (spelled_value v ++ (comparison (comparison_of d) ∷ [])) ++ (placed listed (name n ∷ []) ++ placed other (comparison (comparison_of d) ∷ spelled_value w))
written_bound (free n w) = placed listed (name n ∷ []) ++ placed other (name w ∷ [])

abbrev pub written_word : Section → Written
written_word s = record { symbol = word s; site = other }

abbrev pub written_part : Part → List Written
written_part (bounds bs) = written_word Bounds ∷ flat_map written_bound bs
written_part (generals ns) = written_word Generals ∷ placed listed (map name ns)
written_part (binaries ns) = written_word Binaries ∷ placed listed (map name ns)

-- the text of a tree
unfoldable pub written : SyntaxTree → List Written
written t = written_word (if t.maximises then Maximize else Minimize) ∷ (written_objective t
    ++ (written_word Rows ∷ (flat_map written_row t.rows ++ (flat_map written_part t.parts ++ (written_word End ∷ [])))))

unfoldable pub spelling : SyntaxTree → List Symbol
unfolding written
spelling t = map (λ w. w.symbol) (written t)

unfoldable pub sites : SyntaxTree → List Site
unfolding written
sites t = map (λ w. w.site) (written t)

-- An expression goes on as long as a sign follows it: no row begins with a sign behind one that ends with its
-- expression.
abbrev pub begins_signed : Row → Bool
begins_signed r = elim (spelled_row r) [ [] ↦ false | s ∷ symbols ↦ elim s [ sign _ ↦ true | _ ↦ false ] ]

abbrev pub ends_with_expression : Row → Bool
ends_with_expression (number_first label v c e) = true
ends_with_expression _ = false

abbrev pub are_apart : List Row → Bool
are_apart [] = true
are_apart (r ∷ rows) = (elim rows [ [] ↦ true | s ∷ _ ↦ not (ends_with_expression r && begins_signed s) ]) && are_apart rows

-- the word behind a free name is `free`, in any case of letters
abbrev pub is_free : Name → Bool
is_free n = bytes_eq (str_to_ascii_lowercase n) (codes "free")

abbrev pub has_free_word : Bound → Bool
has_free_word (free n w) = is_free w
has_free_word _ = true

abbrev pub part_has_free_words : Part → Bool
part_has_free_words (bounds bs) = list_all has_free_word bs
part_has_free_words _ = true

-- a tree whose spelling is a text of the grammar
unfoldable pub IsText : SyntaxTree → Type 0
IsText t = IsTrue (are_apart t.rows) × IsTrue (list_all part_has_free_words t.parts)

-- these symbols are the front of some text
unfoldable pub BeginsText : List Symbol → Type 0
unfolding IsText spelling
BeginsText symbols = (t : SyntaxTree) × (more : List Symbol) × IsText t × (spelling t ≡ symbols ++ more)
