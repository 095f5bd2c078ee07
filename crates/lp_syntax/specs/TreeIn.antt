-- The syntax that a reader keeps, as that of its text: each place is the name that stands there.
use Rattle.std.specs.Prelude.{◌≡◌, ℕ, List, map, Option, slice_range, IsTrue}
use Rattle.std.specs.Option.{option_map}
use Rattle.lp_syntax.specs.declared.tree.TextRange.{TextRange}
use Rattle.lp_syntax.specs.declared.tree.Term.{Term}
use Rattle.lp_syntax.specs.declared.tree.Item.{Item}
use Rattle.lp_syntax.specs.declared.tree.Item.TheVariants as items
use Rattle.lp_syntax.specs.declared.tree.Sum.{Sum}
use Rattle.lp_syntax.specs.declared.tree.Row.{Row}
use Rattle.lp_syntax.specs.declared.tree.Row.TheVariants as rows
use Rattle.lp_syntax.specs.declared.tree.Bound.{Bound}
use Rattle.lp_syntax.specs.declared.tree.Bound.TheVariants as bounds
use Rattle.lp_syntax.specs.declared.tree.Part.{Part}
use Rattle.lp_syntax.specs.declared.tree.Part.TheVariants as parts
use Rattle.lp_syntax.specs.declared.tree.Tree.{Tree}
use Rattle.lp_syntax.specs.declared.symbol.Symbol.{Symbol}
use Rattle.lp_syntax.specs.declared.symbol.Symbol.TheVariants as symbols
use Rattle.lp_token.specs.declared.Tok.{Tok}
use Rattle.lp_token.specs.declared.TokKind.TheVariants as kinds
use Rattle.lp_token.specs.Lexeme.{is_name}
use Rattle.lp_syntax.specs.Tree as plain
use Rattle.lp_syntax.specs.Tree.{Name}

-- the name at a place
abbrev pub name_in : List ℕ → TextRange → Name
name_in text place = slice_range text place.from place.to

abbrev pub label_in : List ℕ → Option TextRange → Option Name
label_in text label = option_map (name_in text) label

abbrev pub term_in : List ℕ → Term → plain.Term
term_in text t = record { signs = t.signs; factor = t.factor; variable = name_in text t.variable }

abbrev pub item_in : List ℕ → Item → plain.Item
item_in text (items.Term t) = plain.term (term_in text t)
item_in text (items.Constant c) = plain.constant c

abbrev pub sum_in : {A B : Type 0} → (A → B) → Sum A → plain.Sum B
sum_in f s = record { first = f s.first; more = map (λ m. (m.0, f m.1)) s.more }

abbrev pub row_in : List ℕ → Row → plain.Row
row_in text (rows.ExpressionFirst label e c v) = plain.expression_first (label_in text label) (sum_in (term_in text) e) c v
row_in text (rows.NumberFirst label v c e) = plain.number_first (label_in text label) v c (sum_in (term_in text) e)
row_in text (rows.Ranged label v d e w) = plain.ranged (label_in text label) v d (sum_in (term_in text) e) w

abbrev pub bound_in : List ℕ → Bound → plain.Bound
bound_in text (bounds.ValueFirst v c n) = plain.value_first v c (name_in text n)
bound_in text (bounds.NameFirst n c v) = plain.name_first (name_in text n) c v
bound_in text (bounds.Between v d n w) = plain.between v d (name_in text n) w
bound_in text (bounds.Free n w) = plain.free (name_in text n) (name_in text w)

abbrev pub part_in : List ℕ → Part → plain.Part
part_in text (parts.Bounds bs) = plain.bounds (map (bound_in text) bs)
part_in text (parts.Generals ns) = plain.generals (map (name_in text) ns)
part_in text (parts.Binaries ns) = plain.binaries (map (name_in text) ns)

-- the tree of a text
abbrev pub tree_in : List ℕ → Tree → plain.SyntaxTree
tree_in text t = record {
  maximises = t.maximises;
  label = label_in text t.label;
  objective = option_map (sum_in (item_in text)) t.objective;
  rows = map (row_in text) t.rows;
  parts = map (part_in text) t.parts;
}

-- a symbol of a text
abbrev pub symbol_in : List ℕ → Symbol → plain.Symbol
symbol_in text (symbols.Word section) = plain.word section
symbol_in text (symbols.Name place) = plain.name (name_in text place)
symbol_in text (symbols.Number n) = plain.number n
symbol_in text symbols.Infinity = plain.infinity
symbol_in text (symbols.Sign s) = plain.sign s
symbol_in text (symbols.Comparison c) = plain.comparison c
symbol_in text symbols.Colon = plain.colon
symbol_in text (symbols.Unfit kind) = plain.unfit kind

-- the symbol behind, if there is one
abbrev pub next_in : List ℕ → Option Symbol → Option plain.Symbol
next_in text next = option_map (symbol_in text) next

-- the bytes at a symbol's place are a name
abbrev pub IsNamed : List ℕ → Symbol → Type 0
IsNamed text (symbols.Name place) = IsTrue (is_name (name_in text place))
IsNamed text _ = Unit {0}

-- a name that is a symbol is its token's
abbrev pub IsNameOf : Tok → Symbol → Type 0
IsNameOf token (symbols.Name place) = (token.kind ≡ kinds.Name) × (place.from ≡ token.from) × (place.to ≡ token.to)
IsNameOf token _ = Unit {0}

abbrev pub IsNameAt : TextRange → Symbol → Type 0
IsNameAt place (symbols.Name found) = found ≡ place
IsNameAt place _ = Unit {0}

abbrev pub IsNoName : Symbol → Type 0
IsNoName (symbols.Name place) = ⊥
IsNoName _ = Unit {0}
