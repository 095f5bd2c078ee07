-- A tree that was read: its numbers are those of texts, and its names are in the list of variables.
use Rattle.std.specs.Prelude.{ℕ, ◌<◌, List, MatchOption, All, Contains}
use Rattle.bp_theory.specs.Limits.{number_limit}
use Rattle.lp_syntax.specs.declared.tree.TextRange.{TextRange}
use Rattle.lp_syntax.specs.declared.tree.Signed.{Signed}
use Rattle.lp_syntax.specs.declared.tree.Term.{Term}
use Rattle.lp_syntax.specs.declared.tree.Item.{Item}
use Rattle.lp_syntax.specs.declared.tree.Item.TheVariants as items
use Rattle.lp_syntax.specs.declared.tree.Sum.{Sum}
use Rattle.lp_syntax.specs.declared.tree.Row.{Row}
use Rattle.lp_syntax.specs.declared.tree.Row.TheVariants as rows
use Rattle.lp_syntax.specs.declared.tree.Value.{Value}
use Rattle.lp_syntax.specs.declared.tree.Value.TheVariants as values
use Rattle.lp_syntax.specs.declared.tree.Bound.{Bound}
use Rattle.lp_syntax.specs.declared.tree.Bound.TheVariants as bounds
use Rattle.lp_syntax.specs.declared.tree.Part.{Part}
use Rattle.lp_syntax.specs.declared.tree.Part.TheVariants as parts
use Rattle.lp_syntax.specs.declared.tree.Tree.{Tree}
use Rattle.lp_syntax.specs.Tree.{Name}
use Rattle.lp_syntax.specs.TreeIn.{name_in}

-- the name at a place is in a list
abbrev pub IsKnown : List ℕ → List Name → TextRange → Type 0
IsKnown text names place = Contains names (name_in text place)

abbrev pub IsSmall : Signed → Type 0
IsSmall v = v.size < number_limit

pub record IsFitTerm (text : List ℕ) (names : List Name) (t : Term) : Type 0 where
  pub small : MatchOption t.factor (Unit {0}) (λ n. n < number_limit)
  pub known : IsKnown text names t.variable

abbrev pub IsFitItem : List ℕ → List Name → Item → Type 0
IsFitItem text names (items.Term t) = IsFitTerm text names t
IsFitItem text names (items.Constant c) = IsSmall c

pub record IsFitSum {A : Type 0} (P : A → Type 0) (e : Sum A) : Type 0 where
  pub first : P e.first
  pub more : All (λ m. P m.1) e.more

abbrev pub IsFitRow : List ℕ → List Name → Row → Type 0
IsFitRow text names (rows.ExpressionFirst label e c v) = IsFitSum (IsFitTerm text names) e × IsSmall v
IsFitRow text names (rows.NumberFirst label v c e) = IsFitSum (IsFitTerm text names) e × IsSmall v
IsFitRow text names (rows.Ranged label v d e w) = IsFitSum (IsFitTerm text names) e × IsSmall v × IsSmall w

abbrev pub IsFitValue : Value → Type 0
IsFitValue (values.Finite v) = IsSmall v
IsFitValue (values.Endless signs) = Unit {0}

abbrev pub IsFitBound : List ℕ → List Name → Bound → Type 0
IsFitBound text names (bounds.ValueFirst v c n) = IsFitValue v × IsKnown text names n
IsFitBound text names (bounds.NameFirst n c v) = IsFitValue v × IsKnown text names n
IsFitBound text names (bounds.Between v d n w) = IsFitValue v × IsFitValue w × IsKnown text names n
IsFitBound text names (bounds.Free n w) = IsKnown text names n

abbrev pub IsFitPart : List ℕ → List Name → Part → Type 0
IsFitPart text names (parts.Bounds bs) = All (IsFitBound text names) bs
IsFitPart text names (parts.Generals ns) = All (IsKnown text names) ns
IsFitPart text names (parts.Binaries ns) = All (IsKnown text names) ns

pub record IsFitTree (text : List ℕ) (names : List Name) (t : Tree) : Type 0 where
  pub objective : MatchOption t.objective (Unit {0}) (IsFitSum (IsFitItem text names))
  pub rows : All (IsFitRow text names) t.rows
  pub parts : All (IsFitPart text names) t.parts
