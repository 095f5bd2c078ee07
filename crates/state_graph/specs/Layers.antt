-- The layers of a block, and which numbers complete a state.
use Rattle.std.specs.Prelude.{◌≡◌, ℕ, ◌<◌, List, [], ◌∷◌, map, length, slice_index_or, ℤ, pos, ◌+ℤ◌, ◌*ℤ◌, All}
use Rattle.std.specs.Int.{int_min, int_max}
use Rattle.bp_theory.specs.Program.{span_at, activity, IsWithin, IsInside}
use Rattle.bp_theory.specs.declared.Sense.{Sense}
use Rattle.bp_theory.specs.declared.Sense.TheVariants.{Le, Ge, Eq, In}
use Rattle.bp_theory.specs.declared.Row.{Row}
use Rattle.bp_theory.specs.declared.Span.{Span}
use Rattle.state_graph.specs.Windows.{coef_of, twin_at}
use Rattle.state_graph.specs.declared.layers.Layer.{Layer}

-- the root spans of layers
abbrev pub spans_in : List Layer → List Span
spans_in layers = map (λ (l : Layer). l.span) layers

-- what numbers of the layers' variables add to a row
abbrev pub row_sum : List Layer → ℕ → List ℤ → ℤ
row_sum [] row ys = pos 0
row_sum (l ∷ ls) row [] = pos 0
row_sum (l ∷ ls) row (y ∷ ys) = coef_of l.column row *ℤ y +ℤ row_sum ls row ys

-- numbers of the layers' variables, within their spans, bring each row into its window
pub record IsCompletion (layers : List Layer) (state : List Span) (ys : List ℤ) : Type 0 where
  pub inside : IsInside (spans_in layers) ys
  pub meets : (row : ℕ) → row < length state → IsWithin (span_at state row) (row_sum layers row ys)

-- all that numbers of the layers' variables can add to rows lies within hulls
abbrev pub AreHulls : List Layer → List Span → Type 0
AreHulls layers hulls = (row : ℕ) (ys : List ℤ) → row < length hulls → IsInside (spans_in layers) ys → IsWithin (span_at hulls row) (row_sum layers row ys)

-- hulls to which nothing can be added
abbrev pub AreBare : List Span → Type 0
AreBare hulls = (row : ℕ) → row < length hulls → span_at hulls row ≡ record { lo = pos 0; hi = pos 0 }

-- behind the last layer nothing can be added
abbrev pub AreClosed : List Layer → List Span → Type 0
AreClosed [] hulls = AreBare hulls
AreClosed (l ∷ ls) hulls = Unit {0}

-- rows whose sums over the layers' variables are those of other rows
pub record AreTwins (layers : List Layer) (twins : List ℕ) : Type 0 where
  pub below : (row : ℕ) → row < length twins → twin_at twins row < length twins
  pub same : (row : ℕ) (ys : List ℤ) → row < length twins → row_sum layers (twin_at twins row) ys ≡ row_sum layers row ys

-- a layer has a coefficient, a hull and a twin for each row
pub record IsShaped (rows : ℕ) (l : Layer) : Type 0 where
  pub column : length l.column ≡ rows
  pub hulls : length l.hulls ≡ rows
  pub twins : length l.twins ≡ rows
  pub below : All (λ twin. twin < rows) l.twins

-- each layer is shaped, and has the hulls and twins of those behind it, which are none behind the last
abbrev pub AreLayers : (rows : ℕ) → List Layer → Type 0
AreLayers rows [] = Unit {0}
AreLayers rows (l ∷ ls) = IsShaped rows l × AreHulls ls l.hulls × AreTwins ls l.twins × AreLayers rows ls × AreClosed ls l.hulls

-- the lower side of a row where it has one, within a hull
abbrev pub lower_side : Sense → (low least : ℤ) → ℤ
lower_side Le low least = least
lower_side Ge low least = int_max low least
lower_side Eq low least = int_max low least
lower_side In low least = int_max low least

-- the upper side
abbrev pub upper_side : Sense → (rhs most : ℤ) → ℤ
upper_side Le rhs most = int_min rhs most
upper_side Ge rhs most = most
upper_side Eq rhs most = int_min rhs most
upper_side In rhs most = int_min rhs most

-- the sums between which a row is met, within a hull
abbrev pub window_in : Row → (hull : Span) → Span
window_in row hull = record { lo = lower_side row.sense row.low hull.lo; hi = upper_side row.sense row.rhs hull.hi }

-- layers and hulls of a block
pub record AreLayersOf (rows : List Row) (spans : List Span) (layers : List Layer) (hulls : List Span) : Type 0 where
  pub spans_are : spans_in layers ≡ spans
  pub layered : AreLayers (length rows) layers
  pub each : length hulls ≡ length rows
  pub are_hulls : AreHulls layers hulls
  pub sums : (row : ℕ) (d : Row) (ys : List ℤ) → row < length rows → IsInside spans ys → row_sum layers row ys ≡ activity (slice_index_or rows row d).terms ys

-- the windows of a root
pub record IsRoot (rows : List Row) (hulls windows : List Span) : Type 0 where
  pub each : length windows ≡ length rows
  pub windows_are : (row : ℕ) (d : Row) → row < length rows → span_at windows row ≡ window_in (slice_index_or rows row d) (span_at hulls row)
