-- What the answers of a pricer mean.
use Rattle.std.specs.Prelude.{◌≡◌, ℕ, ◌<◌, List, ℤ, ◌≤ℤ◌}
use Rattle.bp_theory.specs.Sums.{dot}
use Rattle.bp_theory.specs.Bound.{IsPoint}
use Rattle.bp_theory.specs.Classes.{prefixes}
use Rattle.bp_theory.specs.declared.Span.{Span}
use Rattle.bp_theory.specs.declared.Row.{Row}
use Rattle.pricing_problem.specs.declared.Cap.{Cap}
use Rattle.pricing_problem.specs.declared.Cap.TheVariants.{Never, At}
use Rattle.pricing_problem.specs.declared.Priced.{Priced}
use Rattle.pricing_problem.specs.declared.Priced.TheVariants.{Least, Nothing, Cut}

-- a point reaches the least cost over the points of rows within spans
pub record IsCheapest (rows : List Row) (spans : List Span) (costs point : List ℤ) (v : ℤ) : Type 0 where
  pub is_point : IsPoint rows spans point
  pub reached : dot costs point ≡ v
  pub least : (y : List ℤ) → IsPoint rows spans y → v ≤ℤ dot costs y

-- no point of the rows lies within the spans
abbrev pub HasNoPoint : List Row → List Span → Type 0
HasNoPoint rows spans = (y : List ℤ) → IsPoint rows spans y → ⊥

-- a cap that the beginnings of assignments exceed
abbrev pub IsExceeded : Cap → List Span → Type 0
IsExceeded Never spans = ⊥
IsExceeded (At n) spans = n < prefixes spans

-- an answer is right: the least cost, which the point reaches; or there is no point; or it was cut, which only an exceeded cap allows
abbrev pub IsPriced : (rows : List Row) (spans : List Span) (costs : List ℤ) → Cap → Priced → (point : List ℤ) → Type 0
IsPriced rows spans costs cap (Least v) point = IsCheapest rows spans costs point v
IsPriced rows spans costs cap Nothing point = HasNoPoint rows spans
IsPriced rows spans costs cap Cut point = IsExceeded cap spans
