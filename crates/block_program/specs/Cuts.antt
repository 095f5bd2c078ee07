-- What cuts keep.
use Rattle.std.specs.Prelude.{◌≡◌, ◌≢◌, ◌≤◌, List, [], map, length, unsigned_abs, ℤ, pos, All}
use Rattle.std.specs.List.Sorted.{IsStrictlyIncreasing}
use Rattle.bp_theory.specs.Limits.{most_cuts, greatest_divisor}
use Rattle.bp_theory.specs.Program.{Program, KeepsActivity}
use Rattle.bp_theory.specs.Decomposition.{Decomposition, HasVariablesBelow, IsTidyFrom}
use Rattle.bp_theory.specs.Cuts.{cut_rows, AreFitting}
use Rattle.bp_theory.specs.declared.Row.{Row}
use Rattle.bp_theory.specs.declared.Cut.{Cut}

-- a cut keeps the limits, and names each row once and in order
pub record IsSmallCut (cut : Cut) : Type 0 where
  pub divisor : cut.q ≤ greatest_divisor
  pub sizes : All (λ m. unsigned_abs m.1 ≤ greatest_divisor) cut.rows
  pub nonzero : All (λ m. m.1 ≢ pos 0) cut.rows
  pub ascend : IsStrictlyIncreasing (map (λ m. m.0) cut.rows)

-- cuts are few and small, each over master rows and earlier ones, and their rows' sums keep the limit
pub record KeepsCuts (p : Program) (d : Decomposition) (cuts : List Cut) : Type 0 where
  pub few : length cuts ≤ most_cuts
  pub small : All IsSmallCut cuts
  pub fitting : AreFitting p d [] cuts
  pub bounded : All (KeepsActivity p) (cut_rows p d [] cuts)

-- rows of cuts: few, in order of the program's variables and without zeros
pub record AreCutRows (p : Program) (rows : List Row) : Type 0 where
  pub few : length rows ≤ most_cuts
  pub below : All (λ row. HasVariablesBelow (length p.spans) row.terms) rows
  pub tidy : All (λ row. IsTidyFrom 0 row.terms) rows
