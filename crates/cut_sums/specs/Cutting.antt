-- What a rounding cut is made of, and what it is refused for.
use Rattle.std.specs.Prelude.{◌≡◌, ◌<◌, List, length, All, slice_index_or}
use Rattle.bp_theory.specs.Program.{Program, KeepsActivity}
use Rattle.bp_theory.specs.Decomposition.{ProofRow, whole_row, link_row, no_row, HasVariablesBelow, IsTidyFrom}
use Rattle.bp_theory.specs.Cuts.{CombinesWell, cut_row}
use Rattle.bp_theory.specs.declared.Sense.TheVariants.{Ge}
use Rattle.bp_theory.specs.declared.Row.{Row}
use Rattle.bp_theory.specs.declared.Cut.{Cut}
use Rattle.block_program.specs.Cuts.{IsSmallCut}
use Rattle.cut_sums.specs.declared.fault.CutFault.{CutFault}
use Rattle.cut_sums.specs.declared.fault.CutFault.TheVariants.{Sign, Large, NoMemory}

-- the row of an earlier cut: an at least row of the program's variables, in order and without zeros, whose sums keep the limit
pub record IsEarlierCut (p : Program) (row : Row) : Type 0 where
  pub sense : row.sense ≡ Ge
  pub same : row.rhs ≡ row.low
  pub below : HasVariablesBelow (length p.spans) row.terms
  pub tidy : IsTidyFrom 0 row.terms
  pub bounded : KeepsActivity p row

-- a row that cuts may combine: a master row or an earlier cut, and no link row
abbrev pub IsWhole : ProofRow → Type 0
IsWhole (whole_row row) = Unit {0}
IsWhole (link_row v k) = ⊥
IsWhole no_row = ⊥

-- a cut over rows that proofs may name: it has a divisor, keeps the limits, and combines master rows and earlier cuts alone, each once and in order
pub record IsCutOver (rows : List ProofRow) (cut : Cut) : Type 0 where
  pub divides : 0 < cut.q
  pub small : IsSmallCut cut
  pub whole : All (λ m. IsWhole (slice_index_or rows m.0 no_row)) cut.rows

-- each multiplier's sign fits its row
abbrev pub HasFittingSigns : List ProofRow → Cut → Type 0
HasFittingSigns rows cut = All (λ m. CombinesWell (slice_index_or rows m.0 no_row) m.1) cut.rows

-- what a cut is refused for: a sign that doesn't fit its row, and else a row whose sums may leave 62 bits
abbrev pub HasCutFault : Program → List ProofRow → Cut → CutFault → Type 0
HasCutFault p rows cut Sign = HasFittingSigns rows cut → ⊥
HasCutFault p rows cut Large = HasFittingSigns rows cut × (KeepsActivity p (cut_row p rows cut) → ⊥)
HasCutFault p rows cut NoMemory = Unit {0}
