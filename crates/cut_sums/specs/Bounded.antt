-- Rows from their coefficients, and what they are refused for.
use Rattle.std.specs.Prelude.{◌≡◌, ℤ, ◌+ℤ◌, List}
use Rattle.bp_theory.specs.Program.{Program, KeepsActivity}
use Rattle.bp_theory.specs.declared.Sense.TheVariants.{Ge}
use Rattle.bp_theory.specs.declared.Term.{Term}
use Rattle.bp_theory.specs.declared.Row.{Row}
use Rattle.cut_sums.specs.Rows.{low_activity}
use Rattle.cut_sums.specs.declared.fault.CutFault.{CutFault}
use Rattle.cut_sums.specs.declared.fault.CutFault.TheVariants.{Sign, Large, NoMemory}

-- the at least row of terms whose side is a number more than their sum at the lower ends of the spans
abbrev pub row_from : Program → ℤ → List Term → Row
row_from p above terms = record {
  sense = Ge;
  low = above +ℤ low_activity p.spans terms;
  rhs = above +ℤ low_activity p.spans terms;
  terms = terms;
}

-- a row is that of terms, and its sums keep the limit
pub record IsRowFrom (p : Program) (above : ℤ) (terms : List Term) (row : Row) : Type 0 where
  pub is : row ≡ row_from p above terms
  pub kept : KeepsActivity p row

-- what a row is refused for: its sums may leave 62 bits
abbrev pub HasRowFault : Program → Row → CutFault → Type 0
HasRowFault p row Sign = ⊥
HasRowFault p row Large = KeepsActivity p row → ⊥
HasRowFault p row NoMemory = Unit {0}
