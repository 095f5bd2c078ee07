-- The named program that a text means: the model of its tree, with terms in place of rows of coefficients.
use Rattle.std.specs.Prelude.{◌≡◌, ℕ, List, ℤ, pos, slice_index_or}
use Rattle.bp_theory.specs.declared.Limits.{Limits}
use Rattle.std.specs.List.{AllZip}
use Rattle.bp_theory.specs.Program.{coefficient}
use Rattle.bp_theory.specs.Decomposition.{IsTidyFrom}
use Rattle.bp_theory.specs.declared.Term.{Term}
use Rattle.bp_theory.specs.declared.Row.{Row}
use Rattle.bp_model.specs.Named.{NamedProgram}
use Rattle.lp_semantics.specs.Meaning.{TextModel, ModelRow}
use Rattle.lp_semantics.specs.Reading.{ReadsModel, HasLpTextFault}
use Rattle.lp_token.specs.declared.fault.LpFault.{LpFault}
use Rattle.lp_token.specs.declared.fault.LpFault.TheVariants.{At, NoMemory}

-- terms give these coefficients: in order of variables and without zeros
pub record HasCoefficients (coefficients : List ℤ) (terms : List Term) : Type 0 where
  pub tidy : IsTidyFrom 0 terms
  pub each : (v : ℕ) → coefficient terms v ≡ slice_index_or coefficients v (pos 0)

-- a row of a program is a row of a meaning
pub record IsRowOf (meant : ModelRow) (row : Row) : Type 0 where
  pub sense : row.sense ≡ meant.sense
  pub low : row.low ≡ meant.low
  pub rhs : row.rhs ≡ meant.rhs
  pub terms : HasCoefficients meant.coefficients row.terms

-- a named program is a meaning's
pub record IsProgramOf (meant : TextModel) (m : NamedProgram) : Type 0 where
  pub names : m.names ≡ meant.names
  pub spans : m.program.spans ≡ meant.spans
  pub row_names : m.row_names ≡ meant.row_names
  pub rows : AllZip IsRowOf meant.rows m.program.rows
  pub costs : HasCoefficients meant.costs m.program.costs
  pub constant : m.program.constant ≡ meant.constant
  pub maximises : m.program.maximises ≡ meant.maximises

-- under limits, a text means a named program, which has them
abbrev pub Means : Limits → List ℕ → NamedProgram → Type 0
Means limits text m = (meant : TextModel) × ReadsModel limits text meant × IsProgramOf meant m × (m.program.limits ≡ limits)

-- the fault that a text is refused for is its first one, or want of memory
abbrev pub IsFaultOf : Limits → List ℕ → LpFault → Type 0
IsFaultOf limits text (At line kind) = HasLpTextFault limits text line kind
IsFaultOf limits text NoMemory = Unit {0}
