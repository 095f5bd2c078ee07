-- Cuts that are prices: any objective is at least its Lagrangian bound in the root's spans.
use Rattle.std.specs.Prelude.{List, length, pos, false}
use Rattle.bp_theory.specs.Program.{Program}
use Rattle.bp_theory.specs.Decomposition.{Decomposition, ProofRow, HasVariablesBelow}
use Rattle.bp_theory.specs.Bound.{SignsFit}
use Rattle.bp_theory.specs.Claims.{Holds}
use Rattle.bp_theory.specs.declared.Term.{Term}
use Rattle.bp_theory.specs.declared.Sense.TheVariants.{Ge}
use Rattle.bp_theory.specs.declared.Row.{Row}
use Rattle.stronger_laws.specs.WideRows.{blocking_over}
use Rattle.stronger_laws.specs.declared.PricedCut.{PricedCut}

-- a program with another objective, which is minimised
abbrev pub with_costs : Program → List Term → Program
with_costs p costs = record { spans = p.spans; rows = p.rows; costs = costs; constant = pos 0; maximises = false; limits = p.limits }

-- the row of a priced cut: the objective is at least the side
abbrev pub priced_row : PricedCut → Row
priced_row cut = record { sense = Ge; low = cut.low; rhs = cut.low; terms = cut.objective }

-- a priced cut over rows that proofs may name: its proof shows that no point of the root's spans has less of the
-- objective than the side
pub record IsFittingPriced (p : Program) (d : Decomposition) (rows : List ProofRow) (cut : PricedCut) : Type 0 where
  pub known : HasVariablesBelow (length p.spans) cut.objective
  pub signs : SignsFit (blocking_over (with_costs p cut.objective) d rows) cut.proof
  pub reached : Holds (blocking_over (with_costs p cut.objective) d rows) p.spans cut.proof cut.low
