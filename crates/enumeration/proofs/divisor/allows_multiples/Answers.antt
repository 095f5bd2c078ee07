use Rattle.std.proofs.Common.{List, subst}
use Rattle.bp_theory.specs.declared.Term.{Term}
use Rattle.enumeration.specs.Divisors.{IsGreatestDivisor}
use Rattle.enumeration.proofs.DivisorLaws.{greatest_tells, two_sides_tell}
use Rattle.enumeration.proofs.divisor.allows_multiples.Goals as goal

pub returns-in-Eq : goal.returns-in-Eq
returns-in-Eq c =
    two_sides_tell c.args.row.now c.has_multiple.result c.in-Eq.is
    (greatest_tells c.args.row.now.terms c.divisor_of.result c.args.row.now.low c.args.row.now.rhs c.has_multiple.result (subst (λ (ts : List Term). IsGreatestDivisor ts c.divisor_of.result) c.as_slice.ensures c.divisor_of.ensures) c.has_multiple.ensures)
