-- Common divisors of a row's coefficients, and their multiples between its sides.
use Rattle.std.specs.Int.{◌∣◌}
use Rattle.std.specs.Prelude.{ℕ, unsigned_abs, List, ℤ, pos, ◌*ℤ◌, ◌≤ℤ◌, All}
use Rattle.bp_theory.specs.declared.Term.{Term}
use Rattle.bp_theory.specs.declared.Sense.{Sense}
use Rattle.bp_theory.specs.declared.Sense.TheVariants.{Le, Ge, Eq, In}
use Rattle.bp_theory.specs.declared.Row.{Row}

-- a number divides each coefficient
abbrev pub IsCommonDivisor : ℕ → List Term → Type 0
IsCommonDivisor d terms = All (λ t. d ∣ unsigned_abs t.coef) terms

-- a common divisor that each common divisor divides: 0 where each coefficient is 0
pub record IsGreatestDivisor (terms : List Term) (g : ℕ) : Type 0 where
  pub common : IsCommonDivisor g terms
  pub greatest : (d : ℕ) → IsCommonDivisor d terms → d ∣ g

-- a multiple of a number lies between two sides
pub record HasMultiple (d : ℕ) (low rhs : ℤ) : Type 0 where
  pub factor : ℤ
  pub above : low ≤ℤ (pos d *ℤ factor)
  pub below : (pos d *ℤ factor) ≤ℤ rhs

-- each common divisor of coefficients has a multiple between the two sides of a sense that has two
abbrev pub AllowsMultiples : Sense → List Term → (low rhs : ℤ) → Type 0
AllowsMultiples Le terms low rhs = Unit {0}
AllowsMultiples Ge terms low rhs = Unit {0}
AllowsMultiples Eq terms low rhs = (d : ℕ) → IsCommonDivisor d terms → HasMultiple d low rhs
AllowsMultiples In terms low rhs = (d : ℕ) → IsCommonDivisor d terms → HasMultiple d low rhs

-- each common divisor of a row's coefficients has a multiple between its sides, where it has two
abbrev pub RowAllowsMultiples : Row → Type 0
RowAllowsMultiples row = AllowsMultiples row.sense row.terms row.low row.rhs

-- not each row allows multiples: the two sides of one lie between neighbouring multiples of a common divisor of its coefficients
abbrev pub LackMultiples : List Row → Type 0
LackMultiples rows = All RowAllowsMultiples rows → ⊥
