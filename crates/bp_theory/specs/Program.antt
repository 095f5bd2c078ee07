-- Bounded integer programs: spans, rows, points and costs.
use Rattle.std.specs.Prelude.{ℕ, ◌+◌, ◌*◌, ◌^◌, ◌<◌, max, unsigned_abs, sum_by, Bool, List, ℤ, pos, neg_ℤ, ◌+ℤ◌, ◌*ℤ◌, ◌≤ℤ◌, if◌then◌else◌, slice_index_or, All}
use Rattle.bp_theory.specs.Limits.{number_limit}
use Rattle.std.specs.List.{AllZip}
use Rattle.bp_theory.specs.Sums.{sum_of, sum_at}
use Rattle.bp_theory.specs.declared.Limits.{Limits}
use Rattle.bp_theory.specs.declared.Span.{Span}
use Rattle.bp_theory.specs.declared.Term.{Term}
use Rattle.bp_theory.specs.declared.Sense.{Sense}
use Rattle.bp_theory.specs.declared.Sense.TheVariants.{Le, Ge, Eq, In}
use Rattle.bp_theory.specs.declared.Row.{Row}

-- an integer program in minimised form, and the limits under which it was read
pub record Program : Type 0 where
  pub spans : List Span
  pub rows : List Row
  pub costs : List Term
  pub constant : ℤ
  pub maximises : Bool
  pub limits : Limits

-- the number that a point gives a variable, 0 where it has none
abbrev pub value_at : List ℤ → ℕ → ℤ
value_at x v = slice_index_or x v (pos 0)

-- the plain sum of coefficient times number
abbrev pub activity : List Term → List ℤ → ℤ
activity terms x = sum_of (λ t. t.coef *ℤ value_at x t.var) terms

-- the coefficient of a variable
abbrev pub coefficient : List Term → ℕ → ℤ
coefficient terms v = sum_at (λ t. t.var) (λ t. t.coef) terms v

-- the span of a variable in a zone
abbrev pub span_at : List Span → ℕ → Span
span_at zone v = slice_index_or zone v (record { lo = pos 0; hi = pos 0 })

-- a number lies within a span
pub record IsWithin (s : Span) (v : ℤ) : Type 0 where
  pub above : s.lo ≤ℤ v
  pub below : v ≤ℤ s.hi

-- one number for each span, each within its span
abbrev pub IsInside : List Span → List ℤ → Type 0
IsInside spans x = AllZip IsWithin spans x

-- a sum meets a sense with its two sides, of which `Le` has the upper and `Ge` the lower alone
abbrev pub Meets : Sense → (low rhs sum : ℤ) → Type 0
Meets Le low rhs sum = sum ≤ℤ rhs
Meets Ge low rhs sum = low ≤ℤ sum
Meets Eq low rhs sum = (low ≤ℤ sum) × (sum ≤ℤ rhs)
Meets In low rhs sum = (low ≤ℤ sum) × (sum ≤ℤ rhs)

-- a point meets a row
abbrev pub MeetsRow : List ℤ → Row → Type 0
MeetsRow x row = Meets row.sense row.low row.rhs (activity row.terms x)

-- a point has one number for each variable, each within its span, and meets each row
pub record IsFeasible (p : Program) (x : List ℤ) : Type 0 where
  pub inside : IsInside p.spans x
  pub rows : All (MeetsRow x) p.rows

-- the objective with its constant, in minimised form
abbrev pub cost : Program → List ℤ → ℤ
cost p x = p.constant +ℤ activity p.costs x

-- a value in the text's own sense as a cost, and a cost as a value
abbrev pub in_sense : Bool → ℤ → ℤ
in_sense maximises v = if maximises then neg_ℤ v else v

-- the objective in the text's own sense
abbrev pub value : Program → List ℤ → ℤ
value p x = in_sense p.maximises (cost p x)

-- a feasible point that no feasible point betters
pub record IsBest (p : Program) (x : List ℤ) : Type 0 where
  pub feasible : IsFeasible p x
  pub least : (y : List ℤ) → IsFeasible p y → cost p x ≤ℤ cost p y

-- the greatest magnitude of a span's numbers, at least 1
abbrev pub reach : Span → ℕ
reach s = max 1 (max (unsigned_abs s.lo) (unsigned_abs s.hi))

-- the greatest magnitude of a row's sides together with that of its sums
abbrev pub activity_limit : Program → Row → ℕ
activity_limit p row =
    max (unsigned_abs row.low) (unsigned_abs row.rhs) + sum_by (λ t. unsigned_abs t.coef * reach (span_at p.spans t.var)) row.terms

-- a row's sums stay below 2 to the 62
abbrev pub KeepsActivity : Program → Row → Type 0
KeepsActivity p row = activity_limit p row < number_limit
