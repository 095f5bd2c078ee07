-- What rows can reach in a zone.
use Rattle.std.specs.Prelude.{◌≡◌, ℕ, ◌⊎◌, List, map, ℤ, ◌≤ℤ◌}
use Rattle.bp_theory.specs.Sums.{sum_of}
use Rattle.bp_theory.specs.Program.{span_at}
use Rattle.bp_theory.specs.Bound.{end_cost}
use Rattle.bp_theory.specs.Trees.{IsSubzone}
use Rattle.bp_theory.specs.declared.Span.{Span}
use Rattle.bp_theory.specs.declared.Term.{Term}
use Rattle.bp_theory.specs.declared.Sense.{Sense}
use Rattle.bp_theory.specs.declared.Sense.TheVariants.{Le, Ge, Eq, In}
use Rattle.bp_theory.specs.declared.Row.{Row}
use Rattle.pricing_problem.specs.Ends.{top_cost}
use Rattle.enumeration.specs.Orders.{StandsFrom}

-- the sum of one end's product for each term
abbrev pub reach_by : (Span → ℤ → ℤ) → List Span → List Term → ℤ
reach_by f zone terms = sum_of (λ t. f (span_at zone t.var) t.coef) terms

-- the least that a row's terms can add up to in a zone
abbrev pub low_reach : List Span → List Term → ℤ
low_reach zone terms = reach_by end_cost zone terms

-- the greatest
abbrev pub high_reach : List Span → List Term → ℤ
high_reach zone terms = reach_by top_cost zone terms

-- a sum between these two can still meet a sense with its sides
abbrev pub CanMeet : Sense → (low rhs least most : ℤ) → Type 0
CanMeet Le low rhs least most = least ≤ℤ rhs
CanMeet Ge low rhs least most = low ≤ℤ most
CanMeet Eq low rhs least most = (low ≤ℤ most) × (least ≤ℤ rhs)
CanMeet In low rhs least most = (low ≤ℤ most) × (least ≤ℤ rhs)

-- a row can still be met in a zone
abbrev pub CanMeetRow : List Span → Row → Type 0
CanMeetRow zone row = CanMeet row.sense row.low row.rhs (low_reach zone row.terms) (high_reach zone row.terms)

-- a place has one number, or it stands in an order from a level on and has all of its numbers
abbrev pub IsFixedOrWhole : (order : List ℕ) (level : ℕ) (zone narrow : List Span) → ℕ → Type 0
IsFixedOrWhole order level zone narrow k =
    ((span_at narrow k).lo ≡ (span_at narrow k).hi) ⊎ (StandsFrom order level k × (span_at narrow k ≡ span_at zone k))

-- a zone within another, in which the places that an order has from a level on have all of their numbers, or one, and each other one has one
pub record IsNarrowed (zone : List Span) (order : List ℕ) (level : ℕ) (narrow : List Span) : Type 0 where
  pub inside : IsSubzone narrow zone
  pub each : (k : ℕ) → IsFixedOrWhole order level zone narrow k

-- the lower ends of spans
abbrev pub lows_of : List Span → List ℤ
lows_of zone = map (λ (s : Span). s.lo) zone

-- each span has one number
abbrev pub IsSingle : List Span → Type 0
IsSingle zone = (k : ℕ) → (span_at zone k).lo ≡ (span_at zone k).hi
