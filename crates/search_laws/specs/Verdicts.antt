-- What a leaf's evaluation may answer, and what is done with it.
use Rattle.std.specs.Prelude.{ℕ, List, Option, Some, None, IfSome, ℤ, ◌≤ℤ◌, ◌<ℤ◌, int_lt, if◌then◌else◌, ◌≤◌, [], All}
use Rattle.bp_theory.specs.Limits.{most_prefixes}
use Rattle.std.specs.Int.{int_min}
use Rattle.bp_theory.specs.Program.{Program, IsFeasible, cost}
use Rattle.bp_theory.specs.Blocking.{Blocking}
use Rattle.bp_theory.specs.Bound.{IsBound, IsEndless, spans_of}
use Rattle.bp_theory.specs.Classes.{prefixes}
use Rattle.bp_theory.specs.Trees.{IsSoundSplit}
use Rattle.bp_theory.specs.declared.Picked.TheVariants.{Every}
use Rattle.bp_theory.specs.declared.Span.{Span}
use Rattle.bp_theory.specs.declared.Proof.{Proof}
use Rattle.search_laws.specs.declared.Side.{Side}
use Rattle.search_laws.specs.declared.Next.{Next}
use Rattle.search_laws.specs.declared.Next.TheVariants.{Shut, Fork}
use Rattle.search_laws.specs.declared.Verdict.{Verdict}
use Rattle.search_laws.specs.Grove.{GrowingTree, shut_at, fork_at}
use Rattle.search_laws.specs.GroveFacts.{IsSoundProof, KeepsBound, Settles, IsTimelySplit, best_cost}

-- the cheaper of two costs, where none is dearest
abbrev pub cheaper_cost : Option ℤ → Option ℤ → Option ℤ
cheaper_cost None z = z
cheaper_cost (Some y) None = Some y
cheaper_cost (Some y) (Some z) = Some (int_min y z)

-- the cheaper of the best point and another, the best point of equal ones
abbrev pub better : Program → Option (List ℤ) → Option (List ℤ) → Option (List ℤ)
better p best None = best
better p None (Some x) = Some x
better p (Some y) (Some x) = if int_lt (cost p x) (cost p y) then Some x else Some y

-- a fork that a leaf of this depth, zone and bound allows, where nothing dearer than the best cost is sought
pub record IsFork (b : Blocking) (depth : ℕ) (zone : List Span) (bound : ℤ) (best : Option ℤ) (v : ℕ) (at : ℤ) (proof : Proof) (next : ℤ) : Type 0 where
  pub split : IsSoundSplit zone v at
  pub timely : IsTimelySplit depth zone v at
  pub sound : IsSoundProof b proof
  pub keeps : KeepsBound b zone proof next
  pub no_less : bound ≤ℤ next
  pub below : IfSome best (λ z. next <ℤ z)

-- a leaf is shut by a sound proof that settles its zone against the best cost, or forked
abbrev pub IsNext : Blocking → ℕ → List Span → ℤ → Option ℤ → Next → Type 0
IsNext b depth zone bound best (Shut proof) = IsSoundProof b proof × Settles b best zone proof
IsNext b depth zone bound best (Fork v at proof next) = IsFork b depth zone bound best v at proof next

-- a verdict on a leaf of this depth, zone and bound against a given best cost: a point is feasible and
-- cheaper, and what is done with the leaf is right for the cheaper of the two costs
pub record IsVerdict (p : Program) (b : Blocking) (depth : ℕ) (zone : List Span) (bound : ℤ) (given : Option ℤ) (verdict : Verdict) : Type 0 where
  pub feasible : IfSome verdict.point (IsFeasible p)
  pub cheaper : IfSome verdict.point (λ x. IfSome given (λ z. cost p x <ℤ z))
  pub next : IsNext b depth zone bound (cheaper_cost (best_cost p verdict.point) given) verdict.next

-- the tree where what a verdict says is done with the leaf at a path
abbrev pub grown : GrowingTree → List Side → Next → GrowingTree
grown t path (Shut proof) = shut_at t path proof
grown t path (Fork v at proof bound) = fork_at t path v at proof bound

-- the proof of scale 1 that names no row and picks every block
abbrev pub every_block : Proof
every_block = record { scale = 1; mults = []; picked = Every }

-- no block has more than 1,048,576 prefixes in a zone
abbrev pub HasFewPrefixes : Blocking → List Span → Type 0
HasFewPrefixes b zone = All (λ k. prefixes (spans_of zone k) ≤ most_prefixes) b.blocks

-- where prefixes are few, a fork comes only where each block has a point, and with a bound no less than that of every block's points
abbrev pub IsThorough : Blocking → List Span → Next → Type 0
IsThorough b zone (Shut proof) = Unit {0}
IsThorough b zone (Fork v at proof bound) =
    HasFewPrefixes b zone → (IsEndless b zone every_block → ⊥) × ((w : ℤ) → IsBound b zone every_block w → w ≤ℤ bound)
