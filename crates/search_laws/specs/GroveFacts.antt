-- What a growing tree keeps at every moment of a search.
use Rattle.std.specs.Prelude.{ℕ, zero, suc, ◌+◌, ◌/◌, ◌^◌, ◌<◌, ◌≤◌, ◌≡◌, List, ◌++◌, length, Option, Some, None, option_map, option_to_list, IfSome, ℤ, pos, ◌+ℤ◌, ◌≤ℤ◌, unsigned_abs, sum_by, All, Contains}
use Rattle.bp_theory.specs.Limits.{greatest_depth, most_digits, number_limit}
use Rattle.std.specs.Int.{int_gap}
use Rattle.bp_theory.specs.Program.{Program, IsFeasible, cost, span_at}
use Rattle.bp_theory.specs.Blocking.{Blocking}
use Rattle.bp_theory.specs.Bound.{SignsFit, Fits}
use Rattle.bp_theory.specs.Trees.{HasSoundSplits, IsProper}
use Rattle.bp_theory.specs.Claims.{Holds, Empties}
use Rattle.bp_theory.specs.declared.Limits.{Limits}
use Rattle.bp_theory.specs.declared.Span.{Span}
use Rattle.bp_theory.specs.declared.Proof.{Proof}
use Rattle.bp_theory.specs.Digits.{binary_digits, span_bits, zone_bits, middle}
use Rattle.search_laws.specs.Grove.{GrowingTree, GrowingLeaf, growing_leaves, certificate_tree, live_bounds}

-- a proof fits and has fitting signs
pub record IsSoundProof (b : Blocking) (proof : Proof) : Type 0 where
  pub fits : Fits b proof
  pub signs : SignsFit b proof

-- a live leaf's proof has a positive scale and holds in its zone for its bound, which is below 2 to the 62 in magnitude
pub record KeepsBound (b : Blocking) (zone : List Span) (proof : Proof) (bound : ℤ) : Type 0 where
  pub scale : 0 < proof.scale
  pub holds : Holds b zone proof bound
  pub size : unsigned_abs bound < number_limit

-- what each leaf keeps: a sound proof, and a live leaf its bound
pub record IsKept (b : Blocking) (leaf : GrowingLeaf) : Type 0 where
  pub sound : IsSoundProof b leaf.proof
  pub bound : IfSome leaf.bound (KeepsBound b leaf.zone leaf.proof)

-- the facts of a growing tree: its splits are sound, and each leaf keeps its own
pub record IsGrove (b : Blocking) (zone : List Span) (t : GrowingTree) : Type 0 where
  pub splits : HasSoundSplits (certificate_tree t) zone
  pub leaves : All (IsKept b) (growing_leaves t zone)

-- a proof settles a zone against the best cost: it holds for it, or where there is none it empties the zone
abbrev pub Settles : Blocking → Option ℤ → List Span → Proof → Type 0
Settles b None zone proof = Empties b zone proof
Settles b (Some z) zone proof = Holds b zone proof z

-- a leaf, if it is shut, is settled against the best cost
abbrev pub SettlesIfShut : Blocking → Option ℤ → List Span → Proof → Option ℤ → Type 0
SettlesIfShut b best zone proof None = Settles b best zone proof
SettlesIfShut b best zone proof (Some bound) = Unit {0}

-- a shut leaf is settled against the best cost
abbrev pub IsSettled : Blocking → Option ℤ → GrowingLeaf → Type 0
IsSettled b best leaf = SettlesIfShut b best leaf.zone leaf.proof leaf.bound

-- a leaf's depth, and at a live leaf the bits of its zone with it, stay at most the greatest depth of the limits
abbrev pub KeepsDepth : Limits → ℕ → List Span → Option ℤ → Type 0
KeepsDepth limits depth zone None = depth ≤ greatest_depth limits
KeepsDepth limits depth zone (Some bound) = depth + zone_bits zone ≤ greatest_depth limits

-- a leaf is not too deep for the limits
abbrev pub IsShallow : Limits → GrowingLeaf → Type 0
IsShallow limits leaf = KeepsDepth limits (length leaf.path) leaf.zone leaf.bound

-- a split that the depth allows: from depth 64 on it is at the middle
abbrev pub IsTimelySplit : ℕ → List Span → ℕ → ℤ → Type 0
IsTimelySplit depth zone v at = 64 ≤ depth → at ≡ middle (span_at zone v)

-- the cost of the best point, where there is one
abbrev pub best_cost : Program → Option (List ℤ) → Option ℤ
best_cost p best = option_map (cost p) best

-- a best cost is no dearer than another, where none counts as dearest
abbrev pub IsNoDearer : Option ℤ → Option ℤ → Type 0
IsNoDearer y None = Unit {0}
IsNoDearer None (Some z) = ⊥
IsNoDearer (Some y) (Some z) = y ≤ℤ z

-- a program's spans have numbers, and together no more bits than its limits allow
pub record IsSized (p : Program) : Type 0 where
  pub proper : IsProper p.spans
  pub bits : zone_bits p.spans ≤ most_digits p.limits

-- a number is one of a list's and none of them is less
pub record IsLeastOf (zs : List ℤ) (v : ℤ) : Type 0 where
  pub reached : Contains zs v
  pub least : All (λ z. v ≤ℤ z) zs

-- a bound for what is still to come: the least of the live bounds and the best cost
abbrev pub IsRemainingBound : Program → GrowingTree → Option (List ℤ) → ℤ → Type 0
IsRemainingBound p t best v = IsLeastOf (live_bounds t ++ option_to_list (best_cost p best)) v

-- the facts of a search: the best point is feasible, the tree keeps its facts and no leaf is too
-- deep, and each shut leaf is settled against the best cost
pub record IsSearch (p : Program) (b : Blocking) (t : GrowingTree) (best : Option (List ℤ)) : Type 0 where
  pub feasible : IfSome best (IsFeasible p)
  pub grove : IsGrove b p.spans t
  pub shallow : All (IsShallow p.limits) (growing_leaves t p.spans)
  pub settled : All (IsSettled b (best_cost p best)) (growing_leaves t p.spans)
