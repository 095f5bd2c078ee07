-- A tree that is loaded from a certificate: which leaves are shut, which live, and with which bound.
use Rattle.std.specs.Prelude.{◌≡◌, ◌-◌, ◌<◌, List, Option, ℤ, pos, unsigned_abs, All}
use Rattle.std.specs.Int.{int_min}
use Rattle.bp_theory.specs.Limits.{number_limit}
use Rattle.bp_theory.specs.Sums.{round_up}
use Rattle.bp_theory.specs.Program.{Program}
use Rattle.bp_theory.specs.Blocking.{Blocking}
use Rattle.bp_theory.specs.Bound.{IsBound, Fits}
use Rattle.bp_theory.specs.Trees.{Tree, shut_leaf, open_leaf, split, leaves, low_part, high_part}
use Rattle.bp_theory.specs.Claims.{Certificate}
use Rattle.bp_theory.specs.declared.Span.{Span}
use Rattle.bp_theory.specs.declared.Proof.{Proof}
use Rattle.bp_theory.specs.declared.Claim.{Claim}
use Rattle.bp_theory.specs.declared.Claim.TheVariants.{Optimal, Infeasible, Bound}
use Rattle.search_laws.specs.Grove.{GrowingTree, live, shut, fork}
use Rattle.search_laws.specs.GroveFacts.{Settles}

-- a bound rounded: its quotient by the scale rounded up, cut off below the limit of numbers
abbrev pub rounded_bound : ℤ → Proof → ℤ
rounded_bound v proof = int_min (round_up v proof.scale) (pos (number_limit - 1))

-- a leaf of a certificate is shut where its proof settles its zone, and else live with its bound rounded
abbrev pub LoadsLeaf : Blocking → Option ℤ → List Span → Proof → GrowingTree → Type 0
LoadsLeaf b best zone proof (live own bound) =
    (own ≡ proof) × (Settles b best zone proof → ⊥) × ((v : ℤ) × IsBound b zone proof v × (bound ≡ rounded_bound v proof))
LoadsLeaf b best zone proof (shut own) = (own ≡ proof) × Settles b best zone proof
LoadsLeaf b best zone proof (fork v at low high) = ⊥

-- a tree is loaded from a certificate's: with the same splits, and each leaf by the best cost
abbrev pub Loads : Blocking → Option ℤ → List Span → Tree → GrowingTree → Type 0
Loads b best zone (shut_leaf proof) t = LoadsLeaf b best zone proof t
Loads b best zone (open_leaf proof) t = LoadsLeaf b best zone proof t
Loads b best zone (split v at low high) (live own bound) = ⊥
Loads b best zone (split v at low high) (shut own) = ⊥
Loads b best zone (split v at low high) (fork w a first second) =
    (w ≡ v) × (a ≡ at) × Loads b best (low_part zone v at) low first × Loads b best (high_part zone v at) high second

-- a claim's bound is below the limit of numbers in magnitude
abbrev pub HasSmallBound : Claim → Type 0
HasSmallBound (Optimal v) = Unit {0}
HasSmallBound Infeasible = Unit {0}
HasSmallBound (Bound bound v) = unsigned_abs bound < number_limit

-- what reading a certificate shows: each proof fits, and the claim's bound is small
pub record IsReadable (p : Program) (b : Blocking) (cert : Certificate) : Type 0 where
  pub fits : All (λ leaf. Fits b leaf.proof) (leaves cert.tree p.spans)
  pub bound : HasSmallBound cert.claim

-- a claim that isn't one of a bound
abbrev pub IsFinalClaim : Claim → Type 0
IsFinalClaim (Optimal v) = Unit {0}
IsFinalClaim Infeasible = Unit {0}
IsFinalClaim (Bound bound v) = ⊥
