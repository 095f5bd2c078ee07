-- What leaves prove, valid certificates and true claims.
use Rattle.std.specs.Prelude.{◌≡◌, ◌⊎◌, IsTrue, List, [], Option, Some, None, ℤ, pos, ◌-ℤ◌, ◌*ℤ◌, ◌<ℤ◌, ◌≤ℤ◌, All}
use Rattle.bp_theory.specs.Program.{Program, IsFeasible, IsBest, cost, value, in_sense, KeepsActivity}
use Rattle.bp_theory.specs.Blocking.{Blocking}
use Rattle.bp_theory.specs.Decomposition.{Decomposition, blocking_of}
use Rattle.bp_theory.specs.Cuts.{cut_rows, AreFitting}
use Rattle.bp_theory.specs.Bound.{SignsFit, IsBound, IsEndless}
use Rattle.bp_theory.specs.Trees.{Tree, Leaf, leaves, HasSoundSplits}
use Rattle.bp_theory.specs.declared.Span.{Span}
use Rattle.bp_theory.specs.declared.Proof.{Proof}
use Rattle.bp_theory.specs.declared.Cut.{Cut}
use Rattle.bp_theory.specs.declared.Claim.{Claim}
use Rattle.bp_theory.specs.declared.Claim.TheVariants.{Optimal, Infeasible, Bound}

-- a proof shows that no point of a zone costs less than z: its bound is endless or above scale times (z - 1)
abbrev pub Holds : Blocking → List Span → Proof → ℤ → Type 0
Holds b zone proof z =
    IsEndless b zone proof ⊎ ((v : ℤ) × IsBound b zone proof v × ((pos proof.scale *ℤ (z -ℤ pos 1)) <ℤ v))

-- a proof shows that no point lies in a zone: its bound is endless, or positive at scale 0
abbrev pub Empties : Blocking → List Span → Proof → Type 0
Empties b zone proof =
    IsEndless b zone proof ⊎ ((v : ℤ) × IsBound b zone proof v × (proof.scale ≡ 0) × (pos 0 <ℤ v))

-- a certificate: a claim, the point of a claimed value, cuts, and a tree of proofs
pub record Certificate : Type 0 where
  pub claim : Claim
  pub point : Option (List ℤ)
  pub cuts : List Cut
  pub tree : Tree

-- what a leaf must show for a claim, whose values are in the text's own sense
abbrev pub Shows : Program → Blocking → Claim → Leaf → Type 0
Shows p b (Optimal v) leaf = Holds b leaf.zone leaf.proof (in_sense p.maximises v)
Shows p b Infeasible leaf = Empties b leaf.zone leaf.proof
Shows p b (Bound bound v) leaf = Holds b leaf.zone leaf.proof (in_sense p.maximises bound)

-- a point is feasible with this value
pub record Reaches (p : Program) (v : ℤ) (x : List ℤ) : Type 0 where
  pub feasible : IsFeasible p x
  pub has_value : value p x ≡ v

-- a point goes with the value that a claim names, and no point with a claim that names none
abbrev pub PointFits : Program → Claim → Option (List ℤ) → Type 0
PointFits p (Optimal v) None = ⊥
PointFits p (Optimal v) (Some x) = Reaches p v x
PointFits p Infeasible None = Unit {0}
PointFits p Infeasible (Some x) = ⊥
PointFits p (Bound bound None) None = Unit {0}
PointFits p (Bound bound None) (Some x) = ⊥
PointFits p (Bound bound (Some v)) None = ⊥
PointFits p (Bound bound (Some v)) (Some x) = Reaches p v x

-- open leaves stand only under a claim of a bound
abbrev pub MayBeOpen : Claim → Type 0
MayBeOpen (Optimal v) = ⊥
MayBeOpen Infeasible = ⊥
MayBeOpen (Bound bound v) = Unit {0}

-- a certificate is valid for a program and its blocking
pub record IsValid (p : Program) (b : Blocking) (cert : Certificate) : Type 0 where
  pub point : PointFits p cert.claim cert.point
  pub splits : HasSoundSplits cert.tree p.spans
  pub signs : All (λ leaf. SignsFit b leaf.proof) (leaves cert.tree p.spans)
  pub shown : All (Shows p b cert.claim) (leaves cert.tree p.spans)
  pub shut : All (λ leaf. IsTrue leaf.is_open → MayBeOpen cert.claim) (leaves cert.tree p.spans)

-- no feasible point has a better value, in the text's own sense
abbrev pub NoneBetter : Program → ℤ → Type 0
NoneBetter p bound = (x : List ℤ) → IsFeasible p x → in_sense p.maximises bound ≤ℤ cost p x

-- a claim is true of a program
abbrev pub IsTrueClaim : Program → Claim → Type 0
IsTrueClaim p (Optimal v) = (x : List ℤ) × IsBest p x × (value p x ≡ v)
IsTrueClaim p Infeasible = (x : List ℤ) → IsFeasible p x → ⊥
IsTrueClaim p (Bound bound None) = NoneBetter p bound
IsTrueClaim p (Bound bound (Some v)) = NoneBetter p bound × ((x : List ℤ) × Reaches p v x)

-- a certificate is valid for a program and a decomposition: its cuts fit and keep the limit, and it is
-- valid for the blocking with their rows
pub record IsCertified (p : Program) (d : Decomposition) (cert : Certificate) : Type 0 where
  pub fitting : AreFitting p d [] cert.cuts
  pub bounded : All (KeepsActivity p) (cut_rows p d [] cert.cuts)
  pub valid : IsValid p (blocking_of p d (cut_rows p d [] cert.cuts)) cert
