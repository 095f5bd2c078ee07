-- The laws over the definitions.
use Rattle.std.specs.Prelude.{ℕ, ◌≡◌, ◌⊎◌, List, [], map, length, All, Option, ℤ, pos, ◌*ℤ◌, ◌≤ℤ◌, slice_index_or, ◌<◌, ◌+ℤ◌, ◌↔◌, ◌≢◌, IsTrue, Any, Contains}
use Rattle.std.specs.List.Sorted.{IsStrictlyIncreasing}
use Rattle.bp_theory.specs.Sums.{sum_of, round_up}
use Rattle.bp_theory.specs.Program.{Program, IsInside, IsFeasible, MeetsRow, coefficient, cost}
use Rattle.bp_theory.specs.Blocking.{Block, Blocking, IsFaithful, AreImplied, AddsUp, all_copies, copy_activity}
use Rattle.bp_theory.specs.Decomposition.{Decomposition, HasVariablesBelow, IsClosed, HasPlaces, IsTidyFrom, stands_in, no_row, link_row, proof_rows, full_row, blocking_of}
use Rattle.bp_theory.specs.Bound.{SignsFit, IsBound, IsEndless, IsLeast, IsPart, is_picked, box_least, plain_proof, Fits, base}
use Rattle.bp_theory.specs.Classes.{IsSame}
use Rattle.bp_theory.specs.Cuts.{cut_rows, AreFitting}
use Rattle.bp_theory.specs.Trees.{Tree, leaves, low_part, high_part, IsSoundSplit, HasSoundSplits, HoldsOnce, IsProper, IsSubzone, zone_of}
use Rattle.bp_theory.specs.Claims.{Holds, Empties, Certificate, IsValid, IsTrueClaim, IsCertified}
use Rattle.bp_theory.specs.Judgement.{named_value, HasItsPoint, IsFirstFault}
use Rattle.bp_theory.specs.declared.CheckKind.{CheckKind}
use Rattle.bp_theory.specs.declared.Span.{Span}
use Rattle.bp_theory.specs.declared.Row.{Row}
use Rattle.bp_theory.specs.declared.Proof.{Proof}
use Rattle.bp_theory.specs.declared.Cut.{Cut}

-- where signs fit and a feasible point lies in the zone, the bound isn't endless and is no more
-- than scale times the point's cost
abbrev pub Duality : Type 0
Duality = (p : Program) (b : Blocking) (zone : List Span) (proof : Proof) (x : List ℤ)
    → IsFaithful p b → SignsFit b proof → IsFeasible p x → IsInside zone x
    → (IsEndless b zone proof → ⊥) × ((v : ℤ) → IsBound b zone proof v → v ≤ℤ (pos proof.scale *ℤ cost p x))

-- with sound splits each point of the root zone lies in exactly one leaf
abbrev pub Cover : Type 0
Cover = (t : Tree) (zone : List Span) (x : List ℤ) → HasSoundSplits t zone → IsInside zone x
    → HoldsOnce (λ leaf. IsInside leaf.zone x) (leaves t zone)

-- what a proof shows for a cost it shows for each smaller one, and what empties a zone shows every cost
pub record Older : Type 0 where
  pub smaller : (b : Blocking) (zone : List Span) (proof : Proof) (y z : ℤ) → y ≤ℤ z → Holds b zone proof z → Holds b zone proof y
  pub emptied : (b : Blocking) (zone : List Span) (proof : Proof) (z : ℤ) → Empties b zone proof → Holds b zone proof z

-- a certificate that is valid for a faithful blocking makes a true claim
abbrev pub ValidIsTrue : Type 0
ValidIsTrue = (p : Program) (b : Blocking) (cert : Certificate) → IsFaithful p b → IsValid p b cert → IsTrueClaim p cert.claim

-- in a proper zone a proof has one bound: a number, or endless
pub record OneBound : Type 0 where
  pub total : (b : Blocking) (zone : List Span) (proof : Proof) → IsProper zone
      → IsEndless b zone proof ⊎ ((v : ℤ) × IsBound b zone proof v)
  pub one : (b : Blocking) (zone : List Span) (proof : Proof) (v w : ℤ) → IsBound b zone proof v → IsBound b zone proof w → v ≡ w
  pub not_both : (b : Blocking) (zone : List Span) (proof : Proof) (v : ℤ) → IsEndless b zone proof → IsBound b zone proof v → ⊥

-- in a smaller zone the bound is endless or no smaller, so what a proof shows it shows there too
pub record Shrink : Type 0 where
  pub endless : (b : Blocking) (small large : List Span) (proof : Proof) → IsSubzone small large
      → IsEndless b large proof → IsEndless b small proof
  pub no_smaller : (b : Blocking) (small large : List Span) (proof : Proof) (v w : ℤ) → IsSubzone small large
      → IsBound b large proof v → IsBound b small proof w → v ≤ℤ w
  pub holds : (b : Blocking) (small large : List Span) (proof : Proof) (z : ℤ) → IsProper small → IsSubzone small large
      → Holds b large proof z → Holds b small proof z
  pub empties : (b : Blocking) (small large : List Span) (proof : Proof) → IsProper small → IsSubzone small large
      → Empties b large proof → Empties b small proof

-- a blocking that adds up to a program, in rows that each feasible point meets, is faithful
abbrev pub AddingUpIsFaithful : Type 0
AddingUpIsFaithful = (p : Program) (rows : List (Option Row)) (b : Blocking) → AreImplied p rows → AddsUp p rows b → IsFaithful p b

-- the blocking of a decomposition with cuts adds up to the program, and where each feasible point
-- meets each cut it is faithful
pub record DecompositionIsFaithful : Type 0 where
  pub adds_up : (p : Program) (d : Decomposition) (cuts : List Row) → IsClosed p
      → All (λ cut. HasVariablesBelow (length p.spans) cut.terms) cuts
      → AddsUp p (map full_row (proof_rows p d cuts)) (blocking_of p d cuts)
  pub implied : (p : Program) (d : Decomposition) (cuts : List Row)
      → ((x : List ℤ) → IsFeasible p x → All (MeetsRow x) cuts)
      → AreImplied p (map full_row (proof_rows p d cuts))

-- each feasible point meets the row of each fitting cut
pub record CutsAreMet : Type 0 where
  pub closed : (p : Program) (d : Decomposition) (cuts : List Cut)
      → All (λ cut. HasVariablesBelow (length p.spans) cut.terms) (cut_rows p d [] cuts)
  pub met : (p : Program) (d : Decomposition) (cuts : List Cut) (x : List ℤ) → IsClosed p → AreFitting p d [] cuts
      → IsFeasible p x → All (MeetsRow x) (cut_rows p d [] cuts)

-- a certificate that is valid for a program and a decomposition makes a true claim
abbrev pub CertifiedIsTrue : Type 0
CertifiedIsTrue = (p : Program) (d : Decomposition) (cert : Certificate) → IsClosed p → IsCertified p d cert → IsTrueClaim p cert.claim

-- blocks that are the same in a zone, and picked alike, have the same least reduced cost
abbrev pub SamePriceAlike : Type 0
SamePriceAlike = (zone : List Span) (proof : Proof) (j k : ℕ) (b c : Block) (v : ℤ) → IsSame zone b c
    → is_picked proof.picked j ≡ is_picked proof.picked k → IsPart zone proof j b v → IsPart zone proof k c v

-- over a box the least cost is that of the better end of each span
abbrev pub LeastOverBox : Type 0
LeastOverBox = (spans : List Span) (costs : List ℤ) → IsProper spans → length costs ≡ length spans
    → IsLeast [] spans costs (box_least spans costs)

-- the parts of a sound split, and so the zones of the leaves, are proper and lie in the zone
pub record SplitShrinks : Type 0 where
  pub low : (zone : List Span) (v : ℕ) (at : ℤ) → IsSoundSplit zone v at → IsProper zone
      → IsProper (low_part zone v at) × IsSubzone (low_part zone v at) zone
  pub high : (zone : List Span) (v : ℕ) (at : ℤ) → IsSoundSplit zone v at → IsProper zone
      → IsProper (high_part zone v at) × IsSubzone (high_part zone v at) zone
  pub leaves : (t : Tree) (zone : List Span) → HasSoundSplits t zone → IsProper zone
      → All (λ leaf. IsProper leaf.zone × IsSubzone leaf.zone zone) (leaves t zone)

-- a zone of one point can always be shut: where the point is feasible the plain proof holds for its
-- cost, and else some proof that fits empties the zone
abbrev pub OnePointCloses : Type 0
OnePointCloses = (p : Program) (d : Decomposition) (cuts : List Row) (x : List ℤ) → IsClosed p → HasPlaces p d
    → All (λ cut. HasVariablesBelow (length p.spans) cut.terms) cuts → IsInside p.spans x
    → (IsFeasible p x × Holds (blocking_of p d cuts) (zone_of x) plain_proof (cost p x))
    ⊎ ((proof : Proof) × Fits (blocking_of p d cuts) proof × SignsFit (blocking_of p d cuts) proof
    × Empties (blocking_of p d cuts) (zone_of x) proof)

-- a certificate with its point is valid, or it has a first fault, not both, and one alone
pub record Judged : Type 0 where
  pub total : (p : Program) (d : Decomposition) (cert : Certificate) → IsProper p.spans → HasItsPoint (named_value cert.claim) cert.point
      → IsCertified p d cert ⊎ ((number : ℕ) × (fault : CheckKind) × IsFirstFault p d cert number fault)
  pub not_both : (p : Program) (d : Decomposition) (cert : Certificate) (number : ℕ) (fault : CheckKind)
      → IsCertified p d cert → IsFirstFault p d cert number fault → ⊥
  pub once : (p : Program) (d : Decomposition) (cert : Certificate) (number other : ℕ) (fault otherwise : CheckKind)
      → IsFirstFault p d cert number fault → IsFirstFault p d cert other otherwise → (number ≡ other) × (fault ≡ otherwise)

-- a bound holds for its quotient by the scale, rounded up
abbrev pub RoundedHolds : Type 0
RoundedHolds = (b : Blocking) (zone : List Span) (proof : Proof) (v : ℤ) → 0 < proof.scale → IsBound b zone proof v
    → Holds b zone proof (round_up v proof.scale)

-- numbers that are each block's part add up to the bound
abbrev pub PartsAddUp : Type 0
PartsAddUp = (b : Blocking) (zone : List Span) (proof : Proof) (parts : List ℤ) → length parts ≡ length b.blocks
    → ((k : ℕ) (d : Block) → k < length b.blocks → IsPart zone proof k (slice_index_or b.blocks k d) (slice_index_or parts k (pos 0)))
    → IsBound b zone proof (base b proof +ℤ sum_of (λ z. z) parts)

-- in a row that is kept in order and without zeros a variable stands where its coefficient isn't 0
abbrev pub StandsWhereNonzero : Type 0
StandsWhereNonzero = (row : Row) (v : ℕ) → IsTidyFrom 0 row.terms → IsTrue (stands_in v row) ↔ (coefficient row.terms v ≢ pos 0)

-- a block has no variable twice, in order, and each variable has a copy in some block
pub record CopiesOfEach : Type 0 where
  pub ascend : (p : Program) (d : Decomposition) (cuts : List Row)
      → All (λ b. IsStrictlyIncreasing (map (λ c. c.var) b.copies)) (blocking_of p d cuts).blocks
  pub there : (p : Program) (d : Decomposition) (cuts : List Row) (v : ℕ) → v < length p.spans
      → Any (λ b. Contains (map (λ c. c.var) b.copies) v) (blocking_of p d cuts).blocks

-- at each point, and not at feasible ones alone, what a link row takes from a first copy it gives to the other
abbrev pub LinksCancel : Type 0
LinksCancel = (p : Program) (d : Decomposition) (cuts : List Row) (x : List ℤ) (i v k : ℕ) → IsClosed p
    → All (λ cut. HasVariablesBelow (length p.spans) cut.terms) cuts
    → slice_index_or (proof_rows p d cuts) i no_row ≡ link_row v k
    → copy_activity x i (all_copies (blocking_of p d cuts)) ≡ pos 0
