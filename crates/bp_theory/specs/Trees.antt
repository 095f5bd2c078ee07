-- Branch trees, and the zones of their leaves.
use Rattle.std.specs.Prelude.{map, ◌≡◌, ℕ, ◌+◌, ◌<◌, max, Bool, true, false, List, [], ◌∷◌, ◌++◌, length, ℤ, pos, ◌+ℤ◌, ◌<ℤ◌, ◌≤ℤ◌, slice_index_or, slice_set, All}
use Rattle.std.specs.List.{AllZip}
use Rattle.bp_theory.specs.Program.{span_at}
use Rattle.bp_theory.specs.declared.Span.{Span}
use Rattle.bp_theory.specs.declared.Proof.{Proof}

-- a tree of splits: shut and open leaves with their proofs, and splits of a variable's span behind a number
pub data Tree : Type 0 where
  shut_leaf : Proof → Tree
  open_leaf : Proof → Tree
  split : (var : ℕ) (at : ℤ) (low high : Tree) → Tree

-- a leaf of a tree, with the zone of its node
pub record Leaf : Type 0 where
  pub zone : List Span
  pub proof : Proof
  pub is_open : Bool

-- the zone up to a number of a variable, all else as before
abbrev pub low_part : List Span → ℕ → ℤ → List Span
low_part zone v at = slice_set zone v (record { lo = (span_at zone v).lo; hi = at })

-- the zone behind a number of a variable, all else as before
abbrev pub high_part : List Span → ℕ → ℤ → List Span
high_part zone v at = slice_set zone v (record { lo = at +ℤ pos 1; hi = (span_at zone v).hi })

-- each span of a zone has a number
abbrev pub IsProper : List Span → Type 0
IsProper zone = All (λ s. s.lo ≤ℤ s.hi) zone

-- a span lies inside another
pub record IsSubspan (s t : Span) : Type 0 where
  pub above : t.lo ≤ℤ s.lo
  pub below : s.hi ≤ℤ t.hi

-- a zone lies inside another: as many spans, each inside the other's
abbrev pub IsSubzone : List Span → List Span → Type 0
IsSubzone small large = AllZip IsSubspan small large

-- a zone of a program: it lies inside the program's spans, and each of its spans has a number
pub record IsZone (spans zone : List Span) : Type 0 where
  pub inside : IsSubzone zone spans
  pub proper : IsProper zone

-- a split leaves both parts a number: so the variable is there, since the span of none is 0 to 0
pub record IsSoundSplit (zone : List Span) (v : ℕ) (at : ℤ) : Type 0 where
  pub above : (span_at zone v).lo ≤ℤ at
  pub below : at <ℤ (span_at zone v).hi

-- each split is sound in its node's zone
abbrev pub HasSoundSplits : Tree → List Span → Type 0
HasSoundSplits (shut_leaf proof) zone = Unit {0}
HasSoundSplits (open_leaf proof) zone = Unit {0}
HasSoundSplits (split v at low high) zone =
    IsSoundSplit zone v at × HasSoundSplits low (low_part zone v at) × HasSoundSplits high (high_part zone v at)

-- the leaves of a tree in preorder, with their zones
abbrev pub leaves : Tree → List Span → List Leaf
leaves (shut_leaf proof) zone = record { zone = zone; proof = proof; is_open = false } ∷ []
leaves (open_leaf proof) zone = record { zone = zone; proof = proof; is_open = true } ∷ []
leaves (split v at low high) zone = leaves low (low_part zone v at) ++ leaves high (high_part zone v at)

-- the greatest depth of a node, the root having depth 0
abbrev pub depth : Tree → ℕ
depth (shut_leaf proof) = 0
depth (open_leaf proof) = 0
depth (split v at low high) = 1 + max (depth low) (depth high)

-- the splits and shut leaves together
abbrev pub steps : Tree → ℕ
steps (shut_leaf proof) = 1
steps (open_leaf proof) = 0
steps (split v at low high) = 1 + steps low + steps high

-- a fact holds at exactly one place of a list
pub record HoldsOnce {X : Type 0} (P : X → Type 0) (xs : List X) : Type 0 where
  pub place : ℕ
  pub there : place < length xs
  pub holds : (d : X) → P (slice_index_or xs place d)
  pub only : (k : ℕ) (d : X) → k < length xs → P (slice_index_or xs k d) → k ≡ place

-- the zone of one point
abbrev pub zone_of : List ℤ → List Span
zone_of x = map (λ v. record { lo = v; hi = v }) x
