-- The room that the live leaves of a loaded tree need, line by line.
use Rattle.std.specs.Prelude.{◌≡◌, ℕ, ◌+◌, ◌<◌, ◌≤◌, List, [], ◌∷◌, ◌++◌, length, Option, Some, None, ℤ, pos, ◌*ℤ◌, ◌-ℤ◌, ◌<ℤ◌, ◌⊎◌, unsigned_abs, slice_index_or}
use Rattle.bp_theory.specs.Limits.{greatest_depth, number_limit}
use Rattle.bp_theory.specs.Blocking.{Blocking}
use Rattle.bp_theory.specs.Bound.{Fits}
use Rattle.bp_theory.specs.Trees.{Tree, shut_leaf, open_leaf, split, low_part, high_part, IsSoundSplit}
use Rattle.bp_theory.specs.Claims.{Holds}
use Rattle.bp_theory.specs.Digits.{zone_bits}
use Rattle.bp_theory.specs.declared.Limits.{Limits}
use Rattle.bp_theory.specs.declared.Span.{Span}
use Rattle.bp_theory.specs.declared.Proof.{Proof}
use Rattle.bp_theory.specs.declared.Cut.{Cut}
use Rattle.search_laws.specs.Grove.{GrowingTree, live, shut, fork}
use Rattle.search_laws.specs.GroveFacts.{Settles}

-- the room that each node needs, in preorder: a live leaf its depth and the bits of its zone, and another node none
abbrev pub rooms : GrowingTree → (deep : ℕ) → List Span → List ℕ
rooms (live proof bound) deep zone = (deep + zone_bits zone) ∷ []
rooms (shut proof) deep zone = 0 ∷ []
rooms (fork v at low high) deep zone = 0 ∷ (rooms low (deep + 1) (low_part zone v at) ++ rooms high (deep + 1) (high_part zone v at))

-- the line of the first of these rooms that is above the greatest depth of the limits, where the first room's line has this number
pub record IsFirstDeep (limits : Limits) (sizes : List ℕ) (first line : ℕ) : Type 0 where
  pub place : ℕ
  pub there : place < length sizes
  pub deep : greatest_depth limits < slice_index_or sizes place 0
  pub earlier : (k : ℕ) → k < place → slice_index_or sizes k 0 ≤ greatest_depth limits
  pub numbered : line ≡ first + place

-- the line of a tree's root in the text of a certificate: it stands behind two lines, or three where there is a point, and behind
-- a line for each cut
abbrev pub root_line : Option (List ℤ) → List Cut → ℕ
root_line None cuts = 3 + length cuts
root_line (Some x) cuts = 4 + length cuts

-- a tree is a leaf
abbrev pub IsLeaf : GrowingTree → Type 0
IsLeaf (live proof bound) = Unit {0}
IsLeaf (shut proof) = Unit {0}
IsLeaf (fork v at low high) = ⊥

-- what was found of rooms: none above the greatest depth of the limits, or the line of the first that is
abbrev pub FindsDeep : Limits → List ℕ → (first : ℕ) → Option ℕ → Type 0
FindsDeep limits sizes first None = (k : ℕ) → slice_index_or sizes k 0 ≤ greatest_depth limits
FindsDeep limits sizes first (Some line) = IsFirstDeep limits sizes first line

-- a line that was found already, or what is found of rooms
abbrev pub FindsBehind : Limits → Option ℕ → List ℕ → (first : ℕ) → Option ℕ → Type 0
FindsBehind limits None sizes first now = FindsDeep limits sizes first now
FindsBehind limits (Some line) sizes first now = now ≡ Some line

-- how many nodes a tree has
abbrev pub node_count : Tree → ℕ
node_count (shut_leaf proof) = 1
node_count (open_leaf proof) = 1
node_count (split v at low high) = 1 + node_count low + node_count high

-- a leaf's proof fits, and it settles the leaf's zone or holds for some number of texts
pub record CanLoadLeaf (b : Blocking) (best : Option ℤ) (zone : List Span) (proof : Proof) : Type 0 where
  pub fits : Fits b proof
  pub number : ℤ
  pub small : unsigned_abs number < number_limit
  pub shown : Settles b best zone proof ⊎ Holds b zone proof number

-- the same of all leaves of a tree with sound splits
abbrev pub CanLoad : Blocking → Option ℤ → List Span → Tree → Type 0
CanLoad b best zone (shut_leaf proof) = CanLoadLeaf b best zone proof
CanLoad b best zone (open_leaf proof) = CanLoadLeaf b best zone proof
CanLoad b best zone (split v at low high) = IsSoundSplit zone v at × CanLoad b best (low_part zone v at) low × CanLoad b best (high_part zone v at) high

-- a bound settles a zone, by the scale of its proof
abbrev pub SettlesBy : Option ℤ → (scale : ℕ) → (bound : ℤ) → Type 0
SettlesBy None scale bound = (scale ≡ 0) × (pos 0 <ℤ bound)
SettlesBy (Some z) scale bound = (pos scale *ℤ (z -ℤ pos 1)) <ℤ bound
