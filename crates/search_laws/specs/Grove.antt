-- A tree that grows: live leaves with a proof and a bound, shut leaves with a proof, and forks.
use Rattle.std.specs.Prelude.{ℕ, ◌+◌, List, [], ◌∷◌, ◌++◌, Option, Some, None, ℤ}
use Rattle.bp_theory.specs.Trees.{Tree, shut_leaf, open_leaf, split, low_part, high_part}
use Rattle.bp_theory.specs.Bound.{plain_proof}
use Rattle.bp_theory.specs.declared.Span.{Span}
use Rattle.bp_theory.specs.declared.Proof.{Proof}
use Rattle.search_laws.specs.declared.Side.{Side}
use Rattle.search_laws.specs.declared.Side.TheVariants.{Low, High}

-- a growing tree: live leaves with a proof and a bound, shut leaves with a proof, and forks of a variable's span behind a number
pub data GrowingTree : Type 0 where
  live : (proof : Proof) (bound : ℤ) → GrowingTree
  shut : (proof : Proof) → GrowingTree
  fork : (var : ℕ) (at : ℤ) (low high : GrowingTree) → GrowingTree

-- a leaf of a growing tree: its path from the root, the zone of its node, its proof, and the bound that a live leaf keeps
pub record GrowingLeaf : Type 0 where
  pub path : List Side
  pub zone : List Span
  pub proof : Proof
  pub bound : Option ℤ

-- the leaves below a node of this path and zone, in preorder
abbrev pub leaves_below : GrowingTree → List Side → List Span → List GrowingLeaf
leaves_below (live proof bound) path zone = record { path = path; zone = zone; proof = proof; bound = Some bound } ∷ []
leaves_below (shut proof) path zone = record { path = path; zone = zone; proof = proof; bound = None } ∷ []
leaves_below (fork v at low high) path zone =
    leaves_below low (path ++ Low ∷ []) (low_part zone v at) ++ leaves_below high (path ++ High ∷ []) (high_part zone v at)

-- the leaves of a growing tree, in preorder
abbrev pub growing_leaves : GrowingTree → List Span → List GrowingLeaf
growing_leaves t zone = leaves_below t [] zone

-- the zone at a path
abbrev pub zone_at : GrowingTree → List Span → List Side → List Span
zone_at t zone [] = zone
zone_at (live proof bound) zone (side ∷ path) = zone
zone_at (shut proof) zone (side ∷ path) = zone
zone_at (fork v at low high) zone (Low ∷ path) = zone_at low (low_part zone v at) path
zone_at (fork v at low high) zone (High ∷ path) = zone_at high (high_part zone v at) path

-- what a live leaf keeps
pub record LiveLeaf : Type 0 where
  pub proof : Proof
  pub bound : ℤ

-- the live leaf at a path, if there is one
abbrev pub live_at : GrowingTree → List Side → Option LiveLeaf
live_at (live proof bound) [] = Some (record { proof = proof; bound = bound })
live_at (live proof bound) (side ∷ path) = None
live_at (shut proof) path = None
live_at (fork v at low high) [] = None
live_at (fork v at low high) (Low ∷ path) = live_at low path
live_at (fork v at low high) (High ∷ path) = live_at high path

-- the tree with another in place of its node at a path
abbrev pub put_at : GrowingTree → List Side → GrowingTree → GrowingTree
put_at t [] new = new
put_at (live proof bound) (side ∷ path) new = live proof bound
put_at (shut proof) (side ∷ path) new = shut proof
put_at (fork v at low high) (Low ∷ path) new = fork v at (put_at low path new) high
put_at (fork v at low high) (High ∷ path) new = fork v at low (put_at high path new)

-- the planted tree: one live leaf with the plain proof
abbrev pub planted : ℤ → GrowingTree
planted bound = live plain_proof bound

-- the leaf at a path is shut with a proof
abbrev pub shut_at : GrowingTree → List Side → Proof → GrowingTree
shut_at t path proof = put_at t path (shut proof)

-- the leaf at a path is forked into two live leaves with one proof and bound
abbrev pub fork_at : GrowingTree → List Side → (var : ℕ) (at : ℤ) → Proof → ℤ → GrowingTree
fork_at t path v at proof bound = put_at t path (fork v at (live proof bound) (live proof bound))

-- the tree of a certificate, where live leaves are open ones
abbrev pub certificate_tree : GrowingTree → Tree
certificate_tree (live proof bound) = open_leaf proof
certificate_tree (shut proof) = shut_leaf proof
certificate_tree (fork v at low high) = split v at (certificate_tree low) (certificate_tree high)

-- how many leaves are live
abbrev pub live_count : GrowingTree → ℕ
live_count (live proof bound) = 1
live_count (shut proof) = 0
live_count (fork v at low high) = live_count low + live_count high

-- the bounds of the live leaves, in preorder
abbrev pub live_bounds : GrowingTree → List ℤ
live_bounds (live proof bound) = bound ∷ []
live_bounds (shut proof) = []
live_bounds (fork v at low high) = live_bounds low ++ live_bounds high
