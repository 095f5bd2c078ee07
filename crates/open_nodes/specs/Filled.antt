-- A queue that a tree's live leaves are put into, in preorder.
use Rattle.std.specs.Prelude.{◌≡◌, ℕ, ◌+◌, ◌<◌, ◌≤◌, List, [], ◌∷◌, ◌++◌, Some, None, ℤ}
use Rattle.search_laws.specs.declared.Side.{Side}
use Rattle.search_laws.specs.declared.Side.TheVariants.{Low, High}
use Rattle.search_laws.specs.Grove.{GrowingTree, LiveLeaf, live, shut, fork, live_at, live_count}
use Rattle.search_laws.specs.Queue.{Queue}

-- how many live leaves stand before the one at a path, in preorder
abbrev pub place_of : GrowingTree → List Side → ℕ
place_of t [] = 0
place_of (live proof bound) (side ∷ path) = 0
place_of (shut proof) (side ∷ path) = 0
place_of (fork v at low high) (Low ∷ path) = place_of low path
place_of (fork v at low high) (High ∷ path) = live_count low + place_of high path

-- a queue with the live leaves below a node: the node's path stands before each leaf's, and they have a first number and
-- those behind it, in preorder
pub record IsFilled (before : Queue) (t : GrowingTree) (above : List Side) (first : ℕ) (after : Queue) : Type 0 where
  pub kept : (z : ℤ) (n : ℕ) → n < first → after z n ≡ before z n
  pub added : (path : List Side) (leaf : LiveLeaf) → live_at t path ≡ Some leaf → after leaf.bound (first + place_of t path) ≡ Some (above ++ path)
  pub none_else : (z : ℤ) (n : ℕ) (whole : List Side) → first ≤ n → after z n ≡ Some whole
      → (path : List Side) × (leaf : LiveLeaf) × (live_at t path ≡ Some leaf) × (leaf.bound ≡ z) × (n ≡ first + place_of t path) × (whole ≡ above ++ path)

-- a queue with no entry from a number on
abbrev pub IsFreeFrom : ℕ → Queue → Type 0
IsFreeFrom first entry = (z : ℤ) (n : ℕ) → first ≤ n → entry z n ≡ None
