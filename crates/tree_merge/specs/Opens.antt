-- What a tree has open: the nodes of its live leaves and all below them.
use Rattle.std.specs.Prelude.{◌≡◌, Bool, true, false, ◌||◌, List, [], ◌∷◌, ◌++◌, Option, Some, None, option_map, ℤ, ◌≤ℤ◌}
use Rattle.std.specs.Int.{int_max}
use Rattle.bp_theory.specs.Trees.{IsSubzone}
use Rattle.bp_theory.specs.declared.Span.{Span}
use Rattle.search_laws.specs.declared.Side.{Side}
use Rattle.search_laws.specs.declared.Side.TheVariants.{Low, High}
use Rattle.search_laws.specs.Grove.{GrowingTree, live, shut, fork, LiveLeaf, live_at, zone_at}

-- two trees split no node differently: where both split a node they split the same variable's span behind the same number
abbrev pub AgreeInSplits : GrowingTree → GrowingTree → Type 0
AgreeInSplits (live proof bound) t = Unit {0}
AgreeInSplits (shut proof) t = Unit {0}
AgreeInSplits (fork v at low high) (live proof bound) = Unit {0}
AgreeInSplits (fork v at low high) (shut proof) = Unit {0}
AgreeInSplits (fork v at low high) (fork w other left right) = (v ≡ w) × (at ≡ other) × AgreeInSplits low left × AgreeInSplits high right

-- the bound that a tree shows of an open node, and whether the node is a live leaf itself
pub record OpenNode : Type 0 where
  pub bound : ℤ
  pub is_leaf : Bool

-- the node at a path, if it is open: it is a live leaf or lies below one, and has its bound
abbrev pub open_at : GrowingTree → List Side → Option OpenNode
open_at (live proof bound) [] = Some (record { bound = bound; is_leaf = true })
open_at (live proof bound) (side ∷ path) = Some (record { bound = bound; is_leaf = false })
open_at (shut proof) path = None
open_at (fork v at low high) [] = None
open_at (fork v at low high) (Low ∷ path) = open_at low path
open_at (fork v at low high) (High ∷ path) = open_at high path

-- a node that is open in two trees, with the better of its bounds; it is a leaf where it is one in either
abbrev pub open_in_both : Option OpenNode → Option OpenNode → Option OpenNode
open_in_both None o = None
open_in_both (Some m) None = None
open_in_both (Some m) (Some n) = Some (record { bound = int_max m.bound n.bound; is_leaf = m.is_leaf || n.is_leaf })

-- the bound of the live leaf at a path, if there is one
abbrev pub live_bound : GrowingTree → List Side → Option ℤ
live_bound t path = option_map (λ leaf. leaf.bound) (live_at t path)

-- a node of this path and zone is a live leaf of a tree or lies below one, and its bound is no less than that leaf's
pub record LiesUnder (spans : List Span) (t : GrowingTree) (zone : List Span) (path : List Side) (bound : ℤ) : Type 0 where
  pub above : List Side
  pub rest : List Side
  pub leaf : LiveLeaf
  pub way : path ≡ above ++ rest
  pub live : live_at t above ≡ Some leaf
  pub inside : IsSubzone zone (zone_at t spans above)
  pub no_less : leaf.bound ≤ℤ bound

-- a tree is as far as another: what is live in it was live there, and its bounds are no less
abbrev pub IsAsFarAs : List Span → (t old : GrowingTree) → Type 0
IsAsFarAs spans t old = (path : List Side) (leaf : LiveLeaf) → live_at t path ≡ Some leaf → LiesUnder spans old (zone_at t spans path) path leaf.bound
