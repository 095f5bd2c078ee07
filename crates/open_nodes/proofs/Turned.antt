-- How far a path was gone down.
use Rattle.std.proofs.Common.{◌≡◌, ℕ, List, take, drop, reverse}
use Rattle.search_laws.specs.Grove.{GrowingTree, put_at}
use Rattle.search_laws.specs.declared.Side.{Side}
use Rattle.open_nodes.specs.Turned.{whole}

-- a tree of which a node and the fork above it are left at a place of a path
pub record IsTurnedTo (tree : GrowingTree) (path : List Side) (index depth : ℕ) (node above : GrowingTree) : Type 0 where
  pub same : depth ≡ index
  pub turned : (new : GrowingTree) → put_at tree path new ≡ whole (reverse (take index path)) (put_at node (drop index path) new) above
