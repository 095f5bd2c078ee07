-- A tree on the way down a path: each fork above the node has the fork above itself in the place of the part that the path goes on in.
use Rattle.std.specs.Prelude.{List, [], ◌∷◌, Option, Some, None}
use Rattle.search_laws.specs.Grove.{GrowingTree, live, shut, fork}
use Rattle.search_laws.specs.declared.Side.{Side}
use Rattle.search_laws.specs.declared.Side.TheVariants.{Low, High}

-- the part of a node on a side, with the fork above it; none of a leaf
abbrev pub gone_down : Side → (node above : GrowingTree) → Option (GrowingTree × GrowingTree)
gone_down side (live proof bound) above = None
gone_down side (shut proof) above = None
gone_down Low (fork v at low high) above = Some (low, fork v at above high)
gone_down High (fork v at low high) above = Some (high, fork v at low above)

-- the whole tree of a node, the fork above it, and the sides that lead to the node, the nearest first
abbrev pub whole : List Side → (node above : GrowingTree) → GrowingTree
whole [] node above = node
whole (side ∷ sides) node (live proof bound) = whole sides node (live proof bound)
whole (side ∷ sides) node (shut proof) = whole sides node (shut proof)
whole (Low ∷ sides) node (fork v at up high) = whole sides (fork v at node high) up
whole (High ∷ sides) node (fork v at low up) = whole sides (fork v at low node) up
