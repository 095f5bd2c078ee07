-- A grove that a tree is made into, and a tree from which a search goes on.
use Rattle.std.specs.Prelude.{◌≡◌, List, Option, Some, option_map, IfSome, ℤ}
use Rattle.bp_theory.specs.Program.{cost}
use Rattle.block_program.specs.Blocked.{BlockedProgram}
use Rattle.search_laws.specs.declared.Side.{Side}
use Rattle.search_laws.specs.Grove.{GrowingTree, LiveLeaf, live_at}
use Rattle.search_laws.specs.GroveFacts.{IsSearch}
use Rattle.open_nodes.specs.Queues.{queue_of}
use Rattle.open_nodes.specs.Filled.{place_of}
use Rattle.branch_tree.specs.Groves.{GroveState, IsStanding}

-- a tree as a grove of a program: it begins with the program's spans, and the live leaves count as made in preorder, from 0
pub record IsAdopted (b : BlockedProgram) (t : GrowingTree) (g : GroveState) : Type 0 where
  pub tree : g.tree ≡ t
  pub root : g.root ≡ b.named.program.spans
  pub numbered : (path : List Side) (leaf : LiveLeaf) → live_at t path ≡ Some leaf → queue_of g.queue leaf.bound (place_of t path) ≡ Some path

-- the point of a point with its cost
abbrev pub point_in : Option (List ℤ × ℤ) → Option (List ℤ)
point_in best = option_map (λ k. k.0) best

-- a tree and a best point of a program in blocks from which a search goes on: the grove stands on the program's spans, its
-- leaves keep their facts, none is too deep, the point is feasible with its cost beside it, and each shut leaf is settled
-- against that cost, or empty where there is no point
pub record IsSearchState (b : BlockedProgram) (g : GroveState) (best : Option (List ℤ × ℤ)) : Type 0 where
  pub standing : IsStanding g
  pub root : g.root ≡ b.named.program.spans
  pub search : IsSearch b.named.program b.blocking g.tree (point_in best)
  pub costs : IfSome best (λ k. k.1 ≡ cost b.named.program k.0)
