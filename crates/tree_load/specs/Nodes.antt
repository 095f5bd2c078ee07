-- A node that is loaded, on the way down a certificate's tree.
use Rattle.std.specs.Prelude.{◌≡◌, ◌+◌, ◌<◌, ◌≤◌, ◌^◌, Option, ℤ}
use Rattle.bp_theory.specs.Limits.{greatest_depth}
use Rattle.bp_theory.specs.Blocking.{Blocking}
use Rattle.bp_theory.specs.Trees.{Tree, depth, IsZone}
use Rattle.bp_theory.specs.declared.Limits.{Limits}
use Rattle.block_program.specs.Blocked.{BlockedProgram}
use Rattle.search_laws.specs.Grove.{GrowingTree}
use Rattle.search_laws.specs.Loading.{Loads}
use Rattle.tree_load.specs.Rooms.{rooms, FindsBehind, node_count, CanLoad}
use Rattle.tree_load.specs.declared.walk.Walk.{Walk}

-- a walk may load a node
pub record MayLoad (b : BlockedProgram) (best : Option ℤ) (at : Walk) (tree : Tree) : Type 0 where
  pub zone : IsZone b.named.program.spans at.zone
  pub can : CanLoad b.blocking best at.zone tree
  pub shallow : at.depth + depth tree ≤ greatest_depth b.named.program.limits
  pub few : at.line + node_count tree < 2 ^ 64

-- a walk came back from a node that is loaded: it stands behind the node's lines
pub record IsLoadedNode (limits : Limits) (b : Blocking) (best : Option ℤ) (before : Walk) (tree : Tree) (now : GrowingTree) (after : Walk) : Type 0 where
  pub loads : Loads b best before.zone tree now
  pub zone : after.zone ≡ before.zone
  pub depth : after.depth ≡ before.depth
  pub line : after.line ≡ before.line + node_count tree
  pub deep : FindsBehind limits before.deep (rooms now before.depth before.zone) before.line after.deep
