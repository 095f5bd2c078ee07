-- What is loaded of a certificate.
use Rattle.std.specs.Prelude.{◌≡◌, ℕ, Result, Ok, Err}
use Rattle.bp_theory.specs.Claims.{Certificate}
use Rattle.block_program.specs.Blocked.{BlockedProgram}
use Rattle.search_laws.specs.Grove.{GrowingTree}
use Rattle.search_laws.specs.GroveFacts.{best_cost}
use Rattle.search_laws.specs.Loading.{Loads}
use Rattle.branch_tree.specs.Adopted.{IsAdopted, point_in}
use Rattle.branch_tree.specs.Loads.{IsLoaded}
use Rattle.branch_tree.specs.declared.loaded.Loaded.{Loaded}
use Rattle.tree_load.specs.Rooms.{rooms, IsFirstDeep, root_line}
use Rattle.cert_load.specs.declared.fault.LoadFault.{LoadFault}
use Rattle.cert_load.specs.declared.fault.LoadFault.TheVariants.{Deep, NoMemory}

-- a tree is the one that a certificate's is loaded as
abbrev pub IsLoadedTree : BlockedProgram → Certificate → GrowingTree → Type 0
IsLoadedTree b cert t = Loads b.blocking (best_cost b.named.program cert.point) b.named.program.spans cert.tree t

-- what is loaded of a certificate: each leaf is shut that the certificate's point or, without one, its emptiness settles, and
-- each other is live with its bound rounded; the point is the certificate's, and a search may go on from it
pub record IsLoadedOf (b : BlockedProgram) (cert : Certificate) (from : Loaded) : Type 0 where
  pub tree : GrowingTree
  pub loads : IsLoadedTree b cert tree
  pub adopted : IsAdopted b tree from.grove
  pub point : point_in from.best ≡ cert.point
  pub loaded : IsLoaded b from

-- a live leaf is too deep, on a certificate's first such line
pub record IsTooDeep (b : BlockedProgram) (cert : Certificate) (line : ℕ) : Type 0 where
  pub tree : GrowingTree
  pub loads : IsLoadedTree b cert tree
  pub first : IsFirstDeep b.named.program.limits (rooms tree 0 b.named.program.spans) (root_line cert.point cert.cuts) line

-- what loading a certificate answers
abbrev pub LoadsCert : BlockedProgram → Certificate → Result Loaded LoadFault → Type 0
LoadsCert b cert (Ok from) = IsLoadedOf b cert from
LoadsCert b cert (Err (Deep line)) = IsTooDeep b cert line
LoadsCert b cert (Err NoMemory) = Unit {0}
