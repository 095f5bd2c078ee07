-- What a loaded tree keeps.
use Rattle.std.specs.Prelude.{◌≡◌, None}
use Rattle.block_program.specs.Blocked.{BlockedProgram}
use Rattle.branch_tree.specs.Groves.{IsPlanted}
use Rattle.branch_tree.specs.Adopted.{IsSearchState}
use Rattle.branch_tree.specs.declared.loaded.Loaded.{Loaded}

-- a search of a program in blocks may go on from what is loaded
abbrev pub IsLoaded : BlockedProgram → Loaded → Type 0
IsLoaded b from = IsSearchState b from.grove from.best

-- the start of a search: the planted grove, and no best point
pub record IsFresh (b : BlockedProgram) (from : Loaded) : Type 0 where
  pub planted : IsPlanted b from.grove
  pub none : from.best ≡ None
