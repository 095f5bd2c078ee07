-- What `solve` prints and writes for an outcome.
use Rattle.std.specs.Prelude.{◌≡◌, ℕ, ◌+◌, ◌⊎◌, List, [], Option, Some, None}
use Rattle.bp_shelf.specs.Shelf.{Files}
use Rattle.block_program.specs.Blocked.{BlockedProgram}
use Rattle.branch_tree.specs.declared.outcome.Outcome.{Outcome}
use Rattle.branch_tree.specs.declared.loaded.Loaded.{Loaded}
use Rattle.bp_theory.specs.declared.Limits.{Limits}
use Rattle.bp_theory.specs.Trees.{steps}
use Rattle.search_laws.specs.declared.Side.{Side}
use Rattle.search_laws.specs.Grove.{GrowingTree, certificate_tree}
use Rattle.bp_search.specs.Ends.{EndsWithin, given_steps}
use Rattle.bp_search.specs.Below.{EndsBelow}
use Rattle.frontend.specs.Front.{FilesCome, blocked, ends}
use Rattle.search_outcome.specs.Outcomes.{IsSaved, HoldsPart, AsBeforeOr}
use Rattle.search_start.specs.Cuttings.{HasCuts}
use Rattle.search_start.specs.Starts.{IsStartAt, RefusesStart, SearchesOver}
use Rattle.cmd_solve.specs.Solves.{SolvesBy}

-- the same of a search from a named file or from the start, over the program with its cuts
abbrev pub SavesBy : (before : Files) → (from : Option (List ℕ)) → (cuts : ℕ) → BlockedProgram → (cert : Option (List ℕ)) → (now : Files) → Option Outcome → Type 0
SavesBy before from cuts b cert now None = Unit {0}
SavesBy before from cuts b cert now (Some outcome) = (c : BlockedProgram) × SearchesOver before from cuts b c × IsSaved c outcome cert now

-- the same of the program in blocks that the files come to
abbrev pub HasCertificate : Limits → Files → List ℕ → Option (List ℕ) → (cert from : Option (List ℕ)) → (cuts : ℕ) → Files → Option Outcome → Type 0
HasCertificate limits before lp dec cert from cuts now None = Unit {0}
HasCertificate limits before lp dec cert from cuts now (Some outcome) =
    (b : BlockedProgram) × FilesCome limits before lp dec (blocked b) × SavesBy before from cuts b cert now (Some outcome)

-- an outcome of a search whose tree has at most so many steps has its certificate in the file that is named for it
abbrev pub LeavesBlocked : (most : ℕ) → Option (List ℕ) → Files → BlockedProgram → Type 0
LeavesBlocked most cert files b = (outcome : Outcome) × EndsWithin b most outcome × IsSaved b outcome cert files

-- the same of a search at a path of a tree and below it alone
abbrev pub LeavesBelow : (start : GrowingTree) → (path : List Side) → (given : Option ℕ) → Option (List ℕ) → Files → BlockedProgram → Type 0
LeavesBelow start path given cert files b = (outcome : Outcome) × EndsBelow b start path given outcome × IsSaved b outcome cert files

-- the same of a search that goes on from a tree, everywhere in it or at a path and below it alone
abbrev pub LeavesOn : (start : GrowingTree) → (below : Option (List Side)) → (given : Option ℕ) → Option (List ℕ) → Files → BlockedProgram → Type 0
LeavesOn start None given cert files b = LeavesBlocked (steps (certificate_tree start) + given_steps given) cert files b
LeavesOn start (Some path) given cert files b = LeavesBelow start path given cert files b

-- the same of a search from a tree that was loaded, or from the start
abbrev pub LeavesAt : Option Loaded → (below : Option (List Side)) → (given : Option ℕ) → Option (List ℕ) → Files → BlockedProgram → Type 0
LeavesAt None below given cert files b = LeavesBlocked (given_steps given) cert files b
LeavesAt (Some from) below given cert files b = LeavesOn from.grove.tree below given cert files b

-- the same of a search from the start, over the program with the cuts that are added
pub record LeavesAfresh (given : Option ℕ) (cuts : ℕ) (cert : Option (List ℕ)) (now : Files) (b : BlockedProgram) : Type 0 where
  pub over : BlockedProgram
  pub has_cuts : HasCuts b [] cuts over
  pub leaves : LeavesBlocked (given_steps given) cert now over

-- the same of a search that goes on from a named file, over the program with the cuts of its certificate and those that are added behind them; where
-- the file is no start nothing is written
pub data LeavesFrom (before : Files) (name : List ℕ) (leaf : Option ℕ) (given : Option ℕ) (cuts : ℕ) (cert : Option (List ℕ)) (now : Files) (b : BlockedProgram) : Type 0 where
  refused : (text : List ℕ) (status : ℕ) (report : List ℕ) → before name ≡ Some text → RefusesStart b leaf text status report → now ≡ before
      → LeavesFrom before name leaf given cuts cert now b
  went_on : (text : List ℕ) (from : Loaded) (below : Option (List Side)) (c : BlockedProgram) → before name ≡ Some text
      → (at : IsStartAt b leaf text from below) → HasCuts b at.start.cert.cuts cuts c
      → LeavesOn from.grove.tree below given cert now c → LeavesFrom before name leaf given cuts cert now b

-- the same of a search from a named file or from the start
abbrev pub LeavesBy : (before : Files) → (from : Option (List ℕ)) → (leaf : Option ℕ) → (given : Option ℕ) → (cuts : ℕ) → (cert : Option (List ℕ)) → (now : Files) → BlockedProgram → Type 0
LeavesBy before None leaf given cuts cert now b = LeavesAfresh given cuts cert now b
LeavesBy before (Some name) leaf given cuts cert now b = LeavesFrom before name leaf given cuts cert now b

-- What stands where the report on the files could not be put: where they are refused, every file is as before, and where they come
-- to a program in blocks, what its search left.
pub data LeavesCertificate (limits : Limits) (before : Files) (lp : List ℕ) (dec : Option (List ℕ)) (given : Option ℕ) (cert from : Option (List ℕ)) (leaf : Option ℕ) (cuts : ℕ) (now : Files) : Type 0 where
  stopped : (status : ℕ) (report : List ℕ) → FilesCome limits before lp dec (ends status report) → now ≡ before → LeavesCertificate limits before lp dec given cert from leaf cuts now
  searched : (b : BlockedProgram) → FilesCome limits before lp dec (blocked b) → LeavesBy before from leaf given cuts cert now b → LeavesCertificate limits before lp dec given cert from leaf cuts now

-- statuses after which no file is changed
abbrev pub IsUntouched : ℕ → Type 0
IsUntouched status = (status ≡ 2) ⊎ (status ≡ 3) ⊎ (status ≡ 6) ⊎ (status ≡ 7) ⊎ (status ≡ 11)

-- a file holds a beginning of the certificate of an outcome that is a right answer, over the program in blocks of the search
abbrev pub HoldsPartBy : (before : Files) → (from : Option (List ℕ)) → (leaf given : Option ℕ) → (cuts : ℕ) → BlockedProgram → Option (List ℕ) → Type 0
HoldsPartBy before from leaf given cuts b file =
    (c : BlockedProgram) × SearchesOver before from cuts b c × HoldsPart (λ kept. SolvesBy before from leaf given cuts kept b) c file

-- What stands where memory was wanting: the file for a certificate, where one is named, is as before, or holds a beginning of the
-- certificate of an outcome of the program in blocks that the files come to.
abbrev pub LeavesPart : Limits → (before : Files) → (lp : List ℕ) → (dec : Option (List ℕ)) → (given : Option ℕ) → (cert from : Option (List ℕ)) → (leaf : Option ℕ) → (cuts : ℕ) → (now : Files) → Type 0
LeavesPart limits before lp dec given cert from leaf cuts now =
    AsBeforeOr (λ file. (b : BlockedProgram) × FilesCome limits before lp dec (blocked b) × HoldsPartBy before from leaf given cuts b file) cert before now
