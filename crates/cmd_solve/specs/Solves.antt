-- What `solve` answers.
use Rattle.std.specs.Prelude.{◌≡◌, ℕ, ◌+◌, List, [], Option, Some, None}
use Rattle.bp_theory.specs.declared.Limits.{Limits}
use Rattle.bp_theory.specs.Trees.{steps}
use Rattle.bp_shelf.specs.Shelf.{Files}
use Rattle.block_program.specs.Blocked.{BlockedProgram}
use Rattle.search_laws.specs.declared.Side.{Side}
use Rattle.search_laws.specs.Grove.{GrowingTree, certificate_tree}
use Rattle.branch_tree.specs.declared.outcome.Outcome.{Outcome}
use Rattle.branch_tree.specs.declared.loaded.Loaded.{Loaded}
use Rattle.bp_search.specs.Ends.{EndsWithin, given_steps}
use Rattle.bp_search.specs.Below.{EndsBelow}
use Rattle.bp_report.specs.Report.{solve_report}
use Rattle.frontend.specs.Answers.{AnswersFront}
use Rattle.search_outcome.specs.Outcomes.{outcome_status}
use Rattle.search_start.specs.Cuttings.{HasCuts}
use Rattle.search_start.specs.Starts.{IsStartAt, RefusesStart}

-- what a program in blocks is answered by `solve`: the outcome of a search whose tree has at most so many steps, which is
-- kept; the report tells the given steps
pub record SolvesBlocked (most : ℕ) (steps : Option ℕ) (kept : Option Outcome) (b : BlockedProgram) (status : ℕ) (report : List ℕ) : Type 0 where
  pub outcome : Outcome
  pub is_kept : kept ≡ Some outcome
  pub is_outcome : EndsWithin b most outcome
  pub has_status : status ≡ outcome_status outcome
  pub has_report : report ≡ solve_report b.named (given_steps steps) outcome

-- the same of a search that works only at a path of a tree and below it: the report tells the steps that were taken
pub record SolvesBelow (start : GrowingTree) (path : List Side) (given : Option ℕ) (kept : Option Outcome) (b : BlockedProgram) (status : ℕ) (report : List ℕ) : Type 0 where
  pub outcome : Outcome
  pub is_kept : kept ≡ Some outcome
  pub is_outcome : EndsBelow b start path given outcome
  pub has_status : status ≡ outcome_status outcome
  pub has_report : report ≡ solve_report b.named is_outcome.taken outcome

-- what a program in blocks is answered by `solve` that goes on from a tree, with the given steps beside those of the tree: the
-- outcome of a search of the whole tree, or of one at a path and below it alone
abbrev pub SolvesOn : (start : GrowingTree) → (below : Option (List Side)) → (given : Option ℕ) → Option Outcome → BlockedProgram → (status : ℕ) → (report : List ℕ) → Type 0
SolvesOn start None given kept b status report = SolvesBlocked (steps (certificate_tree start) + given_steps given) given kept b status report
SolvesOn start (Some path) given kept b status report = SolvesBelow start path given kept b status report

-- what a program in blocks is answered by `solve` from the start: the outcome of a search over the program with the cuts that are added
pub record SolvesAfresh (given : Option ℕ) (cuts : ℕ) (kept : Option Outcome) (b : BlockedProgram) (status : ℕ) (report : List ℕ) : Type 0 where
  pub over : BlockedProgram
  pub has_cuts : HasCuts b [] cuts over
  pub solves : SolvesBlocked (given_steps given) given kept over status report

-- what a program in blocks is answered by `solve` that goes on from a named file: what `check` answers where the file isn't
-- there or has no valid certificate, the line of a leaf that is too deep, the number of an open leaf that isn't there, or else
-- the outcome of a search that goes on from what is loaded, over the program with the certificate's cuts and those that are added behind them,
-- at and below the named leaf alone where one is named
pub data SolvesFrom (files : Files) (name : List ℕ) (leaf : Option ℕ) (given : Option ℕ) (cuts : ℕ) (kept : Option Outcome) (b : BlockedProgram) (status : ℕ) (report : List ℕ) : Type 0 where
  missing : files name ≡ None → kept ≡ None → status ≡ 11 → report ≡ [] → SolvesFrom files name leaf given cuts kept b status report
  refused : (text : List ℕ) → files name ≡ Some text → kept ≡ None → RefusesStart b leaf text status report
      → SolvesFrom files name leaf given cuts kept b status report
  went_on : (text : List ℕ) (from : Loaded) (below : Option (List Side)) (c : BlockedProgram) → files name ≡ Some text
      → (at : IsStartAt b leaf text from below) → HasCuts b at.start.cert.cuts cuts c
      → SolvesOn from.grove.tree below given kept c status report → SolvesFrom files name leaf given cuts kept b status report

-- what a program in blocks is answered by `solve`, from a named file or from the start
abbrev pub SolvesBy : Files → (from : Option (List ℕ)) → (leaf : Option ℕ) → (given : Option ℕ) → (cuts : ℕ) → Option Outcome → BlockedProgram → (status : ℕ) → (report : List ℕ) → Type 0
SolvesBy files None leaf given cuts kept b status report = SolvesAfresh given cuts kept b status report
SolvesBy files (Some name) leaf given cuts kept b status report = SolvesFrom files name leaf given cuts kept b status report

-- what a program in blocks is answered by `solve` from a tree that was loaded, or from the start
abbrev pub SolvesAt : Option Loaded → (below : Option (List Side)) → (given : Option ℕ) → Option Outcome → BlockedProgram → (status : ℕ) → (report : List ℕ) → Type 0
SolvesAt None below given kept b status report = SolvesBlocked (given_steps given) given kept b status report
SolvesAt (Some from) below given kept b status report = SolvesOn from.grove.tree below given kept b status report

-- what `solve` answers; nothing is kept where it is stopped
abbrev pub AnswersSolve : Limits → Files → (lp : List ℕ) → (dec : Option (List ℕ)) → (steps : Option ℕ) → (from : Option (List ℕ)) → (leaf : Option ℕ) → (cuts : ℕ) → Option Outcome → (status : ℕ) → (report : List ℕ) → Type 0
AnswersSolve limits files lp dec steps from leaf cuts kept status report = AnswersFront limits files lp dec (kept ≡ None) (SolvesBy files from leaf steps cuts kept) status report
