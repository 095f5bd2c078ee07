-- What is told and written of the outcome of a search.
use Rattle.std.specs.Prelude.{◌≡◌, ℕ, ◌+◌, List, Option, Some, None, ◌⊎◌, ◌++◌}
use Rattle.bp_theory.specs.Trees.{steps}
use Rattle.bp_theory.specs.Claims.{Certificate, IsCertified}
use Rattle.bp_shelf.specs.Shelf.{Files}
use Rattle.block_program.specs.Blocked.{BlockedProgram}
use Rattle.search_laws.specs.Outcomes.{read_off}
use Rattle.branch_tree.specs.declared.outcome.Outcome.{Outcome}
use Rattle.branch_tree.specs.declared.outcome.Outcome.TheVariants.{Optimal, Infeasible, Budget}
use Rattle.bp_search.specs.Ends.{given_steps}
use Rattle.cert_format.specs.Plain.{version_with}
use Rattle.cert_format.specs.Fault.{IsText}
use Rattle.cert_format.specs.Written.{cert_of}
use Rattle.cert_text.specs.Programs.{frame_for}
use Rattle.cert_text.specs.Outcomes.{grove_of, claim_of, point_of}
use Rattle.bp_report.specs.Report.{solve_report}
use Rattle.frontend.specs.declared.ending.Reply.{Reply}

-- the status of an outcome: optimal, infeasible, or out of steps
abbrev pub outcome_status : Outcome → ℕ
outcome_status (Optimal g point value) = 0
outcome_status (Infeasible g) = 4
outcome_status (Budget g best bound) = 5

-- the certificate of an outcome: its tree, its claim, the point of the claimed value, and the cuts of the program that it is of
abbrev pub outcome_certificate : BlockedProgram → Outcome → Certificate
outcome_certificate b o = read_off (claim_of b.named.program.maximises o) (point_of o) b.cuts (grove_of o).tree

-- a text spells the certificate of an outcome, and it is valid
pub record IsSpelledOut (b : BlockedProgram) (outcome : Outcome) (text : List ℕ) : Type 0 where
  pub spelled : IsText (frame_for b) (version_with b.cuts) (cert_of (outcome_certificate b outcome)) text
  pub valid : IsCertified b.named.program b.dec (outcome_certificate b outcome)

-- what is kept of an outcome, and printed for it: its status, and the report that tells so many steps
pub record TellsOf (b : BlockedProgram) (told : Option ℕ) (outcome : Outcome) (kept : Option Outcome) (status : ℕ) (report : List ℕ) : Type 0 where
  pub is_kept : kept ≡ Some outcome
  pub has_status : status ≡ outcome_status outcome
  pub has_report : report ≡ solve_report b.named (given_steps told) outcome

-- the report on an outcome of a search of so many steps, with its status
pub record IsSolved (b : BlockedProgram) (steps : Option ℕ) (outcome : Outcome) (reply : Reply) : Type 0 where
  pub ended : reply.status ≡ outcome_status outcome
  pub told : reply.report.items ≡ solve_report b.named (given_steps steps) outcome

-- the file for a certificate, where one is named, spells the certificate of an outcome, and it is valid
abbrev pub IsSaved : BlockedProgram → Outcome → Option (List ℕ) → Files → Type 0
IsSaved b outcome None files = Unit {0}
IsSaved b outcome (Some name) files = (text : List ℕ) × (files name ≡ Some text) × IsSpelledOut b outcome text

-- the same of an outcome that is kept
abbrev pub SavesBlocked : BlockedProgram → Option (List ℕ) → Files → Option Outcome → Type 0
SavesBlocked b cert files None = Unit {0}
SavesBlocked b cert files (Some outcome) = IsSaved b outcome cert files

-- a file holds a beginning of the certificate of an outcome, which is valid as a whole
abbrev pub IsPartOf : BlockedProgram → Outcome → Option (List ℕ) → Type 0
IsPartOf b outcome file = (part : List ℕ) × (rest : List ℕ) × (file ≡ Some part) × IsSpelledOut b outcome (part ++ rest)

-- a file holds a beginning of the certificate of an outcome that is a right answer
pub record HoldsPart (Right : Option Outcome → ℕ → List ℕ → Type 0) (b : BlockedProgram) (file : Option (List ℕ)) : Type 0 where
  pub outcome : Outcome
  pub status : ℕ
  pub report : List ℕ
  pub right : Right (Some outcome) status report
  pub part : IsPartOf b outcome file

-- the file for a certificate, where one is named, is as before or holds this
abbrev pub AsBeforeOr : (Part : Option (List ℕ) → Type 0) → Option (List ℕ) → (before now : Files) → Type 0
AsBeforeOr Part None before now = Unit {0}
AsBeforeOr Part (Some name) before now = (now name ≡ before name) ⊎ Part (now name)
