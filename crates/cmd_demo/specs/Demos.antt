-- What `demo` answers.
use Rattle.std.specs.Prelude.{◌≡◌, ℕ, List, [], ◌∷◌, Option, Some, None}
use Rattle.bp_theory.specs.Limits.{demo_steps}
use Rattle.bp_theory.specs.Claims.{IsCertified}
use Rattle.bp_theory.specs.declared.Limits.TheVariants.{Usual}
use Rattle.bp_shelf.specs.Shelf.{Files}
use Rattle.bp_shelf.specs.declared.shelf.ShelfFault.TheVariants.{NoMemory}
use Rattle.block_program.specs.Blocked.{BlockedProgram}
use Rattle.branch_tree.specs.declared.outcome.Outcome.{Outcome}
use Rattle.bp_search.specs.Ends.{IsOutcome}
use Rattle.bp_gen.specs.Generator.{lp_text, dec_text}
use Rattle.cert_check.specs.declared.judge.Judged.TheVariants.{Accepted}
use Rattle.cert_report.specs.Certificates.{demo_report}
use Rattle.frontend.specs.Front.{Front, FilesCome, blocked, ends}
use Rattle.frontend.specs.Answers.{AnswersFront}
use Rattle.frontend.specs.declared.ending.Reply.{Reply}
use Rattle.frontend.specs.declared.front.Halt.{Halt}
use Rattle.frontend.specs.declared.front.Halt.TheVariants.{Refused, Stopped}
use Rattle.search_outcome.specs.Outcomes.{outcome_status, outcome_certificate}

-- the files of a seed and a size, which stand nowhere but in memory: the empty name is that of the LP text, and every other name is that of the DEC text
abbrev pub made_files : (seed size : ℕ) → Files
made_files seed size [] = Some (lp_text seed size)
made_files seed size (byte ∷ name) = Some (dec_text size)

-- what these files come to under the usual limits
abbrev pub MadeCome : (seed size : ℕ) → Front → Type 0
MadeCome seed size front = FilesCome Usual (made_files seed size) [] (Some (0 ∷ [])) front

-- what a program in blocks is answered by `demo`: the outcome of a search of the demonstration's steps, which is kept, and that its certificate is accepted
pub record DemosBlocked (seed size : ℕ) (kept : Option Outcome) (b : BlockedProgram) (status : ℕ) (report : List ℕ) : Type 0 where
  pub outcome : Outcome
  pub is_kept : kept ≡ Some outcome
  pub is_outcome : IsOutcome b (Some demo_steps) outcome
  pub valid : IsCertified b.named.program b.dec (outcome_certificate b outcome)
  pub has_status : status ≡ outcome_status outcome
  pub has_report : report ≡ demo_report seed size b.named outcome (Accepted (outcome_certificate b outcome).claim)

-- what `demo` answers; nothing is kept where it is stopped
abbrev pub AnswersDemo : (seed size : ℕ) → Option Outcome → (status : ℕ) → (report : List ℕ) → Type 0
AnswersDemo seed size kept status report =
    AnswersFront Usual (made_files seed size) [] (Some (0 ∷ [])) (kept ≡ None) (DemosBlocked seed size kept) status report

-- the summary of an outcome
abbrev pub IsSummary : (seed size : ℕ) → BlockedProgram → Outcome → Reply → Type 0
IsSummary seed size b outcome reply = DemosBlocked seed size (Some outcome) b reply.status reply.report.items

-- the summary of the made program's outcome, with the outcome
abbrev pub IsDemo : (seed size : ℕ) → Reply × Outcome → Type 0
IsDemo seed size end = (b : BlockedProgram) × MadeCome seed size (blocked b) × IsSummary seed size b end.1 end.0

-- the made texts come to this end of a run: a refusal, or want of memory
abbrev pub DemoHalts : (seed size : ℕ) → Halt → Type 0
DemoHalts seed size (Refused report) = MadeCome seed size (ends 3 report.items)
DemoHalts seed size (Stopped fault) = fault ≡ NoMemory
