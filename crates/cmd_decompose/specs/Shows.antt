-- What `show` answers.
use Rattle.std.specs.Prelude.{◌≡◌, ℕ, Bool, List, Option}
use Rattle.bp_theory.specs.declared.Limits.{Limits}
use Rattle.bp_shelf.specs.Shelf.{Files}
use Rattle.block_program.specs.Blocked.{BlockedProgram}
use Rattle.block_class.specs.Classes.{Grouping, AreSameClasses}
use Rattle.bp_report.specs.Report.{show_report_with}
use Rattle.frontend.specs.Answers.{AnswersFront}
use Rattle.frontend.specs.declared.ending.Reply.{Reply}

-- what a program in blocks is answered by `show`: its sizes, its classes at the root and, where they are wanted, all its blocks or the first of each class
pub record ShowsBlocked (blocks firsts : Bool) (b : BlockedProgram) (status : ℕ) (report : List ℕ) : Type 0 where
  pub classes : Grouping
  pub same : AreSameClasses b.named.program.spans b.blocking classes
  pub done : status ≡ 0
  pub printed : report ≡ show_report_with b classes blocks firsts

-- what `show` answers
abbrev pub AnswersShow : Limits → Files → (lp : List ℕ) → (dec : Option (List ℕ)) → (blocks firsts : Bool) → (status : ℕ) → (report : List ℕ) → Type 0
AnswersShow limits files lp dec blocks firsts status report = AnswersFront limits files lp dec (Unit {0}) (ShowsBlocked blocks firsts) status report

-- the reply to `show`
abbrev pub RepliesShow : (blocks firsts : Bool) → BlockedProgram → Reply → Type 0
RepliesShow blocks firsts b reply = ShowsBlocked blocks firsts b reply.status reply.report.items
