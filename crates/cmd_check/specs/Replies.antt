-- The replies of `check`.
use Rattle.std.specs.Prelude.{◌≡◌, ℕ, Bool, IsTrue, List, take, length, Option, Some, IfSome}
use Rattle.bp_shelf.specs.Shelf.{Files}
use Rattle.block_program.specs.Blocked.{BlockedProgram}
use Rattle.cert_check.specs.declared.judge.Judged.{Judged}
use Rattle.cert_check.specs.declared.judge.Judged.TheVariants.{Accepted, Rejected, Unknown}
use Rattle.cert_stream.specs.Checks.{ChecksFor}
use Rattle.cert_stream.specs.declared.checker.Checker.{Checker}
use Rattle.cert_report.specs.Certificates.{check_report}
use Rattle.frontend.specs.declared.ending.Reply.{Reply}
use Rattle.cmd_check.specs.Checks.{ChecksVisiting}

-- the reply to a certificate's file
abbrev pub RepliesFrom : (visits : Option ℕ) → Files → List ℕ → BlockedProgram → Reply → Type 0
RepliesFrom visits files cert b reply = ChecksVisiting visits files cert b reply.status reply.report.items

-- the reply to a certificate's text, in whatever file it stands
abbrev pub IsReplyTo : (visits : Option ℕ) → BlockedProgram → List ℕ → Reply → Type 0
IsReplyTo visits b text reply = (files : Files) (cert : List ℕ) → files cert ≡ Some text → RepliesFrom visits files cert b reply

-- a checker stands for a text: that of a file, where files are told
pub record StandsForFile (told : Bool) (file : Option (List ℕ)) (b : BlockedProgram) (visits : Option ℕ) (checker : Checker) : Type 0 where
  pub text : List ℕ
  pub stands : ChecksFor b visits checker text
  pub there : IsTrue told → file ≡ Some text

-- the same of the first bytes of a file, so many
pub record StandsForFront (told : Bool) (file : Option (List ℕ)) (b : BlockedProgram) (visits : Option ℕ) (checker : Checker) (count : ℕ) : Type 0 where
  pub text : List ℕ
  pub stands : ChecksFor b visits checker text
  pub size : length text ≡ count
  pub front : IsTrue told → IfSome file (λ all. text ≡ take count all)

-- the status of a judged certificate: accepted, rejected or unknown
abbrev pub judged_status : Judged → ℕ
judged_status (Accepted claim) = 0
judged_status (Rejected line kind) = 6
judged_status (Unknown line) = 10

-- the reply to a judged certificate
pub record TellsJudged (judged : Judged) (reply : Reply) : Type 0 where
  pub ended : reply.status ≡ judged_status judged
  pub told : reply.report.items ≡ check_report judged
