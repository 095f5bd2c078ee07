-- What else a run promises beside its headline: an outcome for each accepted decomposition, a certificate that `check` accepts, and
-- an answer to `demo` that hangs on no file.
use Rattle.std.specs.Prelude.{◌≡◌, ◌≢◌, ◌⊎◌, ℕ, Bool, List, Option, Some, None, IfSome, Vec}
use Rattle.std.specs.Global.{Global}
use Rattle.bp_theory.specs.declared.Claim.{Claim}
use Rattle.bp_shelf.specs.Shelf.{Files}
use Rattle.block_program.specs.Blocked.{BlockedProgram}
use Rattle.branch_tree.specs.declared.outcome.Outcome.{Outcome}
use Rattle.cli_orders.specs.declared.order.Order.{Order}
use Rattle.cli_orders.specs.declared.order.Order.TheVariants.{Solve, Check, Show, Gen, Demo, Detect, Propose, Merge, Migrate}
use Rattle.cert_report.specs.Certificates.{accepted_report}
use Rattle.frontend.specs.Front.{FilesCome, blocked}
use Rattle.frontend.specs.Answers.{AnswersBy, IsOnly, CutsOff}
use Rattle.cmd_check.specs.Checks.{AnswersCheck}
use Rattle.cmd_demo.specs.Demos.{AnswersDemo}
use Rattle.bp_cli.specs.Headline.{IsOutcomeStatus, WasStopped}

-- `solve` tells an outcome of the files of a model and of its decomposition that come to a program in blocks, unless it was stopped
abbrev pub SolvesDecomposed : Order → Files → (status : ℕ) → Type 0
SolvesDecomposed (Solve given) files status =
    given.from ≡ None → (b : BlockedProgram) → FilesCome given.limits files given.lp given.dec (blocked b) → IsOutcomeStatus status ⊎ WasStopped status
SolvesDecomposed (Check given) files status = Unit {0}
SolvesDecomposed (Show lp dec blocks classes limits) files status = Unit {0}
SolvesDecomposed (Gen seed size lp dec) files status = Unit {0}
SolvesDecomposed (Demo seed size) files status = Unit {0}
SolvesDecomposed (Detect lp list dec limits) files status = Unit {0}
SolvesDecomposed (Propose lp dec limits) files status = Unit {0}
SolvesDecomposed (Merge given) files status = Unit {0}
SolvesDecomposed (Migrate lp cert new dec limits) files status = Unit {0}

-- where an outcome is kept, `check` accepts the certificate that was written, if it isn't written over the model or the decomposition
abbrev pub WritesCertificate : Order → (now : Files) → Option Outcome → Type 0
WritesCertificate (Solve given) now kept = IfSome given.cert (λ cert. IfSome kept (λ outcome.
    cert ≢ given.lp → given.dec ≢ Some cert → (claim : Claim) × AnswersCheck given.limits now given.lp cert given.dec None 0 (accepted_report claim)))
WritesCertificate (Check given) now kept = Unit {0}
WritesCertificate (Show lp dec blocks classes limits) now kept = Unit {0}
WritesCertificate (Gen seed size lp dec) now kept = Unit {0}
WritesCertificate (Demo seed size) now kept = Unit {0}
WritesCertificate (Detect lp list dec limits) now kept = Unit {0}
WritesCertificate (Propose lp dec limits) now kept = Unit {0}
WritesCertificate (Merge given) now kept = Unit {0}
WritesCertificate (Migrate lp cert new dec limits) now kept = Unit {0}

-- `demo` uses no file: its answer, its status and what is put of a report that is cut off are right whatever the shelf tells
abbrev pub Demonstrates : Order → Option Outcome → (status : ℕ) → (lost : Option (Vec ℕ Global)) → (tells : Bool) → (before now : List ℕ) → Type 0
Demonstrates (Demo seed size) kept status lost tells before now =
    AnswersBy (AnswersDemo seed size kept) status tells before now × IsOnly (AnswersDemo seed size kept) status × CutsOff (AnswersDemo seed size) status lost tells before now
Demonstrates (Solve given) kept status lost tells before now = Unit {0}
Demonstrates (Check given) kept status lost tells before now = Unit {0}
Demonstrates (Show lp dec blocks classes limits) kept status lost tells before now = Unit {0}
Demonstrates (Gen seed size lp dec) kept status lost tells before now = Unit {0}
Demonstrates (Detect lp list dec limits) kept status lost tells before now = Unit {0}
Demonstrates (Propose lp dec limits) kept status lost tells before now = Unit {0}
Demonstrates (Merge given) kept status lost tells before now = Unit {0}
Demonstrates (Migrate lp cert new dec limits) kept status lost tells before now = Unit {0}
