-- What a run answers, by its words and the told files.
use Rattle.std.specs.Prelude.{◌≡◌, ℕ, List, [], Option, None}
use Rattle.bp_shelf.specs.Shelf.{Files}
use Rattle.search_laws.specs.declared.Event.{Event}
use Rattle.branch_tree.specs.declared.outcome.Outcome.{Outcome}
use Rattle.cli_orders.specs.Orders.{IsOrderOf, AreRefused, is_watched}
use Rattle.cli_orders.specs.declared.order.Order.{Order}
use Rattle.cli_orders.specs.declared.order.Order.TheVariants.{Solve, Check, Show, Gen, Demo, Detect, Propose, Merge, Migrate}
use Rattle.bp_report.specs.Refusals.{words_refusal}
use Rattle.frontend.specs.Answers.{FilesStand}
use Rattle.search_outcome.specs.Endings.{StopsAt}
use Rattle.cmd_solve.specs.Solves.{AnswersSolve}
use Rattle.cmd_solve.specs.Saves.{HasCertificate, LeavesCertificate, IsUntouched, LeavesPart}
use Rattle.cmd_solve.specs.Crews.{HasEvents}
use Rattle.cmd_check.specs.Checks.{AnswersCheck}
use Rattle.cmd_decompose.specs.Shows.{AnswersShow}
use Rattle.cmd_gen.specs.Generates.{AnswersGen, GenLeaves, GenWrites}
use Rattle.cmd_demo.specs.Demos.{AnswersDemo}
use Rattle.cmd_decompose.specs.Detects.{AnswersDetect}
use Rattle.cmd_decompose.specs.DetectFiles.{DetectLeaves, DetectWrites}
use Rattle.cmd_decompose.specs.Proposes.{AnswersPropose}
use Rattle.cmd_decompose.specs.ProposeFiles.{ProposeLeaves, ProposeWrites}
use Rattle.cmd_certificates.specs.Merges.{AnswersMerge}
use Rattle.cmd_certificates.specs.MergeFiles.{MergeLeaves, MergeWrites}
use Rattle.cmd_certificates.specs.Migrates.{AnswersMigrate}
use Rattle.cmd_certificates.specs.MigrateFiles.{MigrateLeaves, MigrateWrites}

-- an order with other steps, where it is one to solve
abbrev pub stopped_at : Order → (steps : Option ℕ) → Order
stopped_at (Solve given) steps = Solve (record given { steps = steps })
stopped_at (Check given) steps = Check given
stopped_at (Show lp dec blocks classes limits) steps = Show lp dec blocks classes limits
stopped_at (Gen seed size lp dec) steps = Gen seed size lp dec
stopped_at (Demo seed size) steps = Demo seed size
stopped_at (Detect lp list dec limits) steps = Detect lp list dec limits
stopped_at (Propose lp dec limits) steps = Propose lp dec limits
stopped_at (Merge given) steps = Merge given
stopped_at (Migrate lp cert new dec limits) steps = Migrate lp cert new dec limits

-- the steps by which an order is answered: those of the order, and of one whose search is watched no more than those
abbrev pub StopsOrder : Order → (steps : Option ℕ) → Type 0
StopsOrder (Solve given) steps = StopsAt (is_watched given.watching) given.steps steps
StopsOrder (Check given) steps = Unit {0}
StopsOrder (Show lp dec blocks classes limits) steps = Unit {0}
StopsOrder (Gen seed size lp dec) steps = Unit {0}
StopsOrder (Demo seed size) steps = Unit {0}
StopsOrder (Detect lp list dec limits) steps = Unit {0}
StopsOrder (Propose lp dec limits) steps = Unit {0}
StopsOrder (Merge given) steps = Unit {0}
StopsOrder (Migrate lp cert new dec limits) steps = Unit {0}

-- what an order is answered by the files, with what is kept
abbrev pub AnswersOrder : Order → Files → Option Outcome → (status : ℕ) → (report : List ℕ) → Type 0
AnswersOrder (Solve given) files kept status report = AnswersSolve given.limits files given.lp given.dec given.steps given.from given.leaf given.cuts kept status report
AnswersOrder (Check given) files kept status report = (kept ≡ None) × AnswersCheck given.limits files given.lp given.cert given.dec given.visits status report
AnswersOrder (Show lp dec blocks classes limits) files kept status report = (kept ≡ None) × AnswersShow limits files lp dec blocks classes status report
AnswersOrder (Gen seed size lp dec) files kept status report = (kept ≡ None) × AnswersGen size status report
AnswersOrder (Demo seed size) files kept status report = AnswersDemo seed size kept status report
AnswersOrder (Detect lp list dec limits) files kept status report = (kept ≡ None) × AnswersDetect limits files lp list status report
AnswersOrder (Propose lp dec limits) files kept status report = (kept ≡ None) × AnswersPropose limits files lp status report
AnswersOrder (Merge given) files kept status report = (kept ≡ None) × AnswersMerge given.limits files given.lp given.first given.second given.dec status report
AnswersOrder (Migrate lp cert new dec limits) files kept status report = (kept ≡ None) × AnswersMigrate limits files lp cert dec status report

-- what words are answered by the files, with what is kept, by the steps at which the search stopped: words that are no command line are
-- refused
pub data Answers (words : List (List ℕ)) (steps : Option ℕ) (files : Files) (kept : Option Outcome) (status : ℕ) (report : List ℕ) : Type 0 where
  refused : AreRefused words → kept ≡ None → status ≡ 2 → report ≡ words_refusal → Answers words steps files kept status report
  ordered : (order : Order) → IsOrderOf words order → AnswersOrder (stopped_at order steps) files kept status report → Answers words steps files kept status report

-- What an order wrote, and what stands of the files: the file of `--cert` holds the certificate of what is kept, or for want of
-- memory what it held or a beginning of the certificate of an outcome, and no other file changed; or both made texts stand, or what a fault left of them; or the text of the decomposition that was found or chosen, or
-- the certificate that was merged or written anew, likewise;
-- every other order changes no file.
abbrev pub HasWritten : Order → (before now : Files) → Option Outcome → (status : ℕ) → Type 0
HasWritten (Solve given) before now kept status =
    HasCertificate given.limits before given.lp given.dec given.cert given.from given.cuts now kept × FilesStand given.cert before now × (IsUntouched status → now ≡ before)
    × (status ≡ 9 → LeavesPart given.limits before given.lp given.dec given.steps given.cert given.from given.leaf given.cuts now)
HasWritten (Check given) before now kept status = now ≡ before
HasWritten (Show lp dec blocks classes limits) before now kept status = now ≡ before
HasWritten (Gen seed size lp dec) before now kept status = GenLeaves seed size lp dec before now status
HasWritten (Demo seed size) before now kept status = now ≡ before
HasWritten (Detect lp list dec limits) before now kept status = DetectLeaves limits lp list dec before now status
HasWritten (Propose lp dec limits) before now kept status = ProposeLeaves limits lp dec before now status
HasWritten (Merge given) before now kept status = MergeLeaves given.limits given.lp given.first given.second given.dec given.new before now status
HasWritten (Migrate lp cert new dec limits) before now kept status = MigrateLeaves limits lp cert dec new before now status

-- What stands where the report could not be put: it is put last, behind the certificate of an outcome of the search, both
-- made texts, the text of the decomposition that was found or chosen or the certificate that was merged or written anew, and nothing is written where the file to go on from is no start.
abbrev pub HasPutLast : Order → (before now : Files) → Type 0
HasPutLast (Solve given) before now = LeavesCertificate given.limits before given.lp given.dec given.steps given.cert given.from given.leaf given.cuts now
HasPutLast (Check given) before now = now ≡ before
HasPutLast (Show lp dec blocks classes limits) before now = now ≡ before
HasPutLast (Gen seed size lp dec) before now = GenWrites seed size lp dec before now
HasPutLast (Demo seed size) before now = now ≡ before
HasPutLast (Detect lp list dec limits) before now = DetectWrites limits lp list dec before now
HasPutLast (Propose lp dec limits) before now = ProposeWrites limits lp dec before now
HasPutLast (Merge given) before now = MergeWrites given.limits given.lp given.first given.second given.dec given.new before now
HasPutLast (Migrate lp cert new dec limits) before now = MigrateWrites limits lp cert dec new before now

-- How an order's search went, beside what is kept: an outcome that is kept goes on from the certificate of the file that is named for
-- it, where one is named (its tree extends that tree, its point is no dearer, its dual bound no less), and the events are those of the
-- crew that solved, where one was ordered, and else none.
abbrev pub ListsEvents : Order → (before : Files) → Option Outcome → List Event → Type 0
ListsEvents (Solve given) before kept events = HasEvents given.limits before given.lp given.dec given.steps given.from given.workers given.order given.cuts kept events
ListsEvents (Check given) before kept events = events ≡ []
ListsEvents (Show lp dec blocks classes limits) before kept events = events ≡ []
ListsEvents (Gen seed size lp dec) before kept events = events ≡ []
ListsEvents (Demo seed size) before kept events = events ≡ []
ListsEvents (Detect lp list dec limits) before kept events = events ≡ []
ListsEvents (Propose lp dec limits) before kept events = events ≡ []
ListsEvents (Merge given) before kept events = events ≡ []
ListsEvents (Migrate lp cert new dec limits) before kept events = events ≡ []

-- what is true of the order that the words give, if they give one
abbrev pub OfOrder : List (List ℕ) → (Order → Type 0) → Type 0
OfOrder words Holds = (order : Order) → IsOrderOf words order → Holds order
