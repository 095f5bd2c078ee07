-- What a run answers from the told files, whatever its command: the forms of the commands' theorems.
use Rattle.std.specs.Prelude.{◌≡◌, ◌≢◌, ℕ, ◌<◌, ◌⊎◌, Bool, IsTrue, List, ◌++◌, take, Option, Some, None, Vec}
use Rattle.std.specs.Global.{Global}
use Rattle.bp_theory.specs.declared.Limits.{Limits}
use Rattle.bp_shelf.specs.Shelf.{Files, Rose, OthersAsBefore, next_count}
use Rattle.block_program.specs.Blocked.{BlockedProgram}
use Rattle.branch_tree.specs.declared.outcome.Outcome.{Outcome}
use Rattle.frontend.specs.Front.{FilesCome, blocked, ends}

-- What a command answers that works on the program in blocks that the files come to under limits: where they come to an end of the run,
-- that end, and else an answer that is right for the program in blocks.
pub data AnswersFront (limits : Limits) (files : Files) (lp : List ℕ) (dec : Option (List ℕ)) (Stops : Type 0) (Right : BlockedProgram → ℕ → List ℕ → Type 0) (status : ℕ) (report : List ℕ) : Type 0 where
  stopped : FilesCome limits files lp dec (ends status report) → Stops → AnswersFront limits files lp dec Stops Right status report
  went_on : (b : BlockedProgram) → FilesCome limits files lp dec (blocked b) → Right b status report → AnswersFront limits files lp dec Stops Right status report

-- A run that met no fault and had its memory gave one of these answers, whatever its sink tells; to a sink that tells its bytes
-- the report was added whole.
abbrev pub AnswersBy : (ℕ → List ℕ → Type 0) → (status : ℕ) → (tells : Bool) → (before now : List ℕ) → Type 0
AnswersBy Right status tells before now = status ≢ 7 → status ≢ 8 → status ≢ 9 →
    (report : List ℕ) × Right status report × (IsTrue tells → now ≡ before ++ report)

-- all of these answers have the status: it comes exactly where its answer is right
abbrev pub IsOnly : (ℕ → List ℕ → Type 0) → (status : ℕ) → Type 0
IsOnly Right status = status ≢ 7 → status ≢ 8 → status ≢ 9 → (meant : ℕ) (report : List ℕ) → Right meant report → status ≡ meant

-- a run whose report could not be written whole: the report that is lost is a right one, of which a beginning was added
abbrev pub CutsOff : (Option Outcome → ℕ → List ℕ → Type 0) → (status : ℕ) → (lost : Option (Vec ℕ Global)) → (tells : Bool) → (before now : List ℕ) → Type 0
CutsOff Right status lost tells before now = status ≡ 8 →
    (kept : Option Outcome) × (meant : ℕ) × (report : Vec ℕ Global) × (lost ≡ Some report) × Right kept meant report.items
    × (IsTrue tells → (count : ℕ) × (now ≡ before ++ take count report.items))

-- how often a run puts where no write failed: its report once, and nothing where it prints nothing
pub record PutsReport (status puts puts_now : ℕ) : Type 0 where
  pub once : status ≢ 7 → status ≢ 8 → status ≢ 9 → status ≢ 11 → puts_now ≡ next_count puts
  pub never : (status ≡ 7) ⊎ (status ≡ 9) ⊎ (status ≡ 11) → puts_now ≡ puts

-- a write of the shelf failed, so that nothing was put
pub record IsUnwritten (writes writes_now faults faults_now puts puts_now : ℕ) (before now : List ℕ) : Type 0 where
  pub rose : Rose writes writes_now
  pub no_fault : faults_now ≡ faults
  pub never : puts_now ≡ puts
  pub silent : now ≡ before

-- the report could not be put, which is put once and behind all writes: what was written stands
pub record IsUnput (Stands : Type 0) (writes writes_now faults faults_now puts puts_now : ℕ) : Type 0 where
  pub rose : Rose faults faults_now
  pub no_write : writes_now ≡ writes
  pub once : puts_now ≡ next_count puts
  pub stands : Stands

-- a write failed: one of the shelf, or that of the report
abbrev pub FailsToWrite : (Stands : Type 0) → (writes writes_now faults faults_now puts puts_now : ℕ) → (before now : List ℕ) → Type 0
FailsToWrite Stands writes writes_now faults faults_now puts puts_now before now =
    IsUnwritten writes writes_now faults faults_now puts puts_now before now ⊎ IsUnput Stands writes writes_now faults faults_now puts puts_now

-- the files after an order: all are as before but the one that a certificate is written to
abbrev pub FilesStand : Option (List ℕ) → Files → Files → Type 0
FilesStand None before now = now ≡ before
FilesStand (Some name) before now = OthersAsBefore name before now

-- statuses after which no file is changed
abbrev pub IsUntouched : ℕ → Type 0
IsUntouched status = (status ≡ 2) ⊎ (status ≡ 3) ⊎ (status ≡ 6) ⊎ (status ≡ 7) ⊎ (status ≡ 9) ⊎ (status ≡ 11)

-- the statuses of a run: done, refused words, refused text, infeasible, budget, rejected, read fault, write fault, want
-- of memory, unknown, missing file
abbrev pub IsStatus : ℕ → Type 0
IsStatus status = (status ≡ 0) ⊎ (status ≡ 2) ⊎ (status ≡ 3) ⊎ (status ≡ 4) ⊎ (status ≡ 5) ⊎ (status ≡ 6)
    ⊎ (status ≡ 7) ⊎ (status ≡ 8) ⊎ (status ≡ 9) ⊎ (status ≡ 10) ⊎ (status ≡ 11)

-- The causes of a status: a read fault and a write fault come only where a count of that kind rose in the call, or stood at
-- its last value; and where a count is greater than before, the status is that of its kind.
pub record HasCauses (status reads reads_now writes writes_now faults faults_now : ℕ) : Type 0 where
  pub known : IsStatus status
  pub read : status ≡ 7 → Rose reads reads_now
  pub read_rose : reads < reads_now → status ≡ 7
  pub write : status ≡ 8 → Rose writes writes_now ⊎ Rose faults faults_now
  pub write_rose : writes < writes_now → status ≡ 8
  pub put_rose : faults < faults_now → status ≡ 8
