-- What a command answers that writes one file, and the files after its run: the forms of the theorems of such commands.
use Rattle.std.specs.Prelude.{◌≡◌, ◌⊎◌, ℕ, List, [], Option, Some, None}
use Rattle.bp_shelf.specs.Shelf.{Files, OthersAsBefore}
use Rattle.bp_shelf.specs.declared.shelf.ShelfFault.TheVariants.{Missing, Failed, NoMemory}
use Rattle.frontend.specs.declared.draft.Draft.{Draft}
use Rattle.frontend.specs.declared.front.Halt.{Halt}
use Rattle.frontend.specs.declared.front.Halt.TheVariants.{Refused, Stopped}

-- an answer: a status, what is printed, and the text that is written, if one is
pub record Answer : Type 0 where
  pub status : ℕ
  pub report : List ℕ
  pub text : Option (List ℕ)

-- an answer that writes nothing
abbrev pub stops : (status : ℕ) → (report : List ℕ) → Answer
stops status report = record { status = status; report = report; text = None }

-- the answer that writes a draft
abbrev pub draft_answer : Draft → Answer
draft_answer d = record { status = d.reply.status; report = d.reply.report.items; text = Some d.text.items }

-- what is answered, by its status and report
abbrev pub Answered : (Answer → Type 0) → (status : ℕ) → (report : List ℕ) → Type 0
Answered Right status report = (text : Option (List ℕ)) × Right (record { status = status; report = report; text = text })

-- what a run ends with, where it is right to stop
abbrev pub IsHalt : (Answer → Type 0) → Halt → Type 0
IsHalt Right (Refused report) = Right (stops 3 report.items)
IsHalt Right (Stopped Missing) = Right (stops 11 [])
IsHalt Right (Stopped Failed) = Unit {0}
IsHalt Right (Stopped NoMemory) = Unit {0}

-- a refusal of a text that is right, or want of memory
abbrev pub IsTextHalt : (Answer → Type 0) → Halt → Type 0
IsTextHalt Right (Refused report) = Right (stops 3 report.items)
IsTextHalt Right (Stopped fault) = fault ≡ NoMemory

-- the files after an answer: its text stands whole in the named file, and nothing else is changed
abbrev pub TextStands : (name : List ℕ) → (before now : Files) → Option (List ℕ) → Type 0
TextStands name before now None = now ≡ before
TextStands name before now (Some text) = (now name ≡ Some text) × OthersAsBefore name before now

-- what an answer of this status wrote
pub record HasAnswered (Right : Answer → Type 0) (name : List ℕ) (before now : Files) (status : ℕ) : Type 0 where
  pub answer : Answer
  pub right : Right answer
  pub of : answer.status ≡ status
  pub stands : TextStands name before now answer.text

-- The files after a run, by its status: those of its answer, also where the report could not be put; as before after a read
-- that failed and for want of memory; and where the write failed the named file may hold anything.
pub data LeavesText (Right : Answer → Type 0) (name : List ℕ) (before now : Files) (status : ℕ) : Type 0 where
  answered : HasAnswered Right name before now status → LeavesText Right name before now status
  untouched : now ≡ before → (status ≡ 7) ⊎ (status ≡ 9) → LeavesText Right name before now status
  begun : OthersAsBefore name before now → status ≡ 8 → LeavesText Right name before now status
  unput : (meant : ℕ) → HasAnswered Right name before now meant → status ≡ 8 → LeavesText Right name before now status

-- what stands where the report could not be put, which is put last
abbrev pub StandsUnput : (Answer → Type 0) → (name : List ℕ) → (before now : Files) → Type 0
StandsUnput Right name before now = (meant : ℕ) × HasAnswered Right name before now meant
