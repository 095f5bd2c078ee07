-- How a run ends by what it came to.
use Rattle.std.specs.Prelude.{◌≡◌, ◌⊎◌, ℕ, Bool, IsTrue, List, [], ◌++◌, take, Option, Some, None, Vec, Result, Ok, Err}
use Rattle.std.specs.Global.{Global}
use Rattle.bp_shelf.specs.Shelf.{Files, OthersAsBefore, Rose, next_count}
use Rattle.bp_shelf.specs.declared.shelf.ShelfFault.{ShelfFault}
use Rattle.bp_shelf.specs.declared.shelf.ShelfFault.TheVariants.{Missing, Failed, NoMemory}
use Rattle.frontend.specs.declared.draft.Draft.{Draft}
use Rattle.frontend.specs.declared.ending.Reply.{Reply}
use Rattle.frontend.specs.declared.ending.Unprinted.{Unprinted}
use Rattle.frontend.specs.declared.front.Halt.{Halt}
use Rattle.frontend.specs.declared.front.Halt.TheVariants.{Refused, Stopped}

-- the status of a read that failed
abbrev pub status_of : ShelfFault → ℕ
status_of Failed = 7
status_of NoMemory = 9
status_of Missing = 11

-- the status of a write that failed, of which no file is missing
abbrev pub write_status_of : ShelfFault → ℕ
write_status_of Failed = 8
write_status_of NoMemory = 9
write_status_of Missing = 9

-- an end at which nothing is printed, and no report is lost
abbrev pub bare : ℕ → Unprinted
bare status = record { status = status; lost = None }

-- what a run comes to that has a reply or was halted: a reply, or an end at which nothing is printed
abbrev pub come_of : Result Reply Halt → Result Reply Unprinted
come_of (Ok reply) = Ok reply
come_of (Err (Refused report)) = Ok (record { status = 3; report = report })
come_of (Err (Stopped fault)) = Err (bare (status_of fault))

-- an end behind the write of a file that failed with this status, before this reply was printed
abbrev pub loses : (status : ℕ) → Reply → Unprinted
loses status reply = record { status = status; lost = Some reply.report }

-- the statuses of replies but those of a search: done, refused, rejected or unknown
abbrev pub IsReplyStatus : ℕ → Type 0
IsReplyStatus status = (status ≡ 0) ⊎ (status ≡ 3) ⊎ (status ≡ 6) ⊎ (status ≡ 10)

-- how a run ends that came to this: its report is printed whole, or can't be put and is lost; or nothing is printed, and what was lost before is lost
pub data Finishes (status : ℕ) (lost : Option (Vec ℕ Global)) (tells : Bool) (before now : List ℕ) (faults faults_now puts puts_now : ℕ) : Result Reply Unprinted → Type 0 where
  printed : (reply : Reply) → status ≡ reply.status → faults_now ≡ faults → puts_now ≡ next_count puts → (IsTrue tells → now ≡ before ++ reply.report.items)
      → Finishes status lost tells before now faults faults_now puts puts_now (Ok reply)
  unput : (reply : Reply) → status ≡ 8 → lost ≡ Some reply.report → Rose faults faults_now → puts_now ≡ next_count puts
      → (IsTrue tells → (count : ℕ) × (now ≡ before ++ take count reply.report.items)) → Finishes status lost tells before now faults faults_now puts puts_now (Ok reply)
  silent : (end : Unprinted) → status ≡ end.status → lost ≡ end.lost → faults_now ≡ faults → puts_now ≡ puts → now ≡ before → Finishes status lost tells before now faults faults_now puts puts_now (Err end)

-- what a run comes to behind the write of a text: its reply, or an end with the status of the write, at which its report is lost
pub data WritesText (told : Bool) (name text : List ℕ) (before now : Files) (writes writes_now : ℕ) (reply : Reply) : Result Reply Unprinted → Type 0 where
  written : (IsTrue told → (now name ≡ Some text) × OthersAsBefore name before now) → writes_now ≡ writes → WritesText told name text before now writes writes_now reply (Ok reply)
  unwritten : (IsTrue told → OthersAsBefore name before now) → Rose writes writes_now → WritesText told name text before now writes writes_now reply (Err (loses 8 reply))
  wanting : (IsTrue told → now ≡ before) → writes_now ≡ writes → WritesText told name text before now writes writes_now reply (Err (loses 9 reply))

-- the same of a draft, or of what a run ends with before it has one, which writes nothing
abbrev pub WritesDraft : (told : Bool) → (name : List ℕ) → (before now : Files) → (writes writes_now : ℕ) → Result Draft Halt → Result Reply Unprinted → Type 0
WritesDraft told name before now writes writes_now (Ok d) come = WritesText told name d.text.items before now writes writes_now d.reply come
WritesDraft told name before now writes writes_now (Err halt) come = (come ≡ come_of (Err halt)) × (now ≡ before) × (writes_now ≡ writes)

-- a reply, or a halt before it, that is right
abbrev pub IsRightReply : (ℕ → List ℕ → Type 0) → Result Reply Halt → Type 0
IsRightReply Right (Ok reply) = Right reply.status reply.report.items
IsRightReply Right (Err (Refused report)) = Right 3 report.items
IsRightReply Right (Err (Stopped Missing)) = Right 11 []
IsRightReply Right (Err (Stopped Failed)) = Unit {0}
IsRightReply Right (Err (Stopped NoMemory)) = Unit {0}
