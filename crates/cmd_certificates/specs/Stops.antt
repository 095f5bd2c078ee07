-- Why a run ends before anything is merged.
use Rattle.std.specs.Prelude.{◌≡◌, ◌⊎◌, ℕ, ◌≤◌, Bool, List, [], Result, Ok, Err}
use Rattle.bp_shelf.specs.Shelf.{Files, Rose}
use Rattle.bp_shelf.specs.declared.shelf.ShelfFault.TheVariants.{Missing, Failed, NoMemory}
use Rattle.block_program.specs.Blocked.{BlockedProgram}
use Rattle.frontend.specs.Endings.{bare, status_of, WritesText}
use Rattle.frontend.specs.Written.{Answer, stops}
use Rattle.frontend.specs.declared.draft.Draft.{Draft}
use Rattle.frontend.specs.declared.ending.Reply.{Reply}
use Rattle.frontend.specs.declared.ending.Unprinted.{Unprinted}
use Rattle.cmd_certificates.specs.Opens.{RefusesText}
use Rattle.cmd_certificates.specs.declared.opening.Stop.{Stop}
use Rattle.cmd_certificates.specs.declared.opening.Stop.TheVariants.{Refused, Stopped}

-- a run ends so, where these answers are right
abbrev pub IsStop : (Answer → Type 0) → Stop → Type 0
IsStop Right (Refused reply) = Right (stops reply.status reply.report.items)
IsStop Right (Stopped Missing) = Right (stops 11 [])
IsStop Right (Stopped Failed) = Unit {0}
IsStop Right (Stopped NoMemory) = Unit {0}

-- a text is refused as a certificate to go on from, or memory was wanting
abbrev pub IsTextStop : BlockedProgram → List ℕ → Stop → Type 0
IsTextStop b text (Refused reply) = RefusesText b text reply.status reply.report.items
IsTextStop b text (Stopped fault) = fault ≡ NoMemory

-- what is printed is under the status of a refused text or of a rejected certificate
abbrev pub IsRefusal : Stop → Type 0
IsRefusal (Refused reply) = (reply.status ≡ 3) ⊎ (reply.status ≡ 6)
IsRefusal (Stopped fault) = Unit {0}

-- the count of read faults: it rose at a failed read, and is as before after every other answer
abbrev pub CountsStopped : {T : Type 0} → ℕ → ℕ → Result T Stop → Type 0
CountsStopped before now (Err (Stopped Failed)) = (before ≤ now) × Rose before now
CountsStopped before now (Err (Stopped Missing)) = now ≡ before
CountsStopped before now (Err (Stopped NoMemory)) = now ≡ before
CountsStopped before now (Err (Refused reply)) = now ≡ before
CountsStopped before now (Ok _) = now ≡ before

-- what a run comes to that stopped
abbrev pub come_by_stop : Stop → Result Reply Unprinted
come_by_stop (Refused reply) = Ok reply
come_by_stop (Stopped fault) = Err (bare (status_of fault))

-- what a run comes to behind the write of the merged certificate, or that stopped before there was one, and writes nothing
abbrev pub WritesMerged : (told : Bool) → (name : List ℕ) → (before now : Files) → (writes writes_now : ℕ) → Result Draft Stop → Result Reply Unprinted → Type 0
WritesMerged told name before now writes writes_now (Ok d) come = WritesText told name d.text.items before now writes writes_now d.reply come
WritesMerged told name before now writes writes_now (Err stop) come = (come ≡ come_by_stop stop) × (now ≡ before) × (writes_now ≡ writes)
