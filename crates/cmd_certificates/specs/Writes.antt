-- What a run of `migrate` comes to behind the writing of a certificate.
use Rattle.std.specs.Prelude.{◌≡◌, ℕ, Bool, IsTrue, List, Result, Ok, Err}
use Rattle.bp_shelf.specs.Shelf.{Files, Rose}
use Rattle.block_program.specs.Blocked.{BlockedProgram}
use Rattle.cert_format.specs.Fault.{IsCertText}
use Rattle.cert_format.specs.Kept.{kept_cert}
use Rattle.cert_format.specs.declared.cert.Cert.{Cert}
use Rattle.cert_text.specs.Programs.{frame_for}
use Rattle.cert_stream.specs.Streams.{Rewrites}
use Rattle.cert_file.specs.declared.stop.StreamStop.{StreamStop}
use Rattle.cert_file.specs.declared.stop.StreamStop.TheVariants.{Failed, NoMemory}
use Rattle.frontend.specs.Endings.{come_of, loses}
use Rattle.frontend.specs.declared.ending.Reply.{Reply}
use Rattle.frontend.specs.declared.ending.Unprinted.{Unprinted}
use Rattle.frontend.specs.declared.front.Halt.{Halt}
use Rattle.cmd_certificates.specs.declared.migration.Migrated.{Migrated}

-- a writer of a certificate: what it did to the files
abbrev pub IsAnew : BlockedProgram → Cert → (name : List ℕ) → (before now : Files) → Result (Unit {0}) StreamStop → Type 0
IsAnew b cert name before now result = (old : List ℕ) → IsCertText (frame_for b) (kept_cert cert) old → Rewrites (frame_for b) cert name before now result

-- the status of a writer that stopped
abbrev pub stop_status_of : StreamStop → ℕ
stop_status_of Failed = 8
stop_status_of NoMemory = 9

-- what a run comes to behind it: the reply, or the status of the write
pub data WritesAnew (b : BlockedProgram) (cert : Cert) (told : Bool) (name : List ℕ) (before now : Files) (writes writes_now : ℕ) (reply : Reply) : Result Reply Unprinted → Type 0 where
  whole : (done : Unit {0}) → (IsTrue told → IsAnew b cert name before now (Ok done)) → writes_now ≡ writes → WritesAnew b cert told name before now writes writes_now reply (Ok reply)
  failed : (IsTrue told → IsAnew b cert name before now (Err Failed)) → Rose writes writes_now → WritesAnew b cert told name before now writes writes_now reply (Err (loses 8 reply))
  wanting : (IsTrue told → IsAnew b cert name before now (Err NoMemory)) → writes_now ≡ writes → WritesAnew b cert told name before now writes writes_now reply (Err (loses 9 reply))

-- the same of a certificate that was read, or of what a run ends with before there is one, which writes nothing
abbrev pub WritesMigrated : (told : Bool) → (name : List ℕ) → (before now : Files) → (writes writes_now : ℕ) → Result Migrated Halt → Result Reply Unprinted → Type 0
WritesMigrated told name before now writes writes_now (Ok m) come = WritesAnew m.b m.cert told name before now writes writes_now m.reply come
WritesMigrated told name before now writes writes_now (Err halt) come = (come ≡ come_of (Err halt)) × (now ≡ before) × (writes_now ≡ writes)
