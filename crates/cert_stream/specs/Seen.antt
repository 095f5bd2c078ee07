-- When feeding a checker answers a fault.
use Rattle.std.specs.Prelude.{ℕ, List, Result, Ok, Err}
use Rattle.block_program.specs.Blocked.{BlockedProgram}
use Rattle.cert_format.specs.Fault.{IsSeenFault}
use Rattle.cert_text.specs.Programs.{frame_for}
use Rattle.cert_format.specs.declared.fault.CertKind.{CertKind}
use Rattle.cert_stream.specs.declared.fault.FeedFault.{FeedFault}
use Rattle.cert_stream.specs.declared.fault.FeedFault.TheVariants.{At, NoMemory}

-- what feeding answers of the text that was fed so far: its first fault, as soon as no further bytes can mend it; a number is judged where
-- the byte behind it has come
abbrev pub TellsSeen : BlockedProgram → List ℕ → Result (Unit {0}) FeedFault → Type 0
TellsSeen b text (Ok _) = (line : ℕ) (kind : CertKind) → IsSeenFault (frame_for b) text line kind → ⊥
TellsSeen b text (Err (At line kind)) = IsSeenFault (frame_for b) text line kind
TellsSeen b text (Err NoMemory) = Unit {0}
