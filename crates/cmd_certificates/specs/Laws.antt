-- What holds of a certificate's text in any version and of the text that it is written anew in.
use Rattle.std.specs.Prelude.{◌≡◌, ℕ, List, Ok, Some}
use Rattle.bp_shelf.specs.Shelf.{Files}
use Rattle.block_program.specs.Blocked.{BlockedProgram}
use Rattle.cert_format.specs.Cert.{Cert}
use Rattle.cert_format.specs.Fault.{IsText, IsCertText}
use Rattle.cert_format.specs.Kept.{kept_cert}
use Rattle.cert_text.specs.Programs.{frame_for, ReadsFor}
use Rattle.cert_format.specs.declared.cert.Cert.{Cert as Kept}
use Rattle.cmd_check.specs.Checks.{ChecksBlocked}
use Rattle.cmd_certificates.specs.Migrates.{version_anew}

-- both are read as the same certificate
abbrev pub AreReadAlike : Type 0
AreReadAlike = (b : BlockedProgram) (old new : List ℕ) (c : Cert) (one other : Kept) → IsCertText (frame_for b) c old → IsText (frame_for b) (version_anew c.cuts) c new
    → ReadsFor b old (Ok one) → ReadsFor b new (Ok other) → kept_cert one ≡ kept_cert other

-- and `check` answers the same for both
abbrev pub AreJudgedAlike : Type 0
AreJudgedAlike = (b : BlockedProgram) (before now : Files) (cert named old new : List ℕ) (c : Cert) (status : ℕ) (report : List ℕ)
    → before cert ≡ Some old → now named ≡ Some new → IsCertText (frame_for b) c old → IsText (frame_for b) (version_anew c.cuts) c new
    → ChecksBlocked before cert b status report → ChecksBlocked now named b status report
