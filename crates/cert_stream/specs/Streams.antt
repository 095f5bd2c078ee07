-- What writing a certificate line by line does to the files of a shelf.
use Rattle.std.specs.Prelude.{◌≡◌, ℕ, ◌⊎◌, List, ◌++◌, Some, Result, Ok, Err}
use Rattle.bp_shelf.specs.Shelf.{Files, OthersAsBefore}
use Rattle.search_laws.specs.Outcomes.{read_off}
use Rattle.block_program.specs.Blocked.{BlockedProgram}
use Rattle.branch_tree.specs.declared.outcome.Outcome.{Outcome}
use Rattle.cert_format.specs.Cert.{Frame}
use Rattle.cert_format.specs.Fault.{IsText}
use Rattle.cert_text.specs.Outcomes.{grove_of, claim_of, point_of}
use Rattle.cert_text.specs.Programs.{frame_for}
use Rattle.cert_format.specs.Kept.{kept_cert}
use Rattle.cert_format.specs.Plain.{version_with}
use Rattle.cert_format.specs.declared.cert.Cert.{Cert}
use Rattle.cert_format.specs.Written.{cert_of}
use Rattle.cert_file.specs.declared.stop.StreamStop.{StreamStop}
use Rattle.cert_file.specs.declared.stop.StreamStop.TheVariants.{Failed, NoMemory}

-- a text is that of an outcome's certificate, with the program's cuts, in version 3 where there are some and else in version 2
abbrev pub IsTextOf : BlockedProgram → Outcome → List ℕ → Type 0
IsTextOf b o text =
    IsText (frame_for b) (version_with b.cuts) (cert_of (read_off (claim_of b.named.program.maximises o) (point_of o) b.cuts (grove_of o).tree)) text

-- the named file holds a text that spells what was to be written; or, for want of memory, a beginning of such a text, or what it held
abbrev pub HoldsText : (Spells : List ℕ → Type 0) → (name : List ℕ) → (before now : Files) → Result (Unit {0}) StreamStop → Type 0
HoldsText Spells name before now (Ok _) = (text : List ℕ) × Spells text × (now name ≡ Some text)
HoldsText Spells name before now (Err NoMemory) =
    (now name ≡ before name) ⊎ ((part : List ℕ) × (rest : List ℕ) × Spells (part ++ rest) × (now name ≡ Some part))
HoldsText Spells name before now (Err Failed) = Unit {0}

-- and all other files are as before
pub record StreamsText (Spells : List ℕ → Type 0) (name : List ℕ) (before now : Files) (result : Result (Unit {0}) StreamStop) : Type 0 where
  pub holds : HoldsText Spells name before now result
  pub others : OthersAsBefore name before now

-- an outcome's certificate is written so
abbrev pub HoldsCertificate : BlockedProgram → Outcome → (name : List ℕ) → (before now : Files) → Result (Unit {0}) StreamStop → Type 0
HoldsCertificate b o name before now result = HoldsText (IsTextOf b o) name before now result

abbrev pub Streams : BlockedProgram → Outcome → (name : List ℕ) → (before now : Files) → Result (Unit {0}) StreamStop → Type 0
Streams b o name before now result = StreamsText (IsTextOf b o) name before now result

-- a certificate that was read is written so, in version 3 where it has cuts and else in version 2
abbrev pub Rewrites : Frame → Cert → (name : List ℕ) → (before now : Files) → Result (Unit {0}) StreamStop → Type 0
Rewrites frame cert name before now result = StreamsText (λ text. IsText frame (version_with cert.cuts) (kept_cert cert) text) name before now result
