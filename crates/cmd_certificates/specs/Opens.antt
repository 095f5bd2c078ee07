-- The file of a certificate as a tree to merge, or what it is refused for.
use Rattle.std.specs.Prelude.{◌≡◌, ℕ, ◌<◌, ◌^◌, List, [], Some, None}
use Rattle.bp_theory.specs.Claims.{Certificate, IsCertified}
use Rattle.bp_theory.specs.Judgement.{IsFirstFault, HasItsPoint, named_value}
use Rattle.bp_theory.specs.declared.CheckKind.{CheckKind}
use Rattle.bp_shelf.specs.Shelf.{Files}
use Rattle.block_program.specs.Blocked.{BlockedProgram}
use Rattle.branch_tree.specs.Groves.{made}
use Rattle.branch_tree.specs.Loads.{IsLoaded}
use Rattle.branch_tree.specs.declared.loaded.Loaded.{Loaded}
use Rattle.cert_format.specs.Fault.{IsCertText}
use Rattle.cert_format.specs.Fault as texts
use Rattle.cert_format.specs.Written.{cert_of}
use Rattle.cert_text.specs.Programs.{GoesWith, frame_for}
use Rattle.cert_format.specs.declared.fault.CertKind.{CertKind}
use Rattle.cert_load.specs.Loadings.{IsLoadedOf, IsTooDeep}
use Rattle.cert_load.specs.Recut.{with_cuts}
use Rattle.cmd_certificates.specs.declared.opening.Opened.{Opened}
use Rattle.cert_report.specs.Certificates.{rejected_report}
use Rattle.bp_report.specs.Refusals.{cert_refusal, from_refusal}
use Rattle.frontend.specs.Written.{Answer, stops}

-- a text spells a valid certificate that goes with the program, and this is what is loaded of it over the program with its cuts
pub record IsOpened (b : BlockedProgram) (text : List ℕ) (from : Loaded) : Type 0 where
  pub cert : Certificate
  pub spelled : IsCertText (frame_for b) (cert_of cert) text
  pub has_point : HasItsPoint (named_value cert.claim) cert.point
  pub goes_with : GoesWith b cert
  pub valid : IsCertified b.named.program b.dec cert
  pub loaded : IsLoadedOf (with_cuts b cert.cuts) cert from

-- the same beside the program with its cuts
pub record IsOpenedText (b : BlockedProgram) (text : List ℕ) (o : Opened) : Type 0 where
  pub opened : IsOpened b text o.from
  pub over : o.program ≡ with_cuts b opened.cert.cuts

-- the same of a named file
pub record IsOpenedFile (files : Files) (b : BlockedProgram) (name : List ℕ) (o : Opened) : Type 0 where
  pub text : List ℕ
  pub there : files name ≡ Some text
  pub opened : IsOpenedText b text o

-- what is loaded of a certificate over the program with its cuts
abbrev pub IsLoadedOver : BlockedProgram → Certificate → Opened → Type 0
IsLoadedOver b cert o = (o.program ≡ with_cuts b cert.cuts) × IsLoadedOf o.program cert o.from

-- a loaded tree may be merged: a search may go on from it, and it has few nodes, since each has a line of its text
pub record CanMerge (b : BlockedProgram) (from : Loaded) : Type 0 where
  pub loaded : IsLoaded b from
  pub few : made from.grove.tree < 2 ^ 61

-- a certificate to merge: a program in blocks of the same model and decomposition, and a tree that may be merged over it
pub record CanJoin (b : BlockedProgram) (o : Opened) : Type 0 where
  pub model : o.program.named ≡ b.named
  pub dec : o.program.dec ≡ b.dec
  pub can : CanMerge o.program o.from

-- what a text is refused for: as `check` judges it, and where a leaf that would be live is too deep, as `solve --from` tells it
pub data RefusesText (b : BlockedProgram) (text : List ℕ) (status : ℕ) (report : List ℕ) : Type 0 where
  faulty : (line : ℕ) (kind : CertKind) → texts.IsFirstCertFault (frame_for b) text line kind
      → status ≡ 3 → report ≡ cert_refusal line kind → RefusesText b text status report
  rejected : (cert : Certificate) (line : ℕ) (kind : CheckKind) → IsCertText (frame_for b) (cert_of cert) text
      → HasItsPoint (named_value cert.claim) cert.point → IsFirstFault b.named.program b.dec cert line kind
      → status ≡ 6 → report ≡ rejected_report line kind → RefusesText b text status report
  too_deep : (cert : Certificate) (line : ℕ) → IsCertText (frame_for b) (cert_of cert) text
      → HasItsPoint (named_value cert.claim) cert.point → IsCertified b.named.program b.dec cert → IsTooDeep (with_cuts b cert.cuts) cert line
      → status ≡ 3 → report ≡ from_refusal line → RefusesText b text status report

-- a named file is no tree to merge: it isn't there, or its text is refused
pub data RefusesFile (files : Files) (b : BlockedProgram) (name : List ℕ) : Answer → Type 0 where
  missing : files name ≡ None → RefusesFile files b name (stops 11 [])
  refused : (text : List ℕ) (status : ℕ) (report : List ℕ) → files name ≡ Some text → RefusesText b text status report
      → RefusesFile files b name (stops status report)
