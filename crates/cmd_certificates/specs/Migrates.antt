-- What `migrate` answers by the files.
use Rattle.std.specs.Prelude.{◌≡◌, ℕ, List, [], ◌∷◌, Option, Some, None}
use Rattle.bp_theory.specs.declared.Limits.{Limits}
use Rattle.bp_shelf.specs.Shelf.{Files}
use Rattle.block_program.specs.Blocked.{BlockedProgram}
use Rattle.cert_format.specs.Cert.{Cut, Cert}
use Rattle.cert_format.specs.Text.{Version, Two, Three}
use Rattle.cert_format.specs.Fault.{IsText, IsCertText, IsFirstCertFault}
use Rattle.cert_format.specs.Kept.{kept_cert}
use Rattle.cert_format.specs.Nodes.{nodes}
use Rattle.cert_text.specs.Programs.{frame_for}
use Rattle.cert_format.specs.declared.fault.CertKind.{CertKind}
use Rattle.bp_report.specs.Refusals.{cert_refusal}
use Rattle.bp_report.specs.Report.{migrated_report}
use Rattle.frontend.specs.Front.{FilesCome, blocked, ends}
use Rattle.frontend.specs.Written.{Answer, stops, Answered}
use Rattle.cmd_certificates.specs.declared.migration.Migrated.{Migrated}

-- the version of a certificate with these cuts that is written anew
abbrev pub version_anew : List Cut → Version
version_anew [] = Two
version_anew (cut ∷ cuts) = Three

-- what the file of a certificate is answered, beside a program in blocks: its first fault, or the text of version 2, or of version 3 where it has
-- cuts, of the certificate that it spells, which means the same
pub data TextMigrates (b : BlockedProgram) (file : Option (List ℕ)) : Answer → Type 0 where
  missing : file ≡ None → TextMigrates b file (stops 11 [])
  faulty : (text : List ℕ) (line : ℕ) (kind : CertKind) → file ≡ Some text → IsFirstCertFault (frame_for b) text line kind
      → TextMigrates b file (stops 3 (cert_refusal line kind))
  migrated : (text new : List ℕ) (c : Cert) → file ≡ Some text → IsCertText (frame_for b) c text → IsText (frame_for b) (version_anew c.cuts) c new
      → TextMigrates b file (record { status = 0; report = migrated_report (nodes c.tree); text = Some new })

-- what `migrate` answers: what the model's and the decomposition's files come to where they come to no program in blocks, and else what the
-- certificate's file is answered
pub data Migrates (limits : Limits) (files : Files) (lp cert : List ℕ) (dec : Option (List ℕ)) : Answer → Type 0 where
  stopped : (status : ℕ) (report : List ℕ) → FilesCome limits files lp dec (ends status report) → Migrates limits files lp cert dec (stops status report)
  went_on : (b : BlockedProgram) (a : Answer) → FilesCome limits files lp dec (blocked b) → TextMigrates b (files cert) a → Migrates limits files lp cert dec a

-- the same by its status and report
abbrev pub AnswersMigrate : Limits → Files → (lp cert : List ℕ) → (dec : Option (List ℕ)) → (status : ℕ) → (report : List ℕ) → Type 0
AnswersMigrate limits files lp cert dec status report = Answered (Migrates limits files lp cert dec) status report

-- a certificate that a file spells, beside a program in blocks, with the report on it
pub record ReadsCert (b : BlockedProgram) (file : Option (List ℕ)) (m : Migrated) : Type 0 where
  pub same : m.b ≡ b
  pub text : List ℕ
  pub is : file ≡ Some text
  pub spells : IsCertText (frame_for b) (kept_cert m.cert) text
  pub told : m.reply.report.items ≡ migrated_report (nodes (kept_cert m.cert).tree)
  pub done : m.reply.status ≡ 0

-- the same by the files
abbrev pub ReadsFiles : Limits → Files → (lp cert : List ℕ) → (dec : Option (List ℕ)) → Migrated → Type 0
ReadsFiles limits files lp cert dec m = (b : BlockedProgram) × FilesCome limits files lp dec (blocked b) × ReadsCert b (files cert) m
