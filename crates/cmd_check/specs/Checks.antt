-- What `check` answers.
use Rattle.std.specs.Prelude.{◌≡◌, ℕ, List, [], Option, Some, None}
use Rattle.bp_theory.specs.declared.Limits.{Limits}
use Rattle.bp_theory.specs.Claims.{Certificate, IsCertified, IsTrueClaim}
use Rattle.bp_theory.specs.Judgement.{IsFirstFault, HasItsPoint, named_value}
use Rattle.bp_theory.specs.declared.CheckKind.{CheckKind}
use Rattle.bp_shelf.specs.Shelf.{Files}
use Rattle.block_program.specs.Blocked.{BlockedProgram}
use Rattle.cert_format.specs.Fault.{IsCertText}
use Rattle.cert_format.specs.Fault as texts
use Rattle.cert_format.specs.Written.{cert_of}
use Rattle.cert_text.specs.Programs.{frame_for}
use Rattle.cert_format.specs.declared.fault.CertKind.{CertKind}
use Rattle.cert_report.specs.Certificates.{accepted_report, rejected_report, unknown_report}
use Rattle.bp_report.specs.Refusals.{cert_refusal}
use Rattle.frontend.specs.Answers.{AnswersFront}
use Rattle.cert_line_check.specs.Visits.{IsFirstUnpriced}

-- what a program in blocks is answered by `check` without a number of visits: the judgement of the certificate that the file
-- spells; what is accepted is true
pub data ChecksBlocked (files : Files) (cert : List ℕ) (b : BlockedProgram) (status : ℕ) (report : List ℕ) : Type 0 where
  missing : files cert ≡ None → status ≡ 11 → report ≡ [] → ChecksBlocked files cert b status report
  faulty : (text : List ℕ) (line : ℕ) (kind : CertKind) → files cert ≡ Some text → texts.IsFirstCertFault (frame_for b) text line kind
      → status ≡ 3 → report ≡ cert_refusal line kind → ChecksBlocked files cert b status report
  accepted : (text : List ℕ) (c : Certificate) → files cert ≡ Some text → IsCertText (frame_for b) (cert_of c) text
      → IsCertified b.named.program b.dec c → IsTrueClaim b.named.program c.claim
      → status ≡ 0 → report ≡ accepted_report c.claim → ChecksBlocked files cert b status report
  rejected : (text : List ℕ) (c : Certificate) (line : ℕ) (kind : CheckKind) → files cert ≡ Some text → IsCertText (frame_for b) (cert_of c) text
      → HasItsPoint (named_value c.claim) c.point → IsFirstFault b.named.program b.dec c line kind
      → status ≡ 6 → report ≡ rejected_report line kind → ChecksBlocked files cert b status report

-- the file spells a certificate in which this line is that of the first leaf that asks for more visits than are left
pub record IsUnknownAt (files : Files) (cert : List ℕ) (b : BlockedProgram) (most line : ℕ) : Type 0 where
  pub text : List ℕ
  pub spelled : Certificate
  pub there : files cert ≡ Some text
  pub is_text : IsCertText (frame_for b) (cert_of spelled) text
  pub has_point : HasItsPoint (named_value spelled.claim) spelled.point
  pub unpriced : IsFirstUnpriced b.named.program b.dec spelled most line

-- what it is answered within a number of visits: unknown exactly where a leaf asks for more than are left, and else as without
pub data ChecksWithin (most : ℕ) (files : Files) (cert : List ℕ) (b : BlockedProgram) (status : ℕ) (report : List ℕ) : Type 0 where
  unknown : (line : ℕ) → IsUnknownAt files cert b most line → status ≡ 10 → report ≡ unknown_report line
      → ChecksWithin most files cert b status report
  known : ((line : ℕ) → IsUnknownAt files cert b most line → ⊥) → ChecksBlocked files cert b status report
      → ChecksWithin most files cert b status report

-- what it is answered, whether a number of visits is given or not
abbrev pub ChecksVisiting : Option ℕ → Files → (cert : List ℕ) → BlockedProgram → (status : ℕ) → (report : List ℕ) → Type 0
ChecksVisiting None files cert b status report = ChecksBlocked files cert b status report
ChecksVisiting (Some most) files cert b status report = ChecksWithin most files cert b status report

-- what `check` answers
abbrev pub AnswersCheck : Limits → Files → (lp cert : List ℕ) → (dec : Option (List ℕ)) → (visits : Option ℕ) → (status : ℕ) → (report : List ℕ) → Type 0
AnswersCheck limits files lp cert dec visits status report = AnswersFront limits files lp dec (Unit {0}) (ChecksVisiting visits files cert) status report
