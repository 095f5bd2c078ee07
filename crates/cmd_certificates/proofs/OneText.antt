-- A text is opened or refused, and refused by one status.
use Rattle.std.proofs.Common.{◌≡◌, ◌∙◌, refl, sym, subst, ℕ, List, [], Some, arith}
use Rattle.bp_theory.specs.Claims.{Certificate, IsCertified}
use Rattle.bp_theory.specs.Judgement.{HasItsPoint, named_value}
use Rattle.bp_theory.proofs.CutProof.{certified_is_true_lem}
use Rattle.bp_shelf.specs.Shelf.{Files}
use Rattle.block_program.specs.Blocked.{BlockedProgram, IsFormed}
use Rattle.branch_tree.specs.declared.loaded.Loaded.{Loaded}
use Rattle.cert_load.specs.Loadings.{IsTooDeep}
use Rattle.cert_load.specs.Recut.{with_cuts}
use Rattle.cert_load.proofs.Reaching.{loaded_is_low}
use Rattle.cert_format.specs.Fault.{IsCertText}
use Rattle.cert_format.specs.Written.{cert_of}
use Rattle.cert_text.specs.Programs.{frame_for}
use Rattle.cert_format.proofs.LawProofs.{certificates_are_one}
use Rattle.cert_report.specs.Certificates.{accepted_report, rejected_report}
use Rattle.bp_report.specs.Refusals.{cert_refusal}
use Rattle.cmd_check.specs.Checks as checks
use Rattle.cmd_check.proofs.OneAnswer.{one_check}
use Rattle.cmd_check.proofs.Certificates.{one_written}
use Rattle.cmd_certificates.specs.Opens.{IsOpened, RefusesText, faulty, rejected, too_deep}

-- one text in one file, whatever its name
abbrev file_of : List ℕ → Files
file_of text name = Some text

-- how a text is checked that is refused: by the status 0 where its certificate is valid
abbrev checked_status : (b : BlockedProgram) (text : List ℕ) (status : ℕ) (report : List ℕ) → RefusesText b text status report → ℕ
checked_status b text status report (faulty line kind fault is told) = 3
checked_status b text status report (rejected cert line kind spelled has fault is told) = 6
checked_status b text status report (too_deep cert line spelled has valid deep is told) = 0

record IsChecked (b : BlockedProgram) (text : List ℕ) (status : ℕ) : Type 0 where
  report : List ℕ
  answers : checks.ChecksBlocked (file_of text) [] b status report

valid_checked : (b : BlockedProgram) (text : List ℕ) (cert : Certificate) → IsFormed b → IsCertText (frame_for b) (cert_of cert) text → IsCertified b.named.program b.dec cert
    → IsChecked b text 0
valid_checked b text cert formed spelled valid = record {
  report = accepted_report cert.claim;
  answers = checks.accepted text cert refl spelled valid (certified_is_true_lem b.named.program b.dec cert formed.kept.closed valid) refl refl;
}

refused_checked : (b : BlockedProgram) (text : List ℕ) (status : ℕ) (report : List ℕ) → IsFormed b → (h : RefusesText b text status report)
    → IsChecked b text (checked_status b text status report h)
refused_checked b text status report formed (faulty line kind fault is told) =
    record { report = cert_refusal line kind; answers = checks.faulty text line kind refl fault refl refl }
refused_checked b text status report formed (rejected cert line kind spelled has fault is told) =
    record { report = rejected_report line kind; answers = checks.rejected text cert line kind refl spelled has fault refl refl }
refused_checked b text status report formed (too_deep cert line spelled has valid deep is told) = valid_checked b text cert formed spelled valid

one_status : (b : BlockedProgram) (text : List ℕ) (s t : ℕ) → IsChecked b text s → IsChecked b text t → s ≡ t
one_status b text s t x y = one_check (file_of text) [] b s t x.report y.report x.answers y.answers

-- a text is refused by one status
pub one_refusal : (b : BlockedProgram) (text : List ℕ) (s t : ℕ) (r q : List ℕ) → IsFormed b → RefusesText b text s r → RefusesText b text t q → s ≡ t
one_refusal b text s t r q formed h g = by h g (one_status b text _ _ (refused_checked b text s r formed h) (refused_checked b text t q formed g))
  where
    by : (h : RefusesText b text s r) (g : RefusesText b text t q) → checked_status b text s r h ≡ checked_status b text t q g → s ≡ t
    by (faulty line kind fault is told) (faulty line' kind' fault' is' told') e = is ∙ sym is'
    by (faulty line kind fault is told) (rejected cert' line' kind' spelled' has' fault' is' told') e = absurd (omega (arith, e))
    by (faulty line kind fault is told) (too_deep cert' line' spelled' has' valid' deep' is' told') e = is ∙ sym is'
    by (rejected cert line kind spelled has fault is told) (faulty line' kind' fault' is' told') e = absurd (omega (arith, e))
    by (rejected cert line kind spelled has fault is told) (rejected cert' line' kind' spelled' has' fault' is' told') e = is ∙ sym is'
    by (rejected cert line kind spelled has fault is told) (too_deep cert' line' spelled' has' valid' deep' is' told') e = absurd (omega (arith, e))
    by (too_deep cert line spelled has valid deep is told) (faulty line' kind' fault' is' told') e = is ∙ sym is'
    by (too_deep cert line spelled has valid deep is told) (rejected cert' line' kind' spelled' has' fault' is' told') e = absurd (omega (arith, e))
    by (too_deep cert line spelled has valid deep is told) (too_deep cert' line' spelled' has' valid' deep' is' told') e = is ∙ sym is'

-- a text has one certificate
pub one_certificate : (b : BlockedProgram) (text : List ℕ) (c d : Certificate) → IsCertText (frame_for b) (cert_of c) text → IsCertText (frame_for b) (cert_of d) text
    → HasItsPoint (named_value c.claim) c.point → HasItsPoint (named_value d.claim) d.point → c ≡ d
one_certificate b text c d spelled spelled' has has' =
    one_written c d has has' (certificates_are_one (frame_for b) (cert_of c) (cert_of d) text spelled spelled')

-- no text is opened and refused
pub opened_or_refused : (b : BlockedProgram) (text : List ℕ) (from : Loaded) (s : ℕ) (r : List ℕ) → IsFormed b → IsOpened b text from → RefusesText b text s r → ⊥
opened_or_refused b text from s r formed one h = by h (one_status b text 0 _ (valid_checked b text one.cert formed one.spelled one.valid) (refused_checked b text s r formed h))
  where
    by : (h : RefusesText b text s r) → 0 ≡ checked_status b text s r h → ⊥
    by (faulty line kind fault is told) e = absurd (omega (arith, e))
    by (rejected cert line kind spelled has fault is told) e = absurd (omega (arith, e))
    by (too_deep cert line spelled has valid deep is told) e =
        let same : cert ≡ one.cert = one_certificate b text cert one.cert spelled one.spelled has one.has_point in
        loaded_is_low (with_cuts b one.cert.cuts) one.cert from line one.loaded (subst (λ (c : Certificate). IsTooDeep (with_cuts b c.cuts) c line) same deep)
