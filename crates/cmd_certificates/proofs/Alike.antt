-- Both texts of a certificate are judged alike.
use Rattle.std.proofs.Common.{◌≡◌, ◌∙◌, sym, subst, ℕ, List, Option, Some, None}
use Rattle.bp_theory.specs.Claims.{Certificate}
use Rattle.bp_shelf.specs.Shelf.{Files}
use Rattle.block_program.specs.Blocked.{BlockedProgram}
use Rattle.cert_format.specs.Cert.{Cert}
use Rattle.cert_format.specs.Fault.{IsText, IsCertText, IsFirstCertFault}
use Rattle.cert_format.specs.Written.{cert_of}
use Rattle.cert_format.specs.Kept.{kept_cert}
use Rattle.cert_text.specs.Programs.{frame_for}
use Rattle.cert_format.specs.declared.cert.Cert.{Cert as Kept}
use Rattle.cert_format.specs.declared.fault.CertKind.{CertKind}
use Rattle.cert_format.proofs.LawProofs.{certificates_are_one, certificates_are_faultless}
use Rattle.cmd_check.specs.Checks.{ChecksBlocked, missing, faulty, accepted, rejected}
use Rattle.frontend.proofs.Written.{one_text, no_text}
use Rattle.cmd_certificates.specs.Laws.{AreReadAlike, AreJudgedAlike}
use Rattle.cmd_certificates.specs.Migrates.{version_anew}

pub read_alike : AreReadAlike
read_alike b old new c one other spells anew reads reads' =
    certificates_are_one (frame_for b) (kept_cert one) c old reads spells ∙ certificates_are_one (frame_for b) c (kept_cert other) new (version_anew c.cuts, anew) reads'

-- what the old text spells the new one does
spelled : (b : BlockedProgram) (old text new : List ℕ) (c : Cert) (d : Certificate) → text ≡ old → IsCertText (frame_for b) c old → IsText (frame_for b) (version_anew c.cuts) c new
    → IsCertText (frame_for b) (cert_of d) text → IsCertText (frame_for b) (cert_of d) new
spelled b old text new c d same spells anew spells' =
    let here : IsCertText (frame_for b) (cert_of d) old = subst (λ (t : List ℕ). IsCertText (frame_for b) (cert_of d) t) same spells' in
    let one : c ≡ cert_of d = certificates_are_one (frame_for b) c (cert_of d) old spells here in
    (version_anew (cert_of d).cuts, subst (λ (e : Cert). IsText (frame_for b) (version_anew e.cuts) e new) one anew)

faultless : (b : BlockedProgram) (old text : List ℕ) (c : Cert) (line : ℕ) (kind : CertKind) → text ≡ old → IsCertText (frame_for b) c old
    → IsFirstCertFault (frame_for b) text line kind → ⊥
faultless b old text c line kind same spells fault =
    certificates_are_faultless (frame_for b) c old line kind spells (subst (λ (t : List ℕ). IsFirstCertFault (frame_for b) t line kind) same fault)

pub judged_alike : AreJudgedAlike
judged_alike b before now cert named old new c status report there stands spells anew (missing gone is told) = absurd (no_text (before cert) old gone there)
judged_alike b before now cert named old new c status report there stands spells anew (faulty text line kind is fault _ _) =
    absurd (faultless b old text c line kind (one_text (before cert) text old is there) spells fault)
judged_alike b before now cert named old new c status report there stands spells anew (accepted text d is spells' valid holds done told) =
    accepted new d stands (spelled b old text new c d (one_text (before cert) text old is there) spells anew spells') valid holds done told
judged_alike b before now cert named old new c status report there stands spells anew (rejected text d line kind is spells' has fault done told) =
    rejected new d line kind stands (spelled b old text new c d (one_text (before cert) text old is there) spells anew spells') has fault done told
