-- A program in blocks is answered by one status.
use Rattle.std.proofs.Common.{◌≡◌, refl, ◌∙◌, sym, subst, ℕ, List, [], Option, Some, None, Result, Err}
use Rattle.bp_theory.specs.declared.Limits.{Limits}
use Rattle.bp_theory.specs.Claims.{Certificate, IsCertified}
use Rattle.bp_theory.specs.Judgement.{IsFirstFault, HasItsPoint, named_value}
use Rattle.bp_theory.specs.declared.CheckKind.{CheckKind}
use Rattle.bp_theory.proofs.JudgeProof.{judged_lem}
use Rattle.bp_shelf.specs.Shelf.{Files}
use Rattle.bp_shelf.specs.declared.shelf.ShelfFault.{ShelfFault}
use Rattle.bp_shelf.specs.declared.shelf.ShelfFault.TheVariants.{Missing, Failed, NoMemory}
use Rattle.frontend.specs.Endings.{IsRightReply}
use Rattle.frontend.specs.declared.front.Halt.TheVariants.{Stopped}
use Rattle.frontend.proofs.Finishing.{HasOneReply}
use Rattle.frontend.proofs.Lifts.{one_reply}
use Rattle.block_program.specs.Blocked.{BlockedProgram}
use Rattle.cert_format.specs.Fault.{IsCertText}
use Rattle.cert_format.specs.Fault as texts
use Rattle.cert_format.specs.Written.{cert_of}
use Rattle.cert_text.specs.Programs.{frame_for}
use Rattle.cert_format.specs.declared.fault.CertKind.{CertKind}
use Rattle.cert_format.proofs.LawProofs.{certificates_are_one, certificates_are_faultless}
use Rattle.cmd_check.specs.Checks.{ChecksBlocked, ChecksWithin, ChecksVisiting, AnswersCheck, missing, faulty, accepted, rejected, unknown, known}
use Rattle.cmd_check.proofs.Certificates.{one_written, fitting_point}

pub one_text : (file : Option (List ℕ)) (t u : List ℕ) → file ≡ Some t → file ≡ Some u → t ≡ u
one_text file t u a b = cc

no_text : (file : Option (List ℕ)) (t : List ℕ) → file ≡ None → file ≡ Some t → ⊥
no_text file t a b = absurd (cc)

-- no text has a certificate and a fault
pub read_or_faulty : (b : BlockedProgram) (text other : List ℕ) (c : Certificate) (line : ℕ) (kind : CertKind) → text ≡ other
    → IsCertText (frame_for b) (cert_of c) text → texts.IsFirstCertFault (frame_for b) other line kind → ⊥
read_or_faulty b text other c line kind same spells fault =
    certificates_are_faultless (frame_for b) (cert_of c) other line kind (subst (λ (t : List ℕ). IsCertText (frame_for b) (cert_of c) t) same spells) fault

-- no text has a valid certificate and one with a line at fault
valid_or_faulty : (b : BlockedProgram) (text other : List ℕ) (c d : Certificate) (line : ℕ) (kind : CheckKind) → text ≡ other
    → IsCertText (frame_for b) (cert_of c) text → IsCertified b.named.program b.dec c
    → IsCertText (frame_for b) (cert_of d) other → HasItsPoint (named_value d.claim) d.point → IsFirstFault b.named.program b.dec d line kind → ⊥
valid_or_faulty b text other c d line kind same spells valid spells' has fault =
    let one : cert_of c ≡ cert_of d = certificates_are_one (frame_for b) (cert_of c) (cert_of d) other
    (subst (λ (t : List ℕ). IsCertText (frame_for b) (cert_of c) t) same spells) spells' in
    let certs : c ≡ d = one_written c d (fitting_point b.named.program c.claim c.point valid.valid.point) has one in
    judged_lem.not_both b.named.program b.dec d line kind (subst (λ (e : Certificate). IsCertified b.named.program b.dec e) certs valid) fault

-- a program in blocks is answered by one status
pub one_check : (files : Files) (cert : List ℕ) (b : BlockedProgram) (s t : ℕ) (r q : List ℕ) → ChecksBlocked files cert b s r → ChecksBlocked files cert b t q → s ≡ t
one_check files cert b s t r q (missing a is _) (missing _ is' _) = is ∙ sym is'
one_check files cert b s t r q (missing a is _) (faulty text line kind a' fault is' _) = absurd (no_text (files cert) text a a')
one_check files cert b s t r q (missing a is _) (accepted text d a' spells valid holds is' _) = absurd (no_text (files cert) text a a')
one_check files cert b s t r q (missing a is _) (rejected text d line kind a' spells has fault is' _) = absurd (no_text (files cert) text a a')
one_check files cert b s t r q (faulty text line kind a fault is _) (missing a' is' _) = absurd (no_text (files cert) text a' a)
one_check files cert b s t r q (faulty text line kind a fault is _) (faulty text' line' kind' a' fault' is' _) = is ∙ sym is'
one_check files cert b s t r q (faulty text line kind a fault is _) (accepted text' d a' spells valid holds is' _) =
    absurd (read_or_faulty b text' text d line kind (one_text (files cert) text' text a' a) spells fault)
one_check files cert b s t r q (faulty text line kind a fault is _) (rejected text' d line' kind' a' spells has fault' is' _) =
    absurd (read_or_faulty b text' text d line kind (one_text (files cert) text' text a' a) spells fault)
one_check files cert b s t r q (accepted text c a spells valid holds is _) (missing a' is' _) = absurd (no_text (files cert) text a' a)
one_check files cert b s t r q (accepted text c a spells valid holds is _) (faulty text' line kind a' fault is' _) =
    absurd (read_or_faulty b text text' c line kind (one_text (files cert) text text' a a') spells fault)
one_check files cert b s t r q (accepted text c a spells valid holds is _) (accepted text' d a' spells' valid' holds' is' _) = is ∙ sym is'
one_check files cert b s t r q (accepted text c a spells valid holds is _) (rejected text' d line kind a' spells' has fault is' _) =
    absurd (valid_or_faulty b text text' c d line kind (one_text (files cert) text text' a a') spells valid spells' has fault)
one_check files cert b s t r q (rejected text c line kind a spells has fault is _) (missing a' is' _) = absurd (no_text (files cert) text a' a)
one_check files cert b s t r q (rejected text c line kind a spells has fault is _) (faulty text' line' kind' a' fault' is' _) =
    absurd (read_or_faulty b text text' c line' kind' (one_text (files cert) text text' a a') spells fault')
one_check files cert b s t r q (rejected text c line kind a spells has fault is _) (accepted text' d a' spells' valid holds is' _) =
    absurd (valid_or_faulty b text' text d c line kind (one_text (files cert) text' text a' a) spells' valid spells has fault)
one_check files cert b s t r q (rejected text c line kind a spells has fault is _) (rejected text' d line' kind' a' spells' has' fault' is' _) = is ∙ sym is'

one_within : (most : ℕ) (files : Files) (cert : List ℕ) (b : BlockedProgram) (s t : ℕ) (r q : List ℕ) → ChecksWithin most files cert b s r → ChecksWithin most files cert b t q → s ≡ t
one_within most files cert b s t r q (unknown line at is _) (unknown line' at' is' _) = is ∙ sym is'
one_within most files cert b s t r q (unknown line at is _) (known none right) = absurd (none line at)
one_within most files cert b s t r q (known none right) (unknown line at is _) = absurd (none line at)
one_within most files cert b s t r q (known none right) (known none' right') = one_check files cert b s t r q right right'

-- whether a number of visits is given or not
one_visiting : (visits : Option ℕ) (files : Files) (cert : List ℕ) (b : BlockedProgram) (s t : ℕ) (r q : List ℕ)
    → ChecksVisiting visits files cert b s r → ChecksVisiting visits files cert b t q → s ≡ t
one_visiting None files cert b s t r q right right' = one_check files cert b s t r q right right'
one_visiting (Some most) files cert b s t r q right right' = one_within most files cert b s t r q right right'

-- a file that isn't there
missing_visiting : (visits : Option ℕ) (files : Files) (cert : List ℕ) (b : BlockedProgram) → files cert ≡ None → ChecksVisiting visits files cert b 11 []
missing_visiting None files cert b gone = missing gone refl refl
missing_visiting (Some most) files cert b gone = known (λ line at. no_text (files cert) at.text gone at.there) (missing gone refl refl)

-- a fault as an error
pub as_missing : {T : Type 0} (fault : ShelfFault) → fault ≡ Missing → ◌≡◌ {A = Result T ShelfFault} (Err fault) (Err Missing)
as_missing {T} fault is = subst (λ (f : ShelfFault). ◌≡◌ {A = Result T ShelfFault} (Err fault) (Err f)) is refl

-- a file that could not be had: it isn't there, or it could not be read, or memory was wanting
pub fault_right : (visits : Option ℕ) (files : Files) (cert : List ℕ) (b : BlockedProgram) (fault : ShelfFault) → (fault ≡ Missing → files cert ≡ None)
    → IsRightReply (ChecksVisiting visits files cert b) (Err (Stopped fault))
fault_right visits files cert b Missing gone = missing_visiting visits files cert b (gone refl)
fault_right visits files cert b Failed gone = tt
fault_right visits files cert b NoMemory gone = tt

-- the files are answered by one status
pub one_answer : (limits : Limits) (files : Files) (lp cert : List ℕ) (dec : Option (List ℕ)) (visits : Option ℕ) → HasOneReply (AnswersCheck limits files lp cert dec visits)
one_answer limits files lp cert dec visits = one_reply limits files lp dec (Unit {0}) (ChecksVisiting visits files cert) (λ b s t r q right right'. one_visiting visits files cert b s t r q right right')
