-- Which replies are right.
use Rattle.std.proofs.Common.{◌≡◌, subst, ◌∙◌, ap, ℕ, Bool, IsTrue, List, Option, Some, None, Result, Ok, Err, IfOk}
use Rattle.bp_theory.specs.Claims.{Certificate, IsTrueClaim}
use Rattle.bp_theory.specs.Judgement.{HasItsPoint, named_value}
use Rattle.bp_theory.specs.declared.Claim.{Claim}
use Rattle.bp_shelf.specs.Shelf.{Files}
use Rattle.block_program.specs.Blocked.{BlockedProgram}
use Rattle.cert_format.specs.Fault.{IsCertText, IsFirstCertFault}
use Rattle.cert_format.specs.Written.{cert_of}
use Rattle.cert_text.specs.Programs.{frame_for}
use Rattle.cert_format.specs.declared.fault.CertKind.{CertKind}
use Rattle.cert_format.proofs.LawProofs.{certificates_are_one}
use Rattle.cert_check.specs.Judging.{IsJudged, NoneUnpriced, IsJudgedWithin, IsTrueIfAccepted}
use Rattle.cert_line_check.specs.Visits.{IsFirstUnpriced}
use Rattle.cert_check.specs.declared.judge.Judged.{Judged}
use Rattle.cert_check.specs.declared.judge.Judged.TheVariants.{Accepted, Rejected, Unknown}
use Rattle.cert_stream.specs.declared.checker.Checker.{Checker}
use Rattle.cert_report.specs.Certificates.{accepted_report}
use Rattle.bp_report.specs.Refusals.{cert_refusal}
use Rattle.frontend.specs.declared.ending.Reply.{Reply}
use Rattle.cmd_check.specs.Checks.{ChecksBlocked, IsUnknownAt, faulty, accepted, rejected, unknown, known}
use Rattle.cmd_check.specs.Replies.{IsReplyTo, TellsJudged, RepliesFrom, StandsForFile}
use Rattle.cmd_check.proofs.Certificates.{one_written}
use Rattle.cmd_check.proofs.OneAnswer.{one_text, read_or_faulty}

-- the verdict without a number of visits on the certificate of a text, in whatever file it stands
judged_replies : (b : BlockedProgram) (text : List ℕ) (c : Certificate) (judged : Judged) (reply : Reply)
    → IsCertText (frame_for b) (cert_of c) text → HasItsPoint (named_value c.claim) c.point
    → IsJudged b c judged → IsTrueIfAccepted b.named.program judged → TellsJudged judged reply
    → (files : Files) (cert : List ℕ) → files cert ≡ Some text → ChecksBlocked files cert b reply.status reply.report.items
judged_replies b text c (Accepted claim) reply spells has is holds v files cert there =
    accepted text c there spells is.1 (subst (λ (k : Claim). IsTrueClaim b.named.program k) is.0 holds) v.ended
    (v.told ∙ ap (λ (k : Claim). accepted_report k) is.0)
judged_replies b text c (Rejected line kind) reply spells has is holds v files cert there =
    rejected text c line kind there spells has is.0 v.ended v.told
judged_replies b text c (Unknown line) reply spells has is holds v files cert there = absurd is

-- a text spells one certificate, so that no leaf of one that it spells is unpriced where none of this one is
none_unknown : (b : BlockedProgram) (text : List ℕ) (c : Certificate) (most : ℕ) → IsCertText (frame_for b) (cert_of c) text → HasItsPoint (named_value c.claim) c.point
    → NoneUnpriced b c most → (files : Files) (cert : List ℕ) → files cert ≡ Some text → (line : ℕ) → IsUnknownAt files cert b most line → ⊥
none_unknown b text c most spells has none files cert there line at =
    let same : at.text ≡ text = one_text (files cert) at.text text at.there there in
    let one : cert_of at.spelled ≡ cert_of c = certificates_are_one (frame_for b) (cert_of at.spelled) (cert_of c) text
    (subst (λ (t : List ℕ). IsCertText (frame_for b) (cert_of at.spelled) t) same at.is_text) spells in
    let certs : at.spelled ≡ c = one_written at.spelled c at.has_point has one in
    none line (subst (λ (d : Certificate). IsFirstUnpriced b.named.program b.dec d most line) certs at.unpriced)

-- the verdict on the certificate of a text is the right reply to it
pub verdict_replies : (visits : Option ℕ) (b : BlockedProgram) (text : List ℕ) (c : Certificate) (judged : Judged) (reply : Reply)
    → IsCertText (frame_for b) (cert_of c) text → HasItsPoint (named_value c.claim) c.point
    → IsJudgedWithin b c visits judged → IsTrueIfAccepted b.named.program judged → TellsJudged judged reply → IsReplyTo visits b text reply
verdict_replies None b text c judged reply spells has is holds v = λ files cert there. judged_replies b text c judged reply spells has is holds v files cert there
verdict_replies (Some most) b text c (Accepted claim) reply spells has is holds v = λ files cert there.
    known (none_unknown b text c most spells has is.0 files cert there) (judged_replies b text c (Accepted claim) reply spells has is.1 holds v files cert there)
verdict_replies (Some most) b text c (Rejected line kind) reply spells has is holds v = λ files cert there.
    known (none_unknown b text c most spells has is.0 files cert there) (judged_replies b text c (Rejected line kind) reply spells has is.1 holds v files cert there)
verdict_replies (Some most) b text c (Unknown line) reply spells has is holds v = λ files cert there.
    unknown line (record { text = text; spelled = c; there = there; is_text = spells; has_point = has; unpriced = is }) v.ended v.told

-- the same of what may want memory
pub verdicts_reply : {E : Type 0} (visits : Option ℕ) (b : BlockedProgram) (text : List ℕ) (c : Certificate) (judged : Judged) (r : Result Reply E)
    → IsCertText (frame_for b) (cert_of c) text → HasItsPoint (named_value c.claim) c.point
    → IsJudgedWithin b c visits judged → IsTrueIfAccepted b.named.program judged → IfOk r (TellsJudged judged) → IfOk r (IsReplyTo visits b text)
verdicts_reply visits b text c judged (Ok reply) spells has is holds v = verdict_replies visits b text c judged reply spells has is holds v
verdicts_reply visits b text c judged (Err e) spells has is holds v = tt

-- a text that can't be read is refused, whether a number of visits is given or not
pub fault_replies : (visits : Option ℕ) (b : BlockedProgram) (text : List ℕ) (line : ℕ) (kind : CertKind) (reply : Reply) → IsFirstCertFault (frame_for b) text line kind
    → reply.status ≡ 3 → reply.report.items ≡ cert_refusal line kind → IsReplyTo visits b text reply
fault_replies None b text line kind reply fault is told = λ files cert there. faulty text line kind there fault is told
fault_replies (Some most) b text line kind reply fault is told = λ files cert there.
    known (λ k at. read_or_faulty b at.text text at.spelled line kind (one_text (files cert) at.text text at.there there) at.is_text fault)
    (faulty text line kind there fault is told)

-- the reply to the text that a checker was fed of a file is the reply to the file
pub file_replies : (visits : Option ℕ) (told : Bool) (files : Files) (cert : List ℕ) (b : BlockedProgram) (checker : Checker) (reply : Reply) → IsTrue told
    → (file : StandsForFile told (files cert) b visits checker) → IsReplyTo visits b file.text reply → RepliesFrom visits files cert b reply
file_replies visits told files cert b checker reply is_told file replies = replies files cert (file.there is_told)
