-- The certificate of an outcome is read back and accepted.
use Rattle.std.proofs.Common.{◌≡◌, sym, ap, subst, ℕ, List, None, Ok}
use Rattle.bp_theory.specs.Claims.{Certificate, IsCertified}
use Rattle.bp_theory.specs.declared.Claim.{Claim}
use Rattle.block_program.specs.Blocked.{BlockedProgram}
use Rattle.cert_format.specs.Text.{Version}
use Rattle.cert_format.specs.Fault.{IsText}
use Rattle.cert_format.specs.Written.{cert_of, certificate}
use Rattle.cert_text.specs.Programs.{frame_for}
use Rattle.cert_format.proofs.LawProofs.{certificates_are_one}
use Rattle.cert_check.specs.Judging.{IsJudged}
use Rattle.cert_check.specs.declared.judge.Judged.{Judged}
use Rattle.cert_check.specs.declared.judge.Judged.TheVariants.{Accepted, Rejected, Unknown}
use Rattle.cert_stream.specs.Checks.{Finishes}
use Rattle.cmd_check.proofs.Certificates.{one_written, fitting_point, kept_point}

-- what is judged of a valid certificate's text is the certificate
pub judged_back : (b : BlockedProgram) (v : Version) (c : Certificate) (text : List ℕ) (judged : Judged) → IsText (frame_for b) v (cert_of c) text
    → IsCertified b.named.program b.dec c → Finishes b None text (Ok judged) → IsJudged b c judged
judged_back b v c text judged spells valid ends =
    let read : Certificate = certificate ends.0 ends.1 ends.2 ends.3 in
    let one : cert_of read ≡ cert_of c = certificates_are_one (frame_for b) (cert_of read) (cert_of c) text ends.4 (v, spells) in
    let same : read ≡ c = one_written read c (kept_point ends.0 ends.1) (fitting_point b.named.program c.claim c.point valid.valid.point) one in
    subst (λ (x : Certificate). IsJudged b x judged) same ends.6

-- a valid certificate is judged to be accepted
pub judged_accepted : (b : BlockedProgram) (c : Certificate) (judged : Judged) → IsCertified b.named.program b.dec c → IsJudged b c judged → judged ≡ Accepted c.claim
judged_accepted b c (Accepted claim) valid is = ap (λ (k : Claim). Accepted k) is.0
judged_accepted b c (Rejected line kind) valid is = absurd (is.1 valid)
judged_accepted b c (Unknown line) valid is = absurd is
