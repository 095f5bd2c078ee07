use Rattle.std.proofs.Common.{◌≡◌, ◌∙◌, refl, ap, ℕ, List, Err}
use Rattle.cert_format.specs.Written.{certificate}
use Rattle.cert_format.specs.declared.fault.CertKind.{CertKind}
use Rattle.cert_stream.specs.Checks.{Finishes}
use Rattle.bp_report.specs.Refusals.{cert_refusal}
use Rattle.cmd_check.proofs.Certificates.{kept_point}
use Rattle.cmd_check.proofs.Replies.{verdicts_reply, fault_replies}
use Rattle.cmd_check.proofs.reply_of.Goals as goal

pub returns-in-Ok-clause-right : goal.returns-in-Ok-clause-right
returns-in-Ok-clause-right c = λ b visits text made stands.
    let is = c.in-Ok.ensures.finishes b visits text made stands in
    verdicts_reply visits b text (certificate is.0 is.1 is.2 is.3) c.in-Ok.judged c.verdict.result is.4 (kept_point is.0 is.1) is.6 is.7 c.verdict.ensures

-- a refusal of a line and a kind under their names
named : (report : List ℕ) (line other : ℕ) (kind another : CertKind) → report ≡ cert_refusal line kind → line ≡ other → kind ≡ another → report ≡ cert_refusal other another
named report line other kind another told line_is kind_is = told ∙ ap (λ l. cert_refusal l kind) line_is ∙ ap (cert_refusal other) kind_is

pub returns-in_ok-cert_text-in-Err-At-clause-right : goal.returns-in_ok-cert_text-in-Err-At-clause-right
returns-in_ok-cert_text-in-Err-At-clause-right c = λ b visits text made stands.
    let fault : Finishes b visits text (Err c.in-Err-At.field-0) = c.in-Err-At.ensures.finishes b visits text made stands in
    fault_replies visits b text c.in-Err-At.line c.in-Err-At.kind
    (record { status = 3; report = c.in_ok-cert_text-in-Err-At.field-0 }) (rw c.in-Err-At.field-0-is at fault) refl
    (named _ _ c.in-Err-At.line _ c.in-Err-At.kind c.in_ok-cert_text-in-Err-At.ensures c.in-Err-At.line-is c.in-Err-At.kind-is)
