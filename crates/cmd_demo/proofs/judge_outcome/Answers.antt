use Rattle.std.proofs.Common.{None, subst, List, ℕ, Ok}
use Rattle.cert_stream.specs.Checks.{Finishes}
use Rattle.cert_format.specs.Plain.{version_with}
use Rattle.search_outcome.specs.Outcomes.{outcome_certificate}
use Rattle.search_outcome.proofs.Outcomes.{outcome_certified}
use Rattle.cmd_demo.proofs.Certified.{judged_back}
use Rattle.cmd_demo.proofs.judge_outcome.Goals as goal

pub returns-in-Ok : goal.returns-in-Ok
returns-in-Ok c =
    let b = c.args.b.now in
    judged_back b (version_with b.cuts) (outcome_certificate b c.args.outcome.now) c.in_ok-text.text.items c.in-Ok.judged c.in_ok-text.ensures
    (outcome_certified b 2000 c.args.outcome.now c.requires.ends)
    (subst (λ (t : List ℕ). Finishes b None t (Ok c.in-Ok.judged)) c.deref.ensures.value c.in-Ok.ensures)
