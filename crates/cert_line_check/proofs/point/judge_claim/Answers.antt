use Rattle.std.proofs.Common.{refl, sym, subst, ◌∙◌, Some}
use Rattle.bp_theory.specs.Judgement.{HasFault, point_line}
use Rattle.bp_model.specs.Named.{NamedProgram}
use Rattle.cert_line_check.proofs.Points.{point_bad}
use Rattle.cert_line_check.proofs.point.judge_claim.Goals as goal

pub returns-in-Some-value_fault : goal.returns-in-Some-value_fault
returns-in-Some-value_fault c =
    point_bad c.args.b.now.named.program c.args.b.now.blocking c.args.claim.now (Some c.args.point.now) c.in-Some.value c.args.point.now c.in-Some-value_fault.kind
    (sym c.value_of.ensures ∙ c.in-Some.is)
    refl
    (subst (λ (n : NamedProgram). HasFault n.program c.args.b.now.blocking c.args.claim.now (point_line c.in-Some.value c.args.point.now) c.in-Some-value_fault.kind) c.model.ensures.model
    (c.in-Some-value_fault.ensures c.args.b.now.blocking c.args.claim.now))
