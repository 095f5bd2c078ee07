use Rattle.std.proofs.lemmas.Result.{IfOk-weaker}
use Rattle.cmd_decompose.proofs.proposal.report_of.Goals as goal

pub returns : goal.returns
returns c = IfOk-weaker c.report_on.result _ _ (λ report has. record { formed = c.in_ok-b.b; accepted = c.in_ok-b.ensures; told = has }) c.report_on.ensures
