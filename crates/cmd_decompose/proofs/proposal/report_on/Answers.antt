use Rattle.std.proofs.lemmas.Result.{IfOk-weaker}
use Rattle.cmd_decompose.proofs.proposal.report_on.Goals as goal

pub returns : goal.returns
returns c = IfOk-weaker c.proposed_text.result _ _ (λ report is. record { root = c.in_ok-root.root; classes = c.in_ok-root.ensures; printed = is }) c.proposed_text.ensures
