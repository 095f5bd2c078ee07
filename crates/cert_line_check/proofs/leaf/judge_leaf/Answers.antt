use Rattle.std.proofs.Common.{refl, sym, subst}
use Rattle.std.proofs.lemmas.Bool.{true≢false}
use Rattle.bp_theory.specs.Trees.{Leaf}
use Rattle.bp_theory.specs.declared.CheckKind.TheVariants.{Sign}
use Rattle.cert_line_check.specs.Judging.{IsSpentOn}
use Rattle.cert_line_check.specs.declared.visits.Spent.{Spent}
use Rattle.cert_line_check.proofs.Lines.{sign_ends, unpriced_ends, ended_at}
use Rattle.cert_line_check.proofs.leaf.judge_leaf.Goals as goal

pub returns-then-not-signs_fit-clause-judged : goal.returns-then-not-signs_fit-clause-judged
returns-then-not-signs_fit-clause-judged c =
    let leaf : Leaf = record { zone = c.args.at.zone; proof = c.args.proof.now; is_open = c.args.is_open } in
    ended_at c.args.b.now.named.program c.args.b.now.blocking c.args.claim.now leaf c.args.at.left c.args.at.line Sign c.fault_at.result c.fault_at.ensures
    (sign_ends c.args.b.now.named.program c.args.b.now.blocking c.args.claim.now leaf c.args.at.left c.args.at.line
    (λ h. true≢false (sym (c.if-not-signs_fit.ensures.1 h))))

pub returns-in-Exceeding-clause-judged : goal.returns-in-Exceeding-clause-judged
returns-in-Exceeding-clause-judged c =
    let leaf : Leaf = record { zone = c.args.at.zone; proof = c.args.proof.now; is_open = c.args.is_open } in
    unpriced_ends c.args.b.now.named.program c.args.b.now.blocking c.args.claim.now leaf c.args.at.left c.args.at.line (c.if-not-signs_fit.ensures.0 refl)
    (subst (λ (s : Spent). IsSpentOn c.args.b.now.named.program.spans c.args.b.now.blocking c.args.at.zone c.args.proof.now.picked c.args.at.left s) c.in-Exceeding.is c.in_ok-spend.ensures)
