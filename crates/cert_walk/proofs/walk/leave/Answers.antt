use Rattle.std.proofs.Common.{sym, subst}
use Rattle.std.proofs.lemmas.Bool.{true≢false}
use Rattle.cert_walk.specs.Walks.{WalksBelow, leaf_with}
use Rattle.cert_walk.specs.declared.walk.Walk.{Walk}
use Rattle.cert_walk.proofs.Walking.{left_over, left_foreign, left_still, left_misfit}
use Rattle.cert_walk.proofs.walk.leave.Goals as goal

pub returns-then-can_judge-clause-judged : goal.returns-then-can_judge-clause-judged
returns-then-can_judge-clause-judged c = λ p k front visits ts over h.
    left_over c.args.b.now p k c.args.claim.now front visits ts (leaf_with c.args.is_open c.args.proof.now) c.args.walk c.in-At.path c.leave_from.result c.in-At.is over h
    c.leave_from.ensures.judged

pub returns-else-can_judge-clause-judged : goal.returns-else-can_judge-clause-judged
returns-else-can_judge-clause-judged c = λ p k front visits ts over h.
    left_foreign c.args.b.now p k c.args.claim.now front visits ts c.args.walk c.in-At.path c.args.proof.now c.args.is_open c.in-At.is over
    (λ both. true≢false (sym (c.if-can_judge.ensures.1 both)))

pub returns-in-Ended-clause-judged : goal.returns-in-Ended-clause-judged
returns-in-Ended-clause-judged c = λ p k front visits ts over h.
    let P : Walk → Type 0 = λ w. WalksBelow p k c.args.claim.now front visits ts w in
    left_still p k c.args.claim.now front visits ts (leaf_with c.args.is_open c.args.proof.now) c.in-Ended.stop (subst P c.in-Ended.is h)

pub returns-in-Misfit-clause-judged : goal.returns-in-Misfit-clause-judged
returns-in-Misfit-clause-judged c = λ p k front visits ts over h.
    let P : Walk → Type 0 = λ w. WalksBelow p k c.args.claim.now front visits ts w in
    left_misfit p k c.args.claim.now front visits ts (leaf_with c.args.is_open c.args.proof.now) (subst P c.in-Misfit.is h)
