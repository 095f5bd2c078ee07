use Rattle.std.proofs.Common.{subst}
use Rattle.cert_walk.specs.Walks.{WalksBelow}
use Rattle.cert_walk.specs.declared.walk.Walk.{Walk}
use Rattle.cert_walk.proofs.Walking.{entered_still}
use Rattle.cert_walk.proofs.walk.enter.Goals as goal

pub returns-in-Ended-clause-judged : goal.returns-in-Ended-clause-judged
returns-in-Ended-clause-judged c = λ p b claim front visits ts h.
    let P : Walk → Type 0 = λ w. WalksBelow p b claim front visits ts w in
    entered_still p b claim front visits ts c.in-Ended.stop c.args.split.var c.args.split.at (subst P c.in-Ended.is h)
