use Rattle.std.proofs.Common.{[], subst}
use Rattle.cert_walk.specs.Cuttings.{HoldsCuts}
use Rattle.cert_walk.specs.Walks.{WalksBelow}
use Rattle.cert_walk.specs.declared.walk.Walk.{Walk}
use Rattle.cert_walk.proofs.Walking.{cut_still, cut_misfit}
use Rattle.cert_walk.proofs.cutting.Cutting.add.Goals as goal

pub returns-in-At-clause-holds : goal.returns-in-At-clause-holds
returns-in-At-clause-holds c = λ cuts none holds.
    c.add_at.ensures.holds cuts none (subst (HoldsCuts c.args.self cuts) c.in-At.is holds)

pub returns-in-At-clause-judged : goal.returns-in-At-clause-judged
returns-in-At-clause-judged c = λ claim zs cuts visits k none holds h.
    let P : Walk → Type 0 = λ w. WalksBelow c.args.b.now.named.program k claim (record { point = zs; dec = c.args.b.now.dec; cuts = cuts }) visits [] w in
    c.add_at.ensures.judged claim zs cuts visits k none (subst (HoldsCuts c.args.self cuts) c.in-At.is holds) (subst P c.in-At.is h)

pub returns-in-Ended-clause-judged : goal.returns-in-Ended-clause-judged
returns-in-Ended-clause-judged c = λ claim zs cuts visits k none holds h.
    let P : Walk → Type 0 = λ w. WalksBelow c.args.b.now.named.program k claim (record { point = zs; dec = c.args.b.now.dec; cuts = cuts }) visits [] w in
    cut_still c.args.b.now.named.program k claim zs c.args.b.now.dec cuts c.args.cut visits c.in-Ended.stop (subst P c.in-Ended.is h)

pub returns-in-Misfit-clause-judged : goal.returns-in-Misfit-clause-judged
returns-in-Misfit-clause-judged c = λ claim zs cuts visits k none holds h.
    let P : Walk → Type 0 = λ w. WalksBelow c.args.b.now.named.program k claim (record { point = zs; dec = c.args.b.now.dec; cuts = cuts }) visits [] w in
    cut_misfit c.args.b.now.named.program k claim zs c.args.b.now.dec cuts c.args.cut visits (subst P c.in-Misfit.is h)
