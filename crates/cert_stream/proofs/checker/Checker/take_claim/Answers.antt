use Rattle.cert_stream.proofs.Stepping.{takes_claim}
use Rattle.cert_stream.proofs.checker.Checker.take_claim.Goals as goal
use Rattle.std.proofs.Common.{refl, sym, subst}
use Rattle.cert_walk.specs.Walks.{IsWithin}

pub returns-clause-judged : goal.returns-clause-judged
returns-clause-judged c =
    let r = c.args.self.now in
    takes_claim c.args.b.now r.lines.claim c.claim.result r.lines.point c.point.result.now r.cuts r.cuts r.walk c.replace-walk.result c.begin.result refl c.replace-walk.ensures.value
    c.claim.ensures c.point.ensures c.begin.ensures.judged

pub returns-clause-line : goal.returns-clause-line
returns-clause-line c = λ most more h. c.begin.ensures.line most more (subst (IsWithin most) (sym c.replace-walk.ensures.value) h)
