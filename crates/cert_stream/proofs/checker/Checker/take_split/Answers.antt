use Rattle.std.proofs.Common.{refl, sym, subst}
use Rattle.cert_walk.specs.Walks.{IsWalkIn, IsWithin}
use Rattle.cert_stream.proofs.Stepping.{takes_split}
use Rattle.cert_stream.proofs.checker.Checker.take_split.Goals as goal

pub returns-clause-judged : goal.returns-clause-judged
returns-clause-judged c = λ b.
    let r = c.args.self.now in
    takes_split b r.lines.claim r.lines.point r.cuts r.cuts r.walk c.replace-walk.result c.in_ok-self.field-0 c.args.split refl c.replace-walk.ensures.value c.in_ok-self.ensures.on
    c.in_ok-self.ensures.judged

pub returns-clause-inside : goal.returns-clause-inside
returns-clause-inside c = λ root h. c.in_ok-self.ensures.inside root (subst (IsWalkIn root) (sym c.replace-walk.ensures.value) h)

pub returns-clause-line : goal.returns-clause-line
returns-clause-line c = λ most h. c.in_ok-self.ensures.line most (subst (IsWithin most) (sym c.replace-walk.ensures.value) h)
