use Rattle.std.proofs.Common.{ap, sym, subst}
use Rattle.std.specs.Prelude.{OnOk}
use Rattle.cert_parser.specs.declared.lines.Event.{Event}
use Rattle.cert_stream.specs.Checks.{TakesEvent}
use Rattle.cert_stream.specs.declared.checker.Checker.{Checker}
use Rattle.cert_stream.proofs.Stepping.{keeps_walk}
use Rattle.cert_stream.proofs.checker.Checker.take.Goals as goal

pub returns-in-Claim-clause-judged : goal.returns-in-Claim-clause-judged
returns-in-Claim-clause-judged c =
    let r = c.args.self.now in
    let new = c.take_claim.new.self in
    let P : Event → Type 0 = λ x. TakesEvent c.args.b.now r.lines.claim r.lines.point r.cuts new.cuts r.walk new.walk x in
    subst P (sym c.in-Claim.is) c.take_claim.ensures.judged

pub returns-in-Cut-clause-judged : goal.returns-in-Cut-clause-judged
returns-in-Cut-clause-judged c =
    let r = c.args.self.now in
    let new = c.take_cut.new.self in
    let P : Event → Type 0 = λ x. OnOk c.take_cut.result (TakesEvent c.args.b.now r.lines.claim r.lines.point r.cuts new.cuts r.walk new.walk x) in
    subst P (sym c.in-Cut.is) c.take_cut.ensures.judged

pub returns-in-Leaf-clause-judged : goal.returns-in-Leaf-clause-judged
returns-in-Leaf-clause-judged c =
    let r = c.args.self.now in
    let new = c.take_leaf.new.self in
    let P : Event → Type 0 = λ x. OnOk c.take_leaf.result (TakesEvent c.args.b.now r.lines.claim r.lines.point r.cuts new.cuts r.walk new.walk x) in
    subst P (sym c.in-Leaf.is) c.take_leaf.ensures.judged

pub returns-in-Cut-clause-line : goal.returns-in-Cut-clause-line
returns-in-Cut-clause-line c = λ most more h. c.take_cut.ensures.line most h

pub returns-in-Leaf-clause-line : goal.returns-in-Leaf-clause-line
returns-in-Leaf-clause-line c = λ most more h. c.take_leaf.ensures.line most h

pub returns-in-Split-clause-line : goal.returns-in-Split-clause-line
returns-in-Split-clause-line c = λ most more h. c.take_split.ensures.line most h

pub returns-in-Split-clause-keeps : goal.returns-in-Split-clause-keeps
returns-in-Split-clause-keeps c =
    let rest = c.take_split.ensures.rest in
    keeps_walk c.args.b.now c.args.self.now c.take_split.new.self (ap (λ (x : Checker). x.cuts) rest) (ap (λ (x : Checker). x.work) rest)
    (c.take_split.ensures.inside c.args.b.now.named.program.spans c.requires.keeps.inside) c.requires.keeps

pub returns-in-Split-clause-judged : goal.returns-in-Split-clause-judged
returns-in-Split-clause-judged c =
    let r = c.args.self.now in
    let new = c.take_split.new.self in
    let P : Event → Type 0 = λ x. OnOk c.take_split.result (TakesEvent c.args.b.now r.lines.claim r.lines.point r.cuts new.cuts r.walk new.walk x) in
    subst P (sym c.in-Split.is) (c.take_split.ensures.judged c.args.b.now)
