use Rattle.std.proofs.Common.{false, refl, Some}
use Rattle.bp_theory.specs.declared.CheckKind.TheVariants.{Split}
use Rattle.cert_walk.specs.declared.path.Fork.{Fork}
use Rattle.cert_walk.specs.declared.path.Path.{Path}
use Rattle.cert_walk.proofs.Walking.{entered_ended, entered_at, entered_below, entered_in}
use Rattle.cert_walk.proofs.walk.enter_from.Goals as goal

pub returns-in-None-clause-judged : goal.returns-in-None-clause-judged
returns-in-None-clause-judged c = λ p b claim front visits ts h.
    entered_ended p b claim front visits ts c.args.path (record { line = c.args.path.place.line; fault = Some Split }) c.args.split.var c.args.split.at c.in-None.ensures refl refl h

pub returns-in_ok-push-in-Some-clause-judged : goal.returns-in_ok-push-in-Some-clause-judged
returns-in_ok-push-in-Some-clause-judged c = λ p b claim front visits ts h.
    let now : Path = record { place = c.to_low.result; forks = c.push.new.self } in
    let f : Fork = record { place = c.args.split; span = c.in-Some.span; is_high = false } in
    entered_at p b claim front visits ts c.args.path now c.args.split.var c.args.split.at c.in-Some.ensures.2 c.to_low.ensures.line c.to_low.ensures.left
    (entered_below p.spans ts c.args.path now f c.args.split.var c.args.split.at c.in_ok-push-in-Some.ensures.items refl refl c.in-Some.ensures.0 refl c.to_low.ensures.zone h.stands) h

pub returns-in_ok-push-in-Some-clause-inside : goal.returns-in_ok-push-in-Some-clause-inside
returns-in_ok-push-in-Some-clause-inside c = λ root h.
    let now : Path = record { place = c.to_low.result; forks = c.push.new.self } in
    let f : Fork = record { place = c.args.split; span = c.in-Some.span; is_high = false } in
    entered_in root c.args.path now f c.args.split.var c.args.split.at c.in_ok-push-in-Some.ensures.items refl refl c.in-Some.ensures.0 c.in-Some.ensures.1 c.in-Some.ensures.2
    c.to_low.ensures.zone h
