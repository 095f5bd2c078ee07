use Rattle.std.proofs.Common.{◌+◌, Option, Some, Ok, ap, subst, refl, ◌∙◌}
use Rattle.cert_parser.specs.Telling.{Tells}
use Rattle.cert_parser.specs.declared.lines.Event.{Event}
use Rattle.cert_stream.specs.declared.checker.Checker.{Checker}
use Rattle.cert_stream.proofs.Stepping.{Reads, faults_on, quiet_on, event_on, made_on, made_same}
use Rattle.cert_stream.proofs.checker.Checker.step.Goals as goal

pub returns-in-Err-clause-stands : goal.returns-in-Err-clause-stands
returns-in-Err-clause-stands c = λ visits text h.
    faults_on c.args.b.now visits c.args.self.now c.keep_fault.new.self c.step.new.self text c.args.byte c.in-Err.fault c.requires.made_for c.requires.none c.in-Err.ensures.steps
    (ap (λ (x : Checker). x.fault) c.keep_fault.ensures.kept ∙ ap Some c.feed_fault.ensures) h

pub returns-in-Ok-None-clause-stands : goal.returns-in-Ok-None-clause-stands
returns-in-Ok-None-clause-stands c = λ visits text h.
    let old = c.args.self.now in
    let new : Checker = record old { lines = c.step.new.self; fed = old.fed + 1 } in
    let R : Option Event → Type 0 = λ o. Reads old c.step.new.self c.args.byte (Ok o) in
    let T : Option Event → Type 0 = λ o. Tells old.frame.limits old.lines c.step.new.self o in
    quiet_on c.args.b.now visits old new text c.args.byte c.requires.made_for c.requires.none (subst R c.in-Ok-None.field-0-is c.in-Ok-None.ensures.steps)
    (subst T c.in-Ok-None.field-0-is c.in-Ok-None.ensures.told) refl refl refl refl refl c.requires.none h

pub returns-in-Err-take-clause-made_for : goal.returns-in-Err-take-clause-made_for
returns-in-Err-take-clause-made_for c =
    let old = c.args.self.now in
    let taken = c.take.new.self in
    let kept = c.keep_fault-in-Err-take.ensures.kept in
    made_same c.args.b.now taken c.keep_fault-in-Err-take.new.self (ap (λ (x : Checker). x.frame) kept) (ap (λ (x : Checker). x.cuts) kept) (ap (λ (x : Checker). x.work) kept) (ap (λ (x : Checker). x.walk) kept)
    (ap (λ (x : Checker). x.fed) kept)
    (made_on c.args.b.now old taken (ap (λ (x : Checker). x.frame) c.take.ensures.rest) c.take.ensures.keeps (ap (λ (x : Checker). x.fed) c.take.ensures.rest)
    c.requires.few c.take.ensures.line c.requires.made_for)

pub returns-in-Ok-clause-made_for : goal.returns-in-Ok-clause-made_for
returns-in-Ok-clause-made_for c =
    made_on c.args.b.now c.args.self.now c.take.new.self (ap (λ (x : Checker). x.frame) c.take.ensures.rest) c.take.ensures.keeps
    (ap (λ (x : Checker). x.fed) c.take.ensures.rest) c.requires.few c.take.ensures.line c.requires.made_for

pub returns-in-Ok-clause-stands : goal.returns-in-Ok-clause-stands
returns-in-Ok-clause-stands c = λ visits text h.
    let old = c.args.self.now in
    let R : Option Event → Type 0 = λ o. Reads old c.step.new.self c.args.byte (Ok o) in
    let T : Option Event → Type 0 = λ o. Tells old.frame.limits old.lines c.step.new.self o in
    let rest = c.take.ensures.rest in
    event_on c.args.b.now visits old c.take.new.self c.step.new.self text c.args.byte c.in-Ok-Some.event c.requires.made_for c.requires.none (ap (λ (x : Checker). x.lines) rest)
    (subst R c.in-Ok-Some.field-0-is c.in-Ok-Some.ensures.steps) (subst T c.in-Ok-Some.field-0-is c.in-Ok-Some.ensures.told) c.in-Ok.ensures.judged
    (ap (λ (x : Checker). x.frame) rest) c.in-Ok.ensures.held (ap (λ (x : Checker). x.fed) rest) (ap (λ (x : Checker). x.fault) rest ∙ c.requires.none) h
