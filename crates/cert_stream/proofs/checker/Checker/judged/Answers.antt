use Rattle.std.proofs.Common.{refl, sym, subst, Err}
use Rattle.cert_stream.specs.Checks.{Finishes}
use Rattle.cert_stream.specs.declared.fault.FeedFault.{FeedFault}
use Rattle.cert_stream.proofs.Finishing.{accepts, stops, never_misfits, faults_at_end, kept_fault}
use Rattle.cert_stream.proofs.checker.Checker.judged.Goals as goal

pub returns-in-Some-clause-finishes : goal.returns-in-Some-clause-finishes
returns-in-Some-clause-finishes c = λ b visits text made h. kept_fault b visits c.args.self.now text c.in-Some.fault c.in-Some.is h

pub returns-in-Err-clause-finishes : goal.returns-in-Err-clause-finishes
returns-in-Err-clause-finishes c = λ b visits text made h.
    let P : FeedFault → Type 0 = λ x. Finishes b visits text (Err x) in
    subst P (sym c.feed_fault.ensures) (faults_at_end b visits c.args.self.now c.args.self.now.lines text c.in-Err.fault made c.in-None.is h c.in-Err.ensures.ends)

pub returns-in-At-clause-finishes : goal.returns-in-At-clause-finishes
returns-in-At-clause-finishes c = λ b visits text made h.
    accepts b visits c.args.self.now c.args.self.now.lines text c.in-At.field-0 c.claim.result made c.in-None.is h refl c.in-Ok.ensures.ends c.in-At.is c.claim.ensures

pub returns-in-Ended-clause-finishes : goal.returns-in-Ended-clause-finishes
returns-in-Ended-clause-finishes c = λ b visits text made h.
    stops b visits c.args.self.now c.args.self.now.lines text c.in-Ended.stop c.stopped.result made c.in-None.is h refl c.in-Ok.ensures.ends c.in-Ended.is c.stopped.ensures

pub unreachable-requires : goal.unreachable-requires
unreachable-requires c =
    let s = c.requires.stands in
    never_misfits s.0 s.1 c.args.self.now c.args.self.now.lines s.2 s.3 c.in-None.is s.4 refl c.in-Ok.ensures.ends c.in-Misfit.is
