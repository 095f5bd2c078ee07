use Rattle.std.proofs.Common.{None, refl}
use Rattle.cert_stream.specs.declared.checker.Checker.{Checker}
use Rattle.cert_walk.specs.declared.walk.Walk.TheVariants.{At}
use Rattle.cert_stream.proofs.Stepping.{begins}
use Rattle.cert_stream.proofs.checker.Checker.make.Goals as goal

pub returns-clause-stands : goal.returns-clause-stands
returns-clause-stands c =
    let checker : Checker = record {
      frame = c.in_ok-frame.frame;
      lines = c.new.result;
      cuts = c.new-2.result;
      walk = At (record { place = record { zone = c.in_ok-zone.zone; line = 3; left = c.args.visits }; forks = c.new-3.result });
      work = None;
      held = 0;
      fed = 0;
      fault = None;
    } in
    begins c.args.b.now c.args.visits checker refl refl refl c.new.ensures.stands c.new.ensures.phase (c.new.ensures.shallow c.args.b.now.named.program.limits)
    (record { unmade = c.new-2.ensures.program; none = c.new-2.ensures.cuts; fresh = (refl, refl, c.new-3.ensures.items, c.in_ok-zone.ensures.spans) })
