use Rattle.std.proofs.Common.{refl, pos, arith}
use Rattle.pricing_problem.proofs.ZoneLaws.{parts_more, zone_from_parts}
use Rattle.pricing_problem.proofs.checks.is_zone.Goals as goal

pub loop-k-preserved : goal.loop-k-preserved
loop-k-preserved c =
    parts_more c.args.spans.now c.args.zone.now c.loop-k.k (record { lo = pos 0; hi = pos 0 }) (record { lo = pos 0; hi = pos 0 }) c.loop-k-test.true
    c.if-zone-spans.false c.loop-k.invariant (c.if-not-is_proper_part.ensures.0 refl)

pub returns : goal.returns
returns c =
    (λ _. zone_from_parts c.args.spans.now c.args.zone.now c.loop-k.k c.if-zone-spans.false c.loop-k-test.false c.loop-k.invariant, λ _. refl)
