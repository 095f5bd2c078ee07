use Rattle.std.proofs.Common.{pos, arith}
use Rattle.std.proofs.lemmas.List.{ext_get_or}
use Rattle.enumeration.proofs.start.copy_spans.Goals as goal

pub returns : goal.returns
returns c =
    ext_get_or (record { lo = pos 0; hi = pos 0 }) c.loop-k.to.items c.args.from.now (omega (arith, c.loop-k.invariant.0, c.loop-k.to.ok.0))
    (λ i l. c.loop-k.invariant.1 i (omega (arith, l, c.loop-k.invariant.0, c.loop-k.to.ok.0, c.loop-k-test.false)))
