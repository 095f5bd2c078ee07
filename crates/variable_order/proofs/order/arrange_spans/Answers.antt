use Rattle.std.proofs.Common.{arith}
use Rattle.std.proofs.Math.IntN.{pos}
use Rattle.bp_theory.specs.Program.{span_at}
use Rattle.variable_order.proofs.OrderLaws.{written}
use Rattle.variable_order.proofs.order.arrange_spans.Goals as goal

pub returns : goal.returns
returns c =
    written (span_at c.args.spans.now) c.args.vars.now.items c.loop-place.arranged.items (record { lo = pos 0; hi = pos 0 })
    (omega (arith, c.loop-place.invariant.room, c.loop-place.arranged.ok.0, c.args.vars.now.ok.0))
    (λ i l. c.loop-place.invariant.spans_are i (omega (arith, l, c.loop-place-test.false, c.args.vars.now.ok.0, c.len-place-end.ensures)))
