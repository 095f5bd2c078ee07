use Rattle.std.proofs.Common.{arith}
use Rattle.std.proofs.Math.IntN.{pos}
use Rattle.bp_theory.specs.Program.{value_at}
use Rattle.variable_order.proofs.OrderLaws.{written}
use Rattle.variable_order.proofs.order.put_back.Goals as goal

pub returns : goal.returns
returns c =
    written (value_at c.args.numbers.now) c.args.places.now.items c.loop-var.point.items (pos 0)
    (omega (arith, c.loop-var.invariant.room, c.loop-var.point.ok.0, c.args.places.now.ok.0))
    (λ i l. c.loop-var.invariant.numbers_are i (omega (arith, l, c.loop-var-test.false, c.args.places.now.ok.0, c.len-var-end.ensures)))
