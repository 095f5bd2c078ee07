use Rattle.std.proofs.Common.{arith}
use Rattle.std.proofs.Math.IntN.{pos}
use Rattle.bp_theory.specs.Program.{value_at}
use Rattle.variable_order.proofs.OrderLaws.{written}
use Rattle.variable_order.proofs.order.arrange_costs.Goals as goal

pub returns : goal.returns
returns c =
    written (value_at c.args.costs.now) c.args.vars.now.items c.loop-place.arranged.items (pos 0)
    (omega (arith, c.loop-place.invariant.room, c.loop-place.arranged.ok.0, c.args.vars.now.ok.0))
    (λ i l. c.loop-place.invariant.costs_are i (omega (arith, l, c.loop-place-test.false, c.args.vars.now.ok.0, c.len-place-end.ensures)))
