use Rattle.open_nodes.proofs.Paths.{beside_above, beside_ends}
use Rattle.open_nodes.proofs.path.lies_below.Goals as goal

pub loop-next-preserved : goal.loop-next-preserved
loop-next-preserved c =
    beside_above c.args.steps.now c.loop-next.here.now c.loop-next.ahead.now c.in-Some-last.next.now c.in-Some-last-2.behind.now _
    c.in-Some-last-2.field-0-0 c.in-Some-last.field-0-0 c.loop-next.invariant c.in-Some-last-2.ensures.some c.in-Some-last.ensures.some

pub returns : goal.returns
returns c =
    beside_ends c.args.steps.now c.loop-next.here.now c.loop-next.ahead.now c.args.above.now c.are_sides.result
    c.loop-next.invariant c.in_default-last.ensures.none c.are_sides.ensures
