use Rattle.std.proofs.Common.{arith}
use Rattle.node_bound.proofs.Leaves.{none_open}
use Rattle.node_bound.proofs.fork.first_open.Goals as goal

pub returns : goal.returns
returns c = none_open c.args.spans.now c.requires.proper (λ k d l. c.loop-i.invariant k d (omega arith))
