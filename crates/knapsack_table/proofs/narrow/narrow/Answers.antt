use Rattle.std.proofs.Common.{arith}
use Rattle.knapsack_table.proofs.NarrowLaws.{narrowed_from_places}
use Rattle.knapsack_table.proofs.narrow.narrow.Goals as goal

pub returns : goal.returns
returns c =
    narrowed_from_places c.loop-k.part.items c.args.row.now.sense c.args.coefs.now c.args.zone.now c.args.costs.now c.requires.coefs c.requires.costs
    (omega (arith, c.loop-k.invariant.many, c.loop-k.part.ok.0))
    (λ k d l. c.loop-k.invariant.part k d (omega (arith, l, c.loop-k-test.false)))
