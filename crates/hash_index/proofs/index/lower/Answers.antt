use Rattle.std.proofs.Common.{arith}
use Rattle.hash_index.proofs.IndexLemmas.{lowered_more}
use Rattle.hash_index.proofs.index.lower.Goals as goal

pub loop-i-preserved : goal.loop-i-preserved
loop-i-preserved c =
    lowered_more c.args.numbers.now c.loop-i.numbers c.loop-i.i c.saturating_sub.result (omega (arith, c.loop-i-test.true)) c.loop-i.invariant
    c.saturating_sub.ensures
