use Rattle.std.proofs.Common.{None, arith}
use Rattle.block_build.proofs.GatherLemmas.{none_more}
use Rattle.block_build.proofs.homes.first_elsewhere.Goals as goal

pub loop-i-preserved : goal.loop-i-preserved
loop-i-preserved c = none_more c.args.homes.now c.args.listed.now c.loop-i.i (0, None) c.loop-i-test.true c.loop-i.invariant c.if-is_elsewhere.ensures

pub returns : goal.returns
returns c = λ k d l. c.loop-i.invariant k d (omega arith)
