use Rattle.std.proofs.Common.{arith}
use Rattle.block_build.proofs.ShareLemmas.{deal_more}
use Rattle.block_build.proofs.shares.deal.Goals as goal

pub loop-block-preserved : goal.loop-block-preserved
loop-block-preserved c = record {
  len = omega (arith, c.push_to.ensures.len, c.loop-block.invariant.len);
  dealt = λ k.
      deal_more c.args.all.now.items c.loop-block.all.items c.push_to.new.all.items c.args.blocks.now c.loop-block.block-index c.args.number k c.requires.once (omega arith)
      (omega (arith, c.requires.there c.loop-block.block-index 0 (omega arith), c.loop-block.invariant.len, c.loop-block.all.ok))
      (c.loop-block.invariant.dealt k) c.in_ok-push_to.ensures.pushed;
}
