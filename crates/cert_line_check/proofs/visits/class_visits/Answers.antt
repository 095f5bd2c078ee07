use Rattle.std.proofs.Common.{subst, arith}
use Rattle.cert_line_check.specs.Counting.{AreCutBelow}
use Rattle.cert_line_check.proofs.Counting.{no_blocks, none_seen, one_block_more}
use Rattle.cert_line_check.proofs.visits.class_visits.Goals as goal

pub loop-number-init : goal.loop-number-init
loop-number-init c = (
  none_seen c.args.classes.now.classes c.args.classes.now.firsts c.args.proof.now.picked c.in_ok-seen.seen.items _ c.len.ensures
      (c.in_ok-seen.ensures.items_if_clones_equal (λ y h. h)),
  no_blocks c.args.b.now.named.program.spans c.args.b.now.blocking c.args.zone.now c.args.proof.now.picked,
  omega arith,
)

pub loop-number-preserved : goal.loop-number-preserved
loop-number-preserved c = (
  c.block_visits.ensures.seen,
  one_block_more c.args.b.now.named.program.spans c.args.b.now.blocking c.args.zone.now c.args.proof.now.picked c.loop-number.number c.loop-number.sum
      c.in_ok-more.more c.cut_sum-sum.result c.loop-number.invariant.1 c.in_ok-more.ensures.visits c.cut_sum-sum.ensures,
  omega (arith, c.loop-number-test.true, c.blocks-blocks.ensures.blocks),
)

pub returns : goal.returns
returns c =
    subst (λ k. AreCutBelow c.args.b.now.named.program.spans c.args.b.now.blocking c.args.zone.now c.args.proof.now.picked k c.loop-number.sum)
    (omega (arith, c.loop-number.invariant.2, c.loop-number-test.false, c.blocks-blocks.ensures.blocks)) c.loop-number.invariant.1
