use Rattle.std.proofs.Common.{arith, rules}
use Rattle.block_program.proofs.BlockLemmas.{rising_keys, not_rising}
use Rattle.block_program.proofs.fitting.ascend.Goals as goal

pub returns-then-mults-i : goal.returns-then-mults-i
returns-then-mults-i c = (
  (λ h. absurd (cc)),
  λ rises. absurd (not_rising c.args.mults.now c.loop-i.i c.loop-i.auto.i c.loop-i-test.true c.if-mults-i.true rises),
)

pub returns : goal.returns
returns c = ((λ h. rising_keys c.args.mults.now (λ k l. c.loop-i.invariant k (omega arith))), λ rises. search rules)
