use Rattle.std.proofs.Common.{◌∙◌}
use Rattle.lp_syntax.proofs.NumberLemmas.{capped_none, capped_more}
use Rattle.lp_syntax.proofs.number.capped_number.Goals as goal

pub loop-b-init : goal.loop-b-init
loop-b-init c = capped_none c.args.bytes.now

pub loop-b-preserved : goal.loop-b-preserved
loop-b-preserved c = c.next_value-value.ensures ∙ capped_more c.args.bytes.now c.loop-b.b-index c.loop-b.value c.loop-b-test.true c.loop-b.invariant
