-- One span more, of a variable that is not at fault.
use Rattle.std.proofs.Common.{arith, ◌∙◌, ap}
use Rattle.std.proofs.lemmas.List.{get_or_default}
use Rattle.lp_semantics.specs.Numbered.{fault_in}
use Rattle.lp_semantics.proofs.TermLemmas.{span_more, sound_more}
use Rattle.lp_semantics.proofs.spans.spans_of.Goals as goal

pub loop-number-preserved : goal.loop-number-preserved
loop-number-preserved c = (
  span_more c.args.table.now c.loop-number.number _ c.loop-number.spans c.push.new.self c.in-Ok.span (omega arith)
      c.loop-number.invariant.0 c.in_ok-push-in-Ok.ensures.added c.in-Ok.ensures.sound.1,
  sound_more c.args.table.now c.loop-number.number _ (omega arith) c.loop-number.invariant.1 c.in-Ok.ensures.sound.0,
)

pub returns-clause-sound : goal.returns-clause-sound
returns-clause-sound c =
    λ k d l. ap fault_in (get_or_default c.args.table.now k d _ l) ∙ c.loop-number.invariant.1 k (omega arith)
