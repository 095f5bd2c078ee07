use Rattle.std.proofs.Common.{◌∙◌, ap, length, List, arith}
use Rattle.bp_theory.specs.declared.Span.{Span}
use Rattle.block_pricers.proofs.FormLemmas.{one_room_more}
use Rattle.block_pricers.proofs.told.rooms_of.Goals as goal

pub loop-number-preserved : goal.loop-number-preserved
loop-number-preserved c =
    one_room_more c.args.b.now c.block.result.now c.loop-number.number c.loop-number.told.items c.push.new.self.items c.in_ok-make.field-0
    (omega (arith, c.loop-number-test.true, c.blocks-number-end.ensures.blocks)) c.block.ensures.block c.block.ensures.spans
    c.in_ok-push.ensures.items (c.in_ok-make.ensures.room ∙ ap (λ (ss : List Span). length ss) c.spans-many.ensures.spans) c.in_ok-make.ensures.silent
    c.loop-number.invariant.0 c.loop-number.invariant.1
