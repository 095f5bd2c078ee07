use Rattle.std.proofs.Common.{arith}
use Rattle.std.proofs.lemmas.List.{length-map}
use Rattle.block_pricers.specs.Forms.{form_with, forms_in}
use Rattle.block_pricers.proofs.SeatLemmas.{one_seated_more}
use Rattle.block_pricers.proofs.seats.seated.Goals as goal

pub loop-block-preserved : goal.loop-block-preserved
loop-block-preserved c =
    one_seated_more (forms_in c.args.b.now) c.loop-block.block c.loop-block.seats.items c.loop-block.firsts.list.items c.find_or_add.new.self.list.items
    c.push.new.self.items c.in_ok-seat.seat
    (omega (
      arith,
      c.loop-block-test.true,
      c.blocks-blocks.ensures.blocks,
      length-map c.args.b.now.blocking.blocks (form_with c.args.b.now.named.program.spans),
    ))
    c.in_ok-seat.ensures.grown c.loop-block.invariant c.in_ok-seat.ensures.seat c.in_ok-push.ensures.items
