use Rattle.block_pricers.specs.Forms.{forms_in}
use Rattle.block_pricers.specs.Seats.{AreSeated}
use Rattle.block_pricers.proofs.seats.seated.Given as goal

abbrev pub invariant-loop-block : goal.invariant-loop-block
invariant-loop-block l = AreSeated (forms_in l.b) l.block l.seats.items l.firsts.list.items
