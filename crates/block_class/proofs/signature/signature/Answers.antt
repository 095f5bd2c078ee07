use Rattle.std.proofs.Common.{[], length, arith}
use Rattle.std.specs.Prelude.{pos}
use Rattle.bp_theory.specs.Blocking.{Copy}
use Rattle.block_class.proofs.SignatureLemmas.{copies_more}
use Rattle.block_class.proofs.signature.signature.Goals as goal

pub loop-place-preserved : goal.loop-place-preserved
loop-place-preserved c =
    let d : Copy = record { var = 0; cost = pos 0; coefs = [] } in
    copies_more c.args.zone.now c.args.block.now.block.copies c.loop-place.place d (pos (length c.args.block.now.block.copies)) c.loop-place.numbers.items c.push_copy.new.numbers.items
    (omega (arith, c.loop-place-test.true, c.var_count-count.ensures)) c.loop-place.invariant (c.in_ok-push_copy.ensures d)
