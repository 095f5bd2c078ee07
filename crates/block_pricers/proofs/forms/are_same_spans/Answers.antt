use Rattle.std.proofs.Common.{arith, pos}
use Rattle.std.proofs.lemmas.List.{ext_get_or}
use Rattle.block_pricers.proofs.forms.are_same_spans.Goals as goal

pub returns : goal.returns
returns c =
    ext_get_or (record { lo = pos 0; hi = pos 0 }) c.args.a.now c.args.b.now (omega arith)
    (λ k l. c.loop-place.invariant k (omega (arith, l, c.loop-place-test.false)))
