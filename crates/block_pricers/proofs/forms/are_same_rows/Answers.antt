use Rattle.std.proofs.Common.{arith, pos, []}
use Rattle.bp_theory.specs.declared.Sense.TheVariants.{Le}
use Rattle.std.proofs.lemmas.List.{ext_get_or}
use Rattle.block_pricers.proofs.forms.are_same_rows.Goals as goal

pub returns : goal.returns
returns c =
    ext_get_or (record { sense = Le; low = pos 0; rhs = pos 0; terms = [] }) c.args.a.now c.args.b.now (omega arith)
    (λ k l. c.loop-number.invariant k (omega (arith, l, c.loop-number-test.false)))
