use Rattle.std.proofs.Common.{pos, arith}
use Rattle.std.proofs.lemmas.List.{ext_get_or}
use Rattle.enumeration.proofs.relax.keep_plain.Goals as goal

pub returns-clause-costs : goal.returns-clause-costs
returns-clause-costs c =
    ext_get_or (pos 0) c.loop-k.relaxed.costs.items c.args.costs.now (omega (arith, c.loop-k.invariant.len, c.loop-k.relaxed.costs.ok.0))
    (λ i l. c.loop-k.invariant.copied i (omega (arith, l, c.loop-k.invariant.len, c.loop-k.relaxed.costs.ok.0, c.loop-k-test.false)))
