use Rattle.std.proofs.Common.{refl, None, arith, ⊎_elim}
use Rattle.std.proofs.lemmas.Bool.{cases_lt}
use Rattle.std.proofs.lemmas.List.{get_or_past}
use Rattle.block_pricers.proofs.FormLemmas.{none_more}
use Rattle.block_pricers.proofs.desks.clear.Goals as goal

pub loop-k-preserved : goal.loop-k-preserved
loop-k-preserved c = (c.loop-k.invariant.0, none_more c.loop-k.known.items c.loop-k.k None refl c.loop-k.invariant.1)

pub returns-clause-cleared : goal.returns-clause-cleared
returns-clause-cleared c k = ⊎_elim
    (λ below. c.loop-k.invariant.1 k below)
    (λ above. get_or_past c.loop-k.known.items k None (omega (arith, above, c.loop-k-test.false, c.len-k-end.ensures, c.loop-k.invariant.0, c.loop-k.known.ok.0)))
    (cases_lt k c.loop-k.k)
