use Rattle.std.proofs.Common.{sym, ◌∙◌}
use Rattle.lagr_bound.proofs.PartLemmas.{price_is_part}
use Rattle.lagr_bound.proofs.parts.part.Goals as goal

pub returns-then-is_picked-clause-answer : goal.returns-then-is_picked-clause-answer
returns-then-is_picked-clause-answer c =
    price_is_part c.args.b.now.blocking c.args.zone.now c.args.proof.now c.args.cap c.args.number c.price.result _ (sym c.is_picked.ensures ∙ c.if-is_picked.true)
    c.price.ensures.answer
