use Rattle.std.proofs.Common.{sym, subst}
use Rattle.pricing_problem.proofs.Passed.{passed}
use Rattle.shortest_path.specs.Best.{IsLeastFrom}
use Rattle.shortest_path.specs.Pairs.{steps_with}
use Rattle.shortest_path.proofs.price.price_zone.Goals as goal

pub answer_of-requires-clause-least : goal.answer_of-requires-clause-least
answer_of-requires-clause-least c =
    subst (λ v. IsLeastFrom (steps_with c.args.graph.now.wide c.args.graph.now.steps.items c.args.lists.now) c.short_least-least.new.work.picks.items c.args.zone.now c.args.costs.now 0 v)
    (sym (passed c.short_least-least.result c.short_least-least.type_inv)) c.short_least-least.ensures.least
