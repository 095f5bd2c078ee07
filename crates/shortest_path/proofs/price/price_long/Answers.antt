use Rattle.std.proofs.Common.{sym, subst, List}
use Rattle.std.specs.Int.{w128}
use mir.Val.{of_z, to_z}
use Rattle.pricing_problem.proofs.Passed.{passed}
use Rattle.layer_graph.specs.Graphs.{IsFaithful}
use Rattle.shortest_path.specs.Best.{IsLeastFrom}
use Rattle.layer_graph.specs.declared.graph.Arc.{Arc}
use Rattle.shortest_path.proofs.PairLaws.{steps_bare}
use Rattle.shortest_path.proofs.price.price_long.Goals as goal

pub answer_of-requires-clause-least : goal.answer_of-requires-clause-least
answer_of-requires-clause-least c =
    subst (λ (xs : List (List Arc)). IsLeastFrom xs c.long_least-least.new.work.picks.items c.args.zone.now c.args.costs.now 0 (to_z w128 (of_z w128 c.long_least-least.result)))
    (sym (steps_bare c.args.graph.now.wide c.args.graph.now.steps.items))
    (subst (λ v. IsLeastFrom c.args.graph.now.steps.items c.long_least-least.new.work.picks.items c.args.zone.now c.args.costs.now 0 v)
    (sym (passed c.long_least-least.result c.long_least-least.type_inv)) c.long_least-least.ensures.least)

pub returns-clause-answer : goal.returns-clause-answer
returns-clause-answer c = λ rows spans g p.
    c.answer_of.ensures.answer rows spans (subst (λ (xs : List (List Arc)). IsFaithful rows spans xs) (sym (steps_bare c.args.graph.now.wide c.args.graph.now.steps.items)) g) p
