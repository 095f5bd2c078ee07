use Rattle.std.proofs.Common.{◌∙◌, sym, subst, arith}
use Rattle.pricing_problem.proofs.Passed.{passed}
use Rattle.shortest_path.specs.Best.{IsLeastFrom}
use Rattle.shortest_path.specs.Pairs.{steps_with, pairs_at}
use Rattle.shortest_path.proofs.PairLaws.{cells_positive}
use Rattle.shortest_path.proofs.least.short_least.Goals as goal

pub first_widened-requires : goal.first_widened-requires
first_widened-requires c = omega (arith, c.short_pass.ensures.room.short_next.each, c.short_pass.new.work.short_next.ok.0)

pub returns-clause-least : goal.returns-clause-least
returns-clause-least c =
    subst (λ v. IsLeastFrom (steps_with c.args.graph.now.wide c.args.graph.now.steps.items c.args.lists.now) c.short_pass.new.work.picks.items c.args.zone.now c.args.costs.now 0 v)
    (sym (passed c.first_widened.result c.first_widened.type_inv ∙ c.first_widened.ensures))
    (c.short_pass.ensures.least 0 (cells_positive c.args.graph.now.wide (pairs_at c.args.lists.now 0) c.args.graph.now.rooted))
