use Rattle.std.proofs.Common.{◌∙◌, sym, subst}
use Rattle.pricing_problem.proofs.Passed.{passed}
use Rattle.shortest_path.specs.Best.{IsLeastFrom}
use Rattle.shortest_path.proofs.least.long_least.Goals as goal

pub returns-clause-least : goal.returns-clause-least
returns-clause-least c =
    subst (λ v. IsLeastFrom c.args.graph.now.steps.items c.pass.new.work.picks.items c.args.zone.now c.args.costs.now 0 v) (sym (passed c.first_of.result c.first_of.type_inv ∙ c.first_of.ensures))
    (c.pass.ensures.least 0 c.args.graph.now.rooted)
