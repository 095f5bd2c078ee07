use Rattle.std.proofs.Common.{◌∙◌, ap}
use Rattle.std.specs.Int.{int_min}
use Rattle.pricing_problem.proofs.Passed.{passed_short}
use Rattle.shortest_path.specs.Short.{shut}
use Rattle.shortest_path.proofs.PairPassLaws.{cost_cut}
use Rattle.shortest_path.proofs.short_pairs.cost_of.Goals as goal

pub returns : goal.returns
returns c =
    cost_cut c.args.label.now c.args.span.now c.args.cost.now c.own_of-own.result _ c.requires c.own_of-own.ensures
    (passed_short c.lesser.result c.lesser.type_inv ∙ c.lesser.ensures ∙ ap (λ z. int_min z shut) (passed_short c.own_of-own.result c.own_of-own.type_inv))
