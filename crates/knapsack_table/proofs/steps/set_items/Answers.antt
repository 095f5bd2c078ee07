use Rattle.std.proofs.Common.{◌≡◌, ◌∙◌, sym, ap, pos, length, get_or, arith}
use Rattle.bp_theory.specs.Program.{span_at}
use Rattle.knapsack_table.specs.Loads.{number_of, none_of}
use Rattle.knapsack_table.proofs.StepLaws.{cost-le, items_from_places, point_from_places, length-none_of, get_or-none_of}
use Rattle.knapsack_table.proofs.steps.set_items.Goals as goal

pub make_item-requires-clause-small : goal.make_item-requires-clause-small
make_item-requires-clause-small c = omega (arith, c.requires.small, cost-le c.args.zone.now c.args.costs.now c.loop-k.k c.loop-k-test.true)

pub returns-clause-items : goal.returns-clause-items
returns-clause-items c =
    items_from_places c.loop-k.items.items c.args.coefs.now c.args.zone.now c.args.costs.now c.requires.coefs c.requires.costs
    (omega (arith, c.loop-k.invariant.many_items, c.loop-k.items.ok.0))
    (λ k d l. c.loop-k.invariant.items k d (omega (arith, l, c.loop-k-test.false)))

pub returns-clause-point : goal.returns-clause-point
returns-clause-point c =
    point_from_places c.loop-k.point.items c.args.coefs.now c.args.zone.now c.args.costs.now (none_of c.args.coefs.now) c.requires.coefs c.requires.costs
    (length-none_of c.args.coefs.now ∙ c.requires.coefs)
    (omega (arith, c.loop-k.invariant.many, c.loop-k.point.ok.0))
    (λ k l. c.loop-k.invariant.point k (omega (arith, l, c.loop-k-test.false))
    ∙ ap (number_of (get_or c.args.coefs.now k (pos 0)) (span_at c.args.zone.now k) (get_or c.args.costs.now k (pos 0))) (sym (get_or-none_of c.args.coefs.now k)))
