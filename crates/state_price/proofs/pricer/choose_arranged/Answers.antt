use Rattle.std.proofs.Common.{◌≡◌, ◌∙◌, sym, ap, subst, List, length, arith}
use Rattle.std.proofs.Math.IntN.{ℤ}
use Rattle.std.specs.Bool.{OnTrue}
use Rattle.bp_theory.specs.Program.{IsInside}
use Rattle.bp_theory.specs.Bound.{IsPoint}
use Rattle.bp_theory.specs.declared.Span.{Span}
use Rattle.variable_order.specs.Orders.{spans_by, numbers_by}
use Rattle.variable_order.specs.declared.order.Order.{Order}
use Rattle.state_price.proofs.WayLaws.{way_back}
use Rattle.state_price.proofs.pricer.choose_arranged.Goals as goal

pub returns-clause-point : goal.returns-clause-point
returns-clause-point c = λ rows spans g.
    let order : Order = c.args.arranged.now.order in
    let zone : c.as_slice.result.now ≡ spans_by order.vars.items c.args.zone.now = c.as_slice.ensures.value ∙ c.set_costs.ensures.zone ∙ c.set_zone.ensures.zone in
    let many : length c.args.zone.now ≡ length order.vars.items = omega (arith, c.requires.zone, c.requires.steps, order.vars.ok.0) in
    let point : c.set_point.new.self.point.items ≡ numbers_by order.places.items c.write_way-is_way.new.point.items =
    c.set_point.ensures.point ∙ ap (λ (o : Order). numbers_by o.places.items c.as_slice-3.result.now) (c.set_costs.ensures.order ∙ c.set_zone.ensures.order)
    ∙ ap (λ (ys : List ℤ). numbers_by order.places.items ys) c.as_slice-3.ensures.value in
    subst (λ (x : List ℤ). OnTrue c.write_way-is_way.result (IsPoint rows c.args.zone.now x)) (sym point)
    (way_back c.write_way-is_way.result c.args.graph.now.steps.items (length order.vars.items) order.vars.items order.places.items rows spans c.args.zone.now
    c.write_way-is_way.new.point.items order.order many g c.write_way-is_way.ensures.way
    (subst (λ (ss : List Span). OnTrue c.write_way-is_way.result (IsInside ss c.write_way-is_way.new.point.items)) zone c.write_way-is_way.ensures.inside))
