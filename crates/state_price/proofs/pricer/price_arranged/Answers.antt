use Rattle.std.proofs.Common.{◌≡◌, ◌∙◌, sym, ap, subst, ◌≤◌, ◌^◌, List, length, arith}
use Rattle.std.proofs.Math.IntN.{ℤ}
use Rattle.std.specs.Prelude.{MatchOption}
use Rattle.bp_theory.specs.declared.Span.{Span}
use Rattle.pricing_problem.specs.Form.{cost_size, IsPriceable}
use Rattle.pricing_problem.specs.Priced.{IsCheapest, HasNoPoint}
use Rattle.variable_order.specs.Orders.{rows_by, spans_by, numbers_by}
use Rattle.variable_order.specs.declared.order.Order.{Order}
use Rattle.variable_order.proofs.OrderLaws.{size_by, priceable_by, answer_back}
use Rattle.state_price.proofs.pricer.price_arranged.Goals as goal

pub price_zone-least-requires-clause-sizes : goal.price_zone-least-requires-clause-sizes
price_zone-least-requires-clause-sizes c =
    let order : Order = c.args.arranged.now.order in
    let zone : c.as_slice.result.now ≡ spans_by order.vars.items c.args.zone.now = c.as_slice.ensures.value ∙ c.set_costs.ensures.zone ∙ c.set_zone.ensures.zone in
    let costs : c.as_slice-2.result.now ≡ numbers_by order.vars.items c.args.costs.now =
    c.as_slice-2.ensures.value ∙ c.set_costs.ensures.costs ∙ ap (λ (o : Order). numbers_by o.vars.items c.args.costs.now) c.set_zone.ensures.order in
    subst (λ (ss : List Span). cost_size ss c.as_slice-2.result.now ≤ 2 ^ 123) (sym zone)
    (subst (λ (rs : List ℤ). cost_size (spans_by order.vars.items c.args.zone.now) rs ≤ 2 ^ 123) (sym costs)
    (subst (λ n. n ≤ 2 ^ 123)
    (sym (size_by (length order.vars.items) order.vars.items order.places.items c.args.zone.now c.args.costs.now order.order
    (omega (arith, c.requires.zone, c.requires.steps, order.vars.ok.0)) (omega (arith, c.requires.costs, c.requires.steps, order.vars.ok.0)))) c.requires.sizes))

pub returns-clause-answer : goal.returns-clause-answer
returns-clause-answer c = λ rows spans g paired p.
    let order : Order = c.args.arranged.now.order in
    let zone : c.as_slice.result.now ≡ spans_by order.vars.items c.args.zone.now = c.as_slice.ensures.value ∙ c.set_costs.ensures.zone ∙ c.set_zone.ensures.zone in
    let costs : c.as_slice-2.result.now ≡ numbers_by order.vars.items c.args.costs.now =
    c.as_slice-2.ensures.value ∙ c.set_costs.ensures.costs ∙ ap (λ (o : Order). numbers_by o.vars.items c.args.costs.now) c.set_zone.ensures.order in
    let many : length c.args.zone.now ≡ length order.vars.items = omega (arith, c.requires.zone, c.requires.steps, order.vars.ok.0) in
    let too : length c.args.costs.now ≡ length order.vars.items = omega (arith, c.requires.costs, c.requires.steps, order.vars.ok.0) in
    let can : IsPriceable (spans_by order.vars.items spans) (spans_by order.vars.items c.args.zone.now) (numbers_by order.vars.items c.args.costs.now) =
    priceable_by (length order.vars.items) order.vars.items order.places.items spans c.args.zone.now c.args.costs.now order.order many p in
    let found : MatchOption c.price_zone-least.result (HasNoPoint (rows_by order.places.items rows) c.as_slice.result.now)
    (λ v. IsCheapest (rows_by order.places.items rows) c.as_slice.result.now c.as_slice-2.result.now c.price_zone-least.new.work.point.items v) =
    c.price_zone-least.ensures.answer (rows_by order.places.items rows) (spans_by order.vars.items spans) g paired
    (subst (λ (ss : List Span). IsPriceable (spans_by order.vars.items spans) ss c.as_slice-2.result.now) (sym zone)
    (subst (λ (rs : List ℤ). IsPriceable (spans_by order.vars.items spans) (spans_by order.vars.items c.args.zone.now) rs) (sym costs) can)) in
    let point : c.set_point.new.self.point.items ≡ numbers_by order.places.items c.price_zone-least.new.work.point.items =
    c.set_point.ensures.point ∙ ap (λ (o : Order). numbers_by o.places.items c.as_slice-3.result.now) (c.set_costs.ensures.order ∙ c.set_zone.ensures.order)
    ∙ ap (λ (ys : List ℤ). numbers_by order.places.items ys) c.as_slice-3.ensures.value in
    subst (λ (x : List ℤ). MatchOption c.price_zone-least.result (HasNoPoint rows c.args.zone.now) (λ v. IsCheapest rows c.args.zone.now c.args.costs.now x v)) (sym point)
    (answer_back (length order.vars.items) order.vars.items order.places.items rows c.args.zone.now c.args.costs.now c.price_zone-least.new.work.point.items c.price_zone-least.result order.order many too
    (subst (λ (rs : List ℤ). MatchOption c.price_zone-least.result (HasNoPoint (rows_by order.places.items rows) (spans_by order.vars.items c.args.zone.now))
    (λ v. IsCheapest (rows_by order.places.items rows) (spans_by order.vars.items c.args.zone.now) rs c.price_zone-least.new.work.point.items v)) costs
    (subst (λ (ss : List Span). MatchOption c.price_zone-least.result (HasNoPoint (rows_by order.places.items rows) ss)
    (λ v. IsCheapest (rows_by order.places.items rows) ss c.as_slice-2.result.now c.price_zone-least.new.work.point.items v)) zone found)))
