use Rattle.std.proofs.Common.{◌∙◌, sym, subst, List, length, arith}
use Rattle.bp_theory.specs.declared.Span.{Span}
use Rattle.bp_theory.specs.declared.Row.{Row}
use Rattle.pricing_problem.specs.Form.{IsForm}
use Rattle.variable_order.specs.Orders.{rows_by}
use Rattle.variable_order.proofs.OrderLaws.{form_by}
use Rattle.state_price.proofs.pricer.graph_by.Goals as goal

pub build-requires : goal.build-requires
build-requires c =
    subst (λ (rows : List Row). IsForm rows c.as_slice-2.result.now) (sym (c.as_slice.ensures.value ∙ c.in_ok-renamed.ensures))
    (subst (λ (spans : List Span). IsForm (rows_by c.args.order.now.places.items c.args.rows.now) spans) (sym (c.as_slice-2.ensures.value ∙ c.arrange_spans.ensures))
    (form_by (length c.args.order.now.vars.items) c.args.order.now.vars.items c.args.order.now.places.items c.args.rows.now c.args.spans.now c.args.order.now.order
    (omega (arith, c.requires.order, c.args.order.now.vars.ok.0)) c.requires.form))
