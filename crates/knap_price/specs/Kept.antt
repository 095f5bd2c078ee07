-- What plans and pricers keep.
use Rattle.std.specs.Prelude.{List, ℤ}
use Rattle.bp_theory.specs.declared.Span.{Span}
use Rattle.bp_theory.specs.declared.Row.{Row}
use Rattle.knap_price.specs.declared.pricer.KnapPlan.{KnapPlan}
use Rattle.knap_price.specs.declared.pricer.KnapPricer.{KnapPricer}

-- the rows that a plan's points meet
abbrev pub plan_rows : KnapPlan → List Row
plan_rows plan = plan.form.rows.items

-- its root spans
abbrev pub plan_spans : KnapPlan → List Span
plan_spans plan = plan.form.spans.items

-- the point that it keeps
abbrev pub plan_point : KnapPlan → List ℤ
plan_point plan = plan.table.point.items

-- the rows that a pricer's points meet
abbrev pub rows_of : KnapPricer → List Row
rows_of pricer = plan_rows pricer.plan

-- the root spans
abbrev pub spans_of : KnapPricer → List Span
spans_of pricer = plan_spans pricer.plan

-- the point that it keeps
abbrev pub kept_point : KnapPricer → List ℤ
kept_point pricer = plan_point pricer.plan
