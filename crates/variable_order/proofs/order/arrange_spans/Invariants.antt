use Rattle.std.proofs.Common.{◌≡◌, ◌<◌, ℕ, vec_len}
use Rattle.bp_theory.specs.Program.{span_at}
use Rattle.variable_order.specs.Orders.{number_at}
use Rattle.variable_order.proofs.order.arrange_spans.Given as goal

abbrev pub invariant-loop-place : goal.invariant-loop-place
invariant-loop-place l = record {
  room : vec_len l.arranged ≡ vec_len l.vars;
  spans_are : (k : ℕ) → k < l.place → span_at l.arranged.items k ≡ span_at l.spans (number_at l.vars.items k);
}
