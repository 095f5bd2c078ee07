use Rattle.std.proofs.Common.{◌≡◌, ◌<◌, ℕ, vec_len}
use Rattle.bp_theory.specs.Program.{value_at}
use Rattle.variable_order.specs.Orders.{number_at}
use Rattle.variable_order.proofs.order.arrange_costs.Given as goal

abbrev pub invariant-loop-place : goal.invariant-loop-place
invariant-loop-place l = record {
  room : vec_len l.arranged ≡ vec_len l.vars;
  costs_are : (k : ℕ) → k < l.place → value_at l.arranged.items k ≡ value_at l.costs (number_at l.vars.items k);
}
