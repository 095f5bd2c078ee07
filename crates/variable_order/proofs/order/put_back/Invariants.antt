use Rattle.std.proofs.Common.{◌≡◌, ◌<◌, ℕ, vec_len}
use Rattle.bp_theory.specs.Program.{value_at}
use Rattle.variable_order.specs.Orders.{number_at}
use Rattle.variable_order.proofs.order.put_back.Given as goal

abbrev pub invariant-loop-var : goal.invariant-loop-var
invariant-loop-var l = record {
  room : vec_len l.point ≡ vec_len l.places;
  numbers_are : (v : ℕ) → v < l.var → value_at l.point.items v ≡ value_at l.numbers (number_at l.places.items v);
}
