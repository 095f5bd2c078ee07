use Rattle.std.proofs.Common.{◌≡◌, ◌<◌, ℕ, length, vec_len}
use Rattle.std.specs.Prelude.{All}
use Rattle.variable_order.specs.Orders.{number_at}
use Rattle.variable_order.proofs.order.places_of.Given as goal

abbrev pub invariant-loop-place : goal.invariant-loop-place
invariant-loop-place l = record {
  each : vec_len l.places ≡ length l.vars.items;
  placed : All (λ k. k < length l.vars.items) l.places.items;
  back : (j : ℕ) → j < l.place → number_at l.places.items (number_at l.vars.items j) ≡ j;
}
