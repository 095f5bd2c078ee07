use Rattle.std.proofs.Common.{◌≡◌, ◌<◌, ℕ, get_or, pos, length, vec_len}
use Rattle.std.proofs.Math.IntN.{ℤ}
use Rattle.bp_theory.specs.Program.{span_at}
use Rattle.knapsack_table.specs.Loads.{item_of, number_of}
use Rattle.knapsack_table.specs.declared.items.Item.{Item}
use Rattle.knapsack_table.proofs.steps.set_items.Given as goal

abbrev pub invariant-loop-k : goal.invariant-loop-k
invariant-loop-k l = record {
  many_items : vec_len l.items ≡ length l.zone;
  many : vec_len l.point ≡ length l.zone;
  items : (i : ℕ) (d : Item) → i < l.k → get_or l.items.items i d ≡ item_of (get_or l.coefs i (pos 0)) (span_at l.zone i) (get_or l.costs i (pos 0));
  point : (i : ℕ) → i < l.k → get_or l.point.items i (pos 0) ≡ number_of (get_or l.coefs i (pos 0)) (span_at l.zone i) (get_or l.costs i (pos 0)) 0;
}
