use Rattle.std.proofs.Common.{◌≡◌, ◌+◌, ◌-◌, ◌*◌, ◌<◌, ◌≤◌, ℕ, List, get_or, pos, length, vec_len}
use Rattle.bp_theory.specs.Program.{span_at}
use Rattle.knapsack_table.specs.Loads.{number_of}
use Rattle.knapsack_table.specs.Tables.{row_at}
use Rattle.knapsack_table.proofs.TraceLaws.{IsTraced}
use Rattle.knapsack_table.proofs.trace.trace.Given as goal

abbrev pub invariant-loop-k : goal.invariant-loop-k
invariant-loop-k l = record {
  many : vec_len l.point ≡ length l.knapsack.zone.now;
  here : l.here ≡ (length l.knapsack.zone.now - l.k) * (l.top + 1);
  below : l.left ≤ l.weight;
  way : (us : List ℕ) × IsTraced l.knapsack.items.now (row_at l.cells l.top) l.weight l.k l.left us
      × ((i : ℕ) → i < l.k → get_or l.point.items i (pos 0) ≡ number_of (get_or l.knapsack.coefs.now i (pos 0)) (span_at l.knapsack.zone.now i) (get_or l.knapsack.costs.now i (pos 0)) (get_or us i 0));
}
