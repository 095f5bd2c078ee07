use Rattle.std.proofs.Common.{◌≡◌, ◌<◌, ℕ, length}
use Rattle.knapsack_table.specs.Tables.{cell_at, row_from}
use Rattle.knapsack_table.proofs.TableLaws.{IsJoining}
use Rattle.knapsack_table.proofs.short.add_unit.Given as goal

abbrev pub invariant-loop-weight : goal.invariant-loop-weight
invariant-loop-weight l = record {
  len : length l.cells ≡ length l.initial.cells;
  joining : IsJoining l.shift l.top l.weight l.gain (row_from l.fn.cells l.start) (row_from l.cells l.next);
  below : (k : ℕ) → k < l.next → cell_at l.cells k ≡ cell_at l.fn.cells k;
}
