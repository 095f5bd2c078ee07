use Rattle.std.proofs.Common.{◌≡◌, ◌<◌, ℕ, length}
use Rattle.knapsack_table.specs.Tables.{cell_at, row_from}
use Rattle.knapsack_table.proofs.TableLaws.{IsRelaxing}
use Rattle.knapsack_table.proofs.table.add_part.Given as goal

abbrev pub invariant-loop-weight : goal.invariant-loop-weight
invariant-loop-weight l = record {
  len : length l.cells ≡ length l.initial.cells;
  relaxing : IsRelaxing l.shift l.top l.weight l.gain (row_from l.initial.cells l.start) (row_from l.cells l.start);
  below : (k : ℕ) → k < l.start → cell_at l.cells k ≡ cell_at l.initial.cells k;
}
