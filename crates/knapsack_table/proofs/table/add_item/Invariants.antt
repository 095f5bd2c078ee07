use Rattle.std.proofs.Common.{◌≡◌, ◌+◌, ◌<◌, ℕ, length, sum}
use Rattle.knapsack_table.specs.Parts.{AreGrowing}
use Rattle.knapsack_table.specs.Tables.{cell_at, row_from, IsTried}
use Rattle.knapsack_table.proofs.table.add_item.Given as goal

abbrev pub invariant-loop-units : goal.invariant-loop-units
invariant-loop-units l = record {
  len : length l.cells ≡ length l.initial.cells;
  within : sum l.yielded + sum l.units-iterator ≡ l.item.width;
  growing : AreGrowing (sum l.yielded) l.units-iterator;
  tried : IsTried l.item (sum l.yielded) l.top (row_from l.fn.cells l.start) (row_from l.cells l.next);
  below : (k : ℕ) → k < l.next → cell_at l.cells k ≡ cell_at l.fn.cells k;
}
