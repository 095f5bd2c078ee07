use Rattle.std.proofs.Common.{◌≡◌, ◌+◌, ◌*◌, drop, length}
use Rattle.knapsack_table.specs.Tables.{short_far, row_at, AreRows}
use Rattle.knapsack_table.proofs.short.fill_rows.Given as goal

abbrev pub invariant-loop-k : goal.invariant-loop-k
invariant-loop-k l = record {
  len : length l.cells ≡ length l.initial.cells;
  start : l.start ≡ length (drop l.k l.items) * (l.top + 1);
  rows : AreRows short_far (drop l.k l.items) l.top (row_at l.cells l.top);
}
