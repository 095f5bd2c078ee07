use Rattle.std.proofs.Common.{◌<◌, ℕ}
use Rattle.knapsack_table.specs.Tables.{row_from, Follows}
use Rattle.knapsack_table.proofs.trace.units_at.Given as goal

abbrev pub invariant-loop-units : goal.invariant-loop-units
invariant-loop-units l = (u : ℕ) → u < l.units → Follows l.item (row_from l.cells l.above) l.weight (row_from l.cells l.here l.weight) u → ⊥
