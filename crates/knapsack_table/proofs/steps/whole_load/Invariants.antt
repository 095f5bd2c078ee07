use Rattle.std.proofs.Common.{◌≡◌, drop}
use Rattle.knapsack_table.specs.Tables.{full_load}
use Rattle.knapsack_table.proofs.steps.whole_load.Given as goal

abbrev pub invariant-loop-k : goal.invariant-loop-k
invariant-loop-k l = l.sum ≡ full_load (drop l.k l.items)
