use Rattle.std.proofs.Common.{◌≡◌, drop}
use Rattle.knapsack_table.specs.Tables.{worth_size}
use Rattle.knapsack_table.proofs.short.size_of.Given as goal

abbrev pub invariant-loop-k : goal.invariant-loop-k
invariant-loop-k l = l.sum ≡ worth_size (drop l.k l.items)
