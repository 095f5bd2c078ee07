use Rattle.std.proofs.Common.{◌≡◌, take}
use Rattle.bp_theory.specs.Sums.{dot}
use Rattle.knapsack_table.proofs.steps.product_sum.Given as goal

abbrev pub invariant-loop-k : goal.invariant-loop-k
invariant-loop-k l = l.sum ≡ dot (take l.k l.factors) l.numbers
