use Rattle.std.proofs.Common.{◌≡◌, take}
use Rattle.bp_theory.specs.Bound.{box_least}
use Rattle.knapsack_table.proofs.steps.least_sum.Given as goal

abbrev pub invariant-loop-k : goal.invariant-loop-k
invariant-loop-k l = l.sum ≡ box_least (take l.k l.spans) l.coefs
