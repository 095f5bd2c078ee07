use Rattle.std.proofs.Common.{◌≡◌, take}
use Rattle.knapsack_table.specs.Taken.{row_reach}
use Rattle.knapsack_table.proofs.coefs.reach_of.Given as goal

abbrev pub invariant-loop-term : goal.invariant-loop-term
invariant-loop-term l = l.sum ≡ row_reach l.spans (take l.term-index l.terms)
