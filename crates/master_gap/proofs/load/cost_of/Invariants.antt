use Rattle.std.proofs.Common.{◌≡◌, take}
use Rattle.std.specs.Prelude.{zip}
use Rattle.std.specs.Int.{w128, int_wrap}
use Rattle.search_laws.specs.Master.{weighted_cost}
use Rattle.master_gap.proofs.load.cost_of.Given as goal

abbrev pub invariant-loop-j : goal.invariant-loop-j
invariant-loop-j l = l.sum ≡ int_wrap w128 (weighted_cost (take l.j (zip l.cols l.weights)))
