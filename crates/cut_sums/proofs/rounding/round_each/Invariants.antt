use Rattle.std.proofs.Common.{◌≡◌, take, map}
use Rattle.cut_sums.specs.Rounding.{round_entry}
use Rattle.cut_sums.proofs.rounding.round_each.Given as goal

abbrev pub invariant-loop-sum : goal.invariant-loop-sum
invariant-loop-sum l = l.all.items ≡ map (round_entry l.q) (take l.sum-index l.sums)
