use Rattle.std.proofs.Common.{◌≡◌, take}
use Rattle.col_pool.proofs.activities.narrowed.Given as goal

abbrev pub invariant-loop-sum : goal.invariant-loop-sum
invariant-loop-sum l = l.acts ≡ take l.sum-index l.sums
