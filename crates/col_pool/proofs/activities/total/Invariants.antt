use Rattle.std.proofs.Common.{◌≡◌, take}
use Rattle.std.specs.Int.{w128, int_wrap}
use Rattle.bp_theory.specs.Sums.{dot}
use Rattle.col_pool.proofs.activities.total.Given as goal

abbrev pub invariant-loop-place : goal.invariant-loop-place
invariant-loop-place l = l.sum ≡ int_wrap w128 (dot (take l.place l.costs) l.point)
