use Rattle.std.proofs.Common.{take}
use Rattle.std.specs.Ordering.{nat_cmp}
use Rattle.std.specs.BTreeMap.{get, IsOrdered}
use Rattle.col_pool.proofs.PoolLemmas.{HasScaled}
use Rattle.col_pool.proofs.activities.add_scaled.Given as goal

abbrev pub invariant-loop-coef : goal.invariant-loop-coef
invariant-loop-coef l = record {
  sums : HasScaled (get nat_cmp l.initial.sums) (get nat_cmp l.sums) (take l.coef-index l.coefs) l.number;
  ordered : IsOrdered nat_cmp l.sums;
}
