use Rattle.col_pool.specs.Pools.{IsPoolOf}
use Rattle.test_scripts.proofs.calls.pools.is_filled.Given as goal

abbrev pub invariant-loop-number : goal.invariant-loop-number
invariant-loop-number l = IsPoolOf l.block l.pool
