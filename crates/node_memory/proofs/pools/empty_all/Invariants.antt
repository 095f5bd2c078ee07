use Rattle.std.proofs.Common.{All}
use Rattle.col_pool.specs.Stores.{IsStoreOf}
use Rattle.node_memory.proofs.pools.empty_all.Given as goal

abbrev pub invariant-loop-place : goal.invariant-loop-place
invariant-loop-place l = All (IsStoreOf l.b) l.stores.items
