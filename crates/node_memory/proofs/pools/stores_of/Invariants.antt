use Rattle.std.proofs.Common.{All}
use Rattle.col_pool.specs.Stores.{IsStoreOf}
use Rattle.node_memory.proofs.pools.stores_of.Given as goal

abbrev pub invariant-loop-class : goal.invariant-loop-class
invariant-loop-class l = All (IsStoreOf l.b) l.stores.items
