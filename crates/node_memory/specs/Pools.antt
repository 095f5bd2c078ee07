-- What a search keeps from leaf to leaf, and which program it is made for.
use Rattle.std.specs.Prelude.{◌≡◌, All}
use Rattle.block_program.specs.Blocked.{BlockedProgram}
use Rattle.block_pricers.specs.Forms.{forms_in}
use Rattle.block_pricers.specs.Works.{forms_of}
use Rattle.col_pool.specs.Stores.{IsStoreOf}
use Rattle.node_memory.specs.declared.pools.Pools.{Pools}

-- the pricers are those of a program's blocks, and each column of each pool is a point of its block
pub record AreMadeFor (b : BlockedProgram) (p : Pools) : Type 0 where
  pub pricers : forms_of p.budget.work ≡ forms_in b
  pub stores : All (IsStoreOf b) p.stores.items
