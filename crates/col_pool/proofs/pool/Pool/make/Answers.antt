-- The sums of a block of the program are small, and nothing is pooled yet.
use Rattle.std.proofs.Common.{arith}
use Rattle.col_pool.proofs.SmallLemmas.{root_small}
use Rattle.col_pool.proofs.pool.Pool.make.Goals as goal

pub returns-clause-pool : goal.returns-clause-pool
returns-clause-pool c = record { small = root_small c.args.b.now c.args.block c.blocks-2.ensures.formed c.requires; each = λ k d l. absurd (omega (arith, l)) }
