use Rattle.node_memory.specs.Pools.{AreMadeFor}
use Rattle.column_generation.proofs.generation.add_priced.Given as goal

abbrev pub invariant-loop-class : goal.invariant-loop-class
invariant-loop-class l = AreMadeFor l.b l.pools
