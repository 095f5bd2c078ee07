use Rattle.node_memory.specs.Pools.{AreMadeFor}
use Rattle.node_memory.proofs.pools.Pools.add_all_priced.Given as goal

abbrev pub invariant-loop-class : goal.invariant-loop-class
invariant-loop-class l = AreMadeFor l.b l.self
