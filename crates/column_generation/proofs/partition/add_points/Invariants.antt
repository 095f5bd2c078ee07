use Rattle.node_memory.specs.Pools.{AreMadeFor}
use Rattle.column_generation.proofs.partition.add_points.Given as goal

abbrev pub invariant-loop-point : goal.invariant-loop-point
invariant-loop-point l = AreMadeFor l.b l.pools
