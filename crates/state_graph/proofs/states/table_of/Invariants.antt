use Rattle.std.proofs.Common.{◌<◌, vec_len}
use Rattle.state_graph.proofs.states.table_of.Given as goal

abbrev pub invariant-loop-k : goal.invariant-loop-k
invariant-loop-k l = 0 < vec_len l.places
