use Rattle.std.proofs.Common.{◌≡◌, length, vec_len}
use Rattle.state_graph.specs.Windows.{IsJoined}
use Rattle.state_graph.proofs.twins.join_all.Given as goal

abbrev pub invariant-loop-row : goal.invariant-loop-row
invariant-loop-row l = record {
  room : vec_len l.windows ≡ length l.twins;
  joined : IsJoined l.twins l.initial.windows.items l.windows.items;
}
