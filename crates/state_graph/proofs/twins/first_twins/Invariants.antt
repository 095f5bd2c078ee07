use Rattle.std.proofs.Common.{◌≡◌, ◌<◌, ℕ, vec_len}
use Rattle.state_graph.specs.Windows.{twin_at}
use Rattle.state_graph.proofs.twins.first_twins.Given as goal

abbrev pub invariant-loop : goal.invariant-loop
invariant-loop l = record {
  each : vec_len l.twins ≡ l.counter;
  firsts : (row : ℕ) → row < l.counter → twin_at l.twins.items row ≡ 0;
}
