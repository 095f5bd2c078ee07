use Rattle.std.proofs.Common.{◌≡◌, ◌<◌, ℕ, pos, vec_len}
use Rattle.bp_theory.specs.Program.{span_at}
use Rattle.state_graph.proofs.columns.zero_hulls.Given as goal

abbrev pub invariant-loop : goal.invariant-loop
invariant-loop l = record {
  each : vec_len l.hulls ≡ l.counter;
  zeros : (row : ℕ) → row < l.counter → span_at l.hulls.items row ≡ record { lo = pos 0; hi = pos 0 };
}
