use Rattle.std.proofs.Common.{◌≡◌, ◌+◌, ◌≤◌, ◌^◌, List, length, vec_len, pos, ◌+ℤ◌}
use Rattle.bp_theory.specs.declared.Span.{Span}
use Rattle.state_graph.specs.Expansions.{IsStateOf, IsBuilt}
use Rattle.state_graph.proofs.expand.expand_state.Given as goal

abbrev pub invariant-loop-step : goal.invariant-loop-step
invariant-loop-step l = record {
  room : vec_len l.moved ≡ length l.state;
  arcs : length l.frontier.arcs ≤ l.room;
  states : vec_len l.frontier.states.list ≤ 2 ^ 20;
  many : length l.frontier.arcs ≤ length l.initial.frontier.arcs + l.step;
  fewer : vec_len l.initial.frontier.states.list ≤ length l.initial.frontier.arcs → vec_len l.frontier.states.list ≤ length l.frontier.arcs;
  built : (states : List (List Span)) → IsStateOf states l.from l.state
      → IsBuilt l.layer states l.from l.layer.span.lo l.initial.frontier.states.list.items l.initial.frontier.arcs
      → IsBuilt l.layer states l.from (l.layer.span.lo +ℤ pos l.step) l.frontier.states.list.items l.frontier.arcs;
}
