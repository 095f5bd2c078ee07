use Rattle.std.proofs.Common.{◌≡◌, ◌*◌, ◌≤◌, ◌^◌, length, vec_len}
use Rattle.bp_theory.specs.Classes.{width}
use Rattle.state_graph.specs.Expansions.{IsBuilt}
use Rattle.state_graph.proofs.expand.expand.Given as goal

abbrev pub invariant-loop-from : goal.invariant-loop-from
invariant-loop-from l = record {
  room : vec_len l.moved ≡ length l.layer.column;
  arcs : length l.frontier.arcs ≤ l.room;
  states : vec_len l.frontier.states.list ≤ 2 ^ 20;
  many : length l.frontier.arcs ≤ l.from * width l.layer.span;
  fewer : vec_len l.frontier.states.list ≤ length l.frontier.arcs;
  built : IsBuilt l.layer l.states.items l.from l.layer.span.lo l.frontier.states.list.items l.frontier.arcs;
}
