use Rattle.std.proofs.Common.{◌≡◌, ◌<◌, ◌≤◌, ◌+◌, ◌-◌, ◌*◌, ◌^◌, List, [], ◌∷◌, ◌++◌, drop, length, vec_len}
use Rattle.std.specs.Prelude.{All}
use Rattle.bp_theory.specs.Classes.{prefixes}
use Rattle.state_graph.specs.Layers.{spans_in}
use Rattle.state_graph.specs.Limits.{beginnings}
use Rattle.layer_graph.specs.Graphs.{IsSafe, AreOrdered}
use Rattle.state_graph.specs.Expansions.{HaveRows, IsRight, AreRight, IsEndState}
use Rattle.layer_graph.specs.declared.graph.Arc.{Arc}
use Rattle.state_graph.proofs.graph.graph_of.Given as goal

abbrev pub invariant-loop-layer : goal.invariant-loop-layer
invariant-loop-layer l = record {
  many : vec_len l.steps ≡ l.layer-index;
  rows : HaveRows (length l.fn.root) l.states.items;
  few : vec_len l.states ≤ 2 ^ 20;
  fits : vec_len l.states ≤ l.wide;
  rooted : 0 < l.wide;
  narrow : l.wide ≤ 2 ^ 20;
  room : l.room ≤ 2 ^ 18;
  safe : IsSafe l.wide l.steps.items;
  most : l.room ≤ l.whole;
  begun : (l.whole - l.room) + vec_len l.states * beginnings (spans_in (drop l.layer-index l.layers)) ≤ beginnings (spans_in l.layers);
  thin : l.wide ≤ prefixes (spans_in l.layers);
  ordered : All AreOrdered l.steps.items;
  first : l.layer-index ≡ 0 → l.states.items ≡ l.fn.root ∷ [];
  ends : 0 < l.layer-index → length l.layers ≤ l.layer-index → All IsEndState l.states.items;
  right : (rest : List (List Arc)) → AreRight (drop l.layer-index l.layers) l.states.items rest → IsRight l.layers l.fn.root (l.steps.items ++ rest) 0;
}
