use Rattle.std.proofs.Common.{◌≡◌, drop, vec_len, length}
use Rattle.bp_theory.specs.Program.{IsInside}
use Rattle.layer_graph.specs.Graphs.{IsWay}
use Rattle.shortest_path.proofs.beside.write_way.Given as goal

abbrev pub invariant-loop-k : goal.invariant-loop-k
invariant-loop-k l = record {
  many : vec_len l.point ≡ length l.zone;
  way : IsWay (drop l.k l.graph.steps.items) l.node (drop l.k l.point.items);
  inside : IsInside (drop l.k l.zone) (drop l.k l.point.items);
}
