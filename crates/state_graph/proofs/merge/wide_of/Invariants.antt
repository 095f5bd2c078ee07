use Rattle.std.proofs.Common.{◌<◌, ℕ, [], get_or}
use Rattle.layer_graph.specs.Graphs.{IsStepSafe}
use Rattle.state_graph.proofs.merge.wide_of.Given as goal

abbrev pub invariant-loop-arcs : goal.invariant-loop-arcs
invariant-loop-arcs l = record {
  rooted : 0 < l.wide;
  safe : (k : ℕ) → k < l.arcs-index → IsStepSafe l.wide (get_or l.steps.items k []);
}
