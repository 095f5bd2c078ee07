use Rattle.std.proofs.Common.{◌+◌, ◌<◌, ℕ}
use Rattle.layer_graph.specs.Graphs.{arc_at}
use Rattle.state_graph.specs.Merges.{IsAlike}
use Rattle.state_graph.proofs.fans.is_like.Given as goal

abbrev pub invariant-loop-step : goal.invariant-loop-step
invariant-loop-step l = (k : ℕ) → k < l.step → IsAlike (arc_at l.arcs (l.start + k)) (arc_at l.arcs (l.fan.first + k))
