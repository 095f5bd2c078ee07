use Rattle.std.proofs.Common.{◌≤◌, ◌<◌, ℕ}
use Rattle.std.specs.Prelude.{All}
use Rattle.layer_graph.specs.Graphs.{arc_at, IsArcSafe}
use Rattle.shortest_path.proofs.pairs.ends_of.Given as goal

abbrev pub invariant-loop-arc : goal.invariant-loop-arc
invariant-loop-arc l = record {
  some : 0 < l.end;
  above : (j : ℕ) → j < l.arc-index → (arc_at l.arcs j).to < l.end;
  most : (n : ℕ) → 0 < n → All (IsArcSafe n) l.arcs → l.end ≤ n;
}
