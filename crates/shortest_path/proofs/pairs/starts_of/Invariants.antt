use Rattle.std.proofs.Common.{◌≤◌, ◌<◌, ℕ}
use Rattle.std.specs.Prelude.{All}
use Rattle.layer_graph.specs.Graphs.{arc_at, IsArcSafe}
use Rattle.shortest_path.proofs.pairs.starts_of.Given as goal

abbrev pub invariant-loop-arc : goal.invariant-loop-arc
invariant-loop-arc l = record {
  least : l.fn.least ≤ l.end;
  above : (j : ℕ) → j < l.arc-index → (arc_at l.arcs j).from < l.end;
  most : (n : ℕ) → l.fn.least ≤ n → All (IsArcSafe n) l.arcs → l.end ≤ n;
}
