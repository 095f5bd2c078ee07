use Rattle.std.proofs.Common.{◌≡◌, ◌<◌, ℕ}
use Rattle.shortest_path.specs.Best.{cell_at}
use Rattle.shortest_path.specs.Short.{far, AreCells}
use Rattle.shortest_path.proofs.short.clear.Given as goal

abbrev pub invariant-loop-node : goal.invariant-loop-node
invariant-loop-node l = record {
  cells : AreCells l.nodes l.cells.items;
  none : (k : ℕ) → k < l.node → cell_at l.cells.items k ≡ far;
}
