use Rattle.std.proofs.Common.{◌≡◌, ◌<◌, ℕ, pos}
use Rattle.shortest_path.specs.Best.{cell_at}
use Rattle.shortest_path.specs.Short.{widened, AreCells}
use Rattle.shortest_path.proofs.short.zero.Given as goal

abbrev pub invariant-loop-node : goal.invariant-loop-node
invariant-loop-node l = record {
  cells : AreCells l.nodes l.cells.items;
  zeros : (k : ℕ) → k < l.node → cell_at (widened l.cells.items) k ≡ pos 0;
}
