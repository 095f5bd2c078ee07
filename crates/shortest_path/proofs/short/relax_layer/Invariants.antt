use Rattle.std.proofs.Common.{◌≡◌, ◌<◌, ℕ, length}
use Rattle.shortest_path.specs.Best.{cell_at, pick_at, IsBest}
use Rattle.shortest_path.specs.Short.{widened, AreCells}
use Rattle.shortest_path.proofs.short.relax_layer.Given as goal

abbrev pub invariant-loop-place : goal.invariant-loop-place
invariant-loop-place l = record {
  cells : AreCells (length l.initial.picks) l.now.items;
  picks : length l.picks ≡ length l.initial.picks;
  best : (node : ℕ) → node < length l.initial.picks → IsBest l.arcs (widened l.next.items) l.span l.cost l.place node (cell_at (widened l.now.items) node) (pick_at l.picks node);
}
