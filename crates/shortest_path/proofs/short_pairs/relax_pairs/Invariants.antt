use Rattle.std.proofs.Common.{◌≡◌, ◌<◌, ℕ, length}
use Rattle.shortest_path.specs.Best.{cell_at, pick_at, IsBest}
use Rattle.shortest_path.specs.Short.{widened, AreCells}
use Rattle.shortest_path.specs.Pairs.{arcs_from}
use Rattle.shortest_path.proofs.short_pairs.relax_pairs.Given as goal

abbrev pub invariant-loop-node : goal.invariant-loop-node
invariant-loop-node l = record {
  cells : AreCells (length l.initial.picks) l.now.items;
  picks : length l.picks ≡ length l.initial.picks;
  best : (n : ℕ) → n < l.node → IsBest (arcs_from (length l.initial.picks) 0 l.pairs) (widened l.next.items) l.span l.cost
      (length (arcs_from (length l.initial.picks) 0 l.pairs)) n (cell_at (widened l.now.items) n) (pick_at l.picks n);
}
