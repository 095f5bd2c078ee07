use Rattle.std.proofs.Common.{◌≡◌, ◌<◌, ℕ, length, vec_len}
use Rattle.shortest_path.specs.Best.{cell_at, pick_at, IsBest}
use Rattle.shortest_path.proofs.pass.relax_layer.Given as goal

abbrev pub invariant-loop-place : goal.invariant-loop-place
invariant-loop-place l = record {
  cells : vec_len l.now ≡ vec_len l.initial.now;
  picks : length l.picks ≡ length l.initial.picks;
  best : (node : ℕ) → node < vec_len l.now → IsBest l.arcs l.next.items l.span l.cost l.place node (cell_at l.now.items node) (pick_at l.picks node);
}
