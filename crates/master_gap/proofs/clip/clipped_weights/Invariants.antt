use Rattle.std.proofs.Common.{◌≡◌, ◌≤◌, ◌<◌, ◌^◌, ℕ, vec_len, get_or, pos}
use Rattle.std.specs.Prelude.{All, zip, ◌≤ℤ◌, ◌+ℤ◌}
use Rattle.search_laws.specs.Master.{class_weight}
use Rattle.master_gap.proofs.clip.clipped_weights.Given as goal

abbrev pub invariant-loop-j : goal.invariant-loop-j
invariant-loop-j l = record {
  rooms : vec_len l.room ≡ l.classes;
  low : (k : ℕ) → k < l.classes → get_or l.room.items k 0 ≤ 2 ^ 33;
  many : vec_len l.weights ≡ l.j;
  sizes : All (λ w. (pos 0 ≤ℤ w) × (w ≤ℤ pos (2 ^ 33))) l.weights.items;
  left : (k : ℕ) → k < l.classes → class_weight (zip l.cols l.weights.items) k +ℤ pos (get_or l.room.items k 0) ≡ pos (2 ^ 33);
}
