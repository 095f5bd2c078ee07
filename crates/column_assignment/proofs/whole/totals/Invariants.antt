use Rattle.std.proofs.Common.{◌≡◌, ℕ, ◌<◌, pos, take, get_or, length}
use Rattle.std.specs.Int.{w128, int_wrap}
use Rattle.column_assignment.proofs.WholeLemmas.{total}
use Rattle.column_assignment.proofs.whole.totals.Given as goal

abbrev pub invariant-loop-place : goal.invariant-loop-place
invariant-loop-place l = record {
  many : length l.totals.items ≡ l.count;
  totals : (k : ℕ) → k < l.count → get_or l.totals.items k (pos 0) ≡ int_wrap w128 (total (take l.place l.used) k);
}
