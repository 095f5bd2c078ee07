use Rattle.std.proofs.Common.{◌≡◌, ℕ, ◌<◌, take, vec_len, get_or, pos}
use Rattle.std.specs.Prelude.{zip}
use Rattle.std.specs.Int.{w128, int_wrap}
use Rattle.search_laws.specs.Master.{weighted_activity}
use Rattle.master_gap.proofs.load.activities.Given as goal

abbrev pub invariant-loop-j : goal.invariant-loop-j
invariant-loop-j l = record {
  many : vec_len l.sums ≡ l.rows;
  sums : (i : ℕ) → i < l.rows → get_or l.sums.items i (pos 0) ≡ int_wrap w128 (weighted_activity (take l.j (zip l.cols l.weights)) i);
}
