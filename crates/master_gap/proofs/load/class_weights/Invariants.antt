use Rattle.std.proofs.Common.{◌≡◌, ℕ, ◌<◌, take, vec_len, get_or, pos}
use Rattle.std.specs.Prelude.{zip}
use Rattle.std.specs.Int.{w128, int_wrap}
use Rattle.search_laws.specs.Master.{class_weight}
use Rattle.master_gap.proofs.load.class_weights.Given as goal

abbrev pub invariant-loop-j : goal.invariant-loop-j
invariant-loop-j l = record {
  many : vec_len l.sums ≡ l.classes;
  sums : (k : ℕ) → k < l.classes → get_or l.sums.items k (pos 0) ≡ int_wrap w128 (class_weight (take l.j (zip l.cols l.weights)) k);
}
