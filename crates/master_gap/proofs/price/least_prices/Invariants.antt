use Rattle.std.proofs.Common.{◌≡◌, ℕ, ◌<◌, take, vec_len, get_or, pos}
use Rattle.master_gap.proofs.LeastLaws.{least_so_far}
use Rattle.master_gap.proofs.price.least_prices.Given as goal

abbrev pub invariant-loop-col : goal.invariant-loop-col
invariant-loop-col l = record {
  many : vec_len l.least ≡ l.classes;
  least : (k : ℕ) → k < l.classes → get_or l.least.items k (pos 0) ≡ least_so_far l.mults (take l.col-index l.cols) k;
}
