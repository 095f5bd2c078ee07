use Rattle.std.proofs.Common.{◌≡◌, ℕ, ◌<◌, None, vec_len, get_or}
use Rattle.block_pricers.proofs.desks.clear.Given as goal

abbrev pub invariant-loop-k : goal.invariant-loop-k
invariant-loop-k l = (vec_len l.known ≡ vec_len l.initial.known) × ((i : ℕ) → i < l.k → get_or l.known.items i None ≡ None)
