use Rattle.std.proofs.Common.{◌≡◌, ℕ, [], vec_len, slice_index_or}
use Rattle.block_build.proofs.shares.empty_lists.Given as goal

abbrev pub invariant-loop : goal.invariant-loop
invariant-loop l = (vec_len l.all ≡ l.counter) × ((j : ℕ) → slice_index_or l.all.items j [] ≡ [])
