use Rattle.std.proofs.Common.{◌≡◌, ℕ, [], vec_len, slice_index_or}
use Rattle.block_build.proofs.columns.empty_columns.Given as goal

abbrev pub invariant-loop : goal.invariant-loop
invariant-loop l = (vec_len l.columns ≡ l.counter) × ((j : ℕ) → slice_index_or l.columns.items j [] ≡ [])
