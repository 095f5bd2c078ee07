use Rattle.std.proofs.Common.{◌≡◌, ℕ, ◌<◌, [], filter, vec_len, get_or, None}
use Rattle.std.specs.List.{range_with_len}
use Rattle.bp_theory.specs.Decomposition.{is_block}
use Rattle.block_build.proofs.shares.rows_by_block.Given as goal

abbrev pub invariant-loop-row : goal.invariant-loop-row
invariant-loop-row l = record {
  each : vec_len l.all ≡ l.blocks;
  rows : (k : ℕ) → k < l.blocks → get_or l.all.items k [] ≡ filter (λ row. is_block k (get_or l.places row None)) (range_with_len 0 l.row);
}
