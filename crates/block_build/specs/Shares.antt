-- The variables and the rows that each block has.
use Rattle.std.specs.Prelude.{◌≡◌, ℕ, ◌<◌, List, [], filter, length, vec_len, Option, None, slice_index_or}
use Rattle.std.specs.List.{range_with_len}
use Rattle.bp_theory.specs.Decomposition.{is_block}
use Rattle.block_build.specs.Gather.{at_home}
use Rattle.block_build.specs.declared.shares.Shares.{Shares}

-- the numbers of a block's rows, in order
abbrev pub placed_in : ℕ → List (Option ℕ) → List ℕ
placed_in k places = filter (λ row. is_block k (slice_index_or places row None)) (range_with_len 0 (length places))

-- the shares of so many blocks, by the homes of variables and the places of rows
pub record AreShares (blocks : ℕ) (homes : List (List ℕ)) (places : List (Option ℕ)) (s : Shares) : Type 0 where
  pub each_vars : vec_len s.vars ≡ blocks
  pub vars : (k : ℕ) → k < blocks → slice_index_or s.vars.items k [] ≡ at_home k homes
  pub each_rows : vec_len s.rows ≡ blocks
  pub rows : (k : ℕ) → k < blocks → slice_index_or s.rows.items k [] ≡ placed_in k places
