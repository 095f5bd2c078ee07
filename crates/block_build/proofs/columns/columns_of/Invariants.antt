use Rattle.std.proofs.Common.{◌≡◌, ◌<◌, ℕ, [], take, vec_len, slice_index_or}
use Rattle.block_build.specs.Columns.{column_from}
use Rattle.block_build.proofs.columns.columns_of.Given as goal

abbrev pub invariant-loop-number : goal.invariant-loop-number
invariant-loop-number l = record {
  len : vec_len l.columns ≡ l.vars;
  columns : (j : ℕ) → j < l.vars → slice_index_or l.columns.items j [] ≡ column_from l.first (take l.number l.rows) j;
}
