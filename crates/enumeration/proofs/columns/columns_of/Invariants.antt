use Rattle.std.proofs.Common.{◌≡◌, ◌<◌, ℕ, [], take, vec_len, slice_index_or}
use Rattle.enumeration.specs.Columns.{column_from}
use Rattle.enumeration.proofs.columns.columns_of.Given as goal

abbrev pub invariant-loop-number : goal.invariant-loop-number
invariant-loop-number l = record {
  len : vec_len l.columns ≡ l.count;
  columns : (j : ℕ) → j < l.count → slice_index_or l.columns.items j [] ≡ column_from 0 (take l.number l.rows) j;
}
