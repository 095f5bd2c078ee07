use Rattle.std.proofs.Common.{◌≡◌, ◌<◌, ℕ, [], ◌++◌, take, vec_len, slice_index_or}
use Rattle.enumeration.specs.Columns.{row_entries}
use Rattle.enumeration.proofs.columns.add_terms.Given as goal

abbrev pub invariant-loop-term : goal.invariant-loop-term
invariant-loop-term l = record {
  len : vec_len l.columns ≡ vec_len l.initial.columns;
  added : (j : ℕ) → j < vec_len l.initial.columns
      → slice_index_or l.columns.items j [] ≡ slice_index_or l.initial.columns.items j [] ++ row_entries l.row j (take l.term-index l.terms);
}
