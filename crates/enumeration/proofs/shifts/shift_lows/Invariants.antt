use Rattle.std.proofs.Common.{◌≡◌, ◌+◌, ◌*◌, ◌^◌, ◌≤◌, ℕ, pos, ◌+ℤ◌, take, vec_len, slice_index_or}
use Rattle.std.specs.Prelude.{unsigned_abs}
use Rattle.bp_theory.specs.Sums.{sum_at}
use Rattle.enumeration.specs.Shifts.{least_change}
use Rattle.enumeration.specs.declared.columns.Entry.{Entry}
use Rattle.enumeration.proofs.shifts.shift_lows.Given as goal

abbrev pub invariant-loop-entry : goal.invariant-loop-entry
invariant-loop-entry l = record {
  len : vec_len l.lows ≡ vec_len l.initial.lows;
  shifted : (q : ℕ) → slice_index_or l.lows.items q (pos 0)
      ≡ slice_index_or l.initial.lows.items q (pos 0) +ℤ sum_at (λ (e : Entry). e.row) (least_change l.from l.to) (take l.entry-index l.column) q;
  small : (q : ℕ) → unsigned_abs (slice_index_or l.lows.items q (pos 0)) ≤ 2 ^ 62 + 2 ^ 63 * l.entry-index;
}
