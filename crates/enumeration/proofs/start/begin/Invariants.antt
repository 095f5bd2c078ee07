use Rattle.std.proofs.Common.{◌≡◌, ℕ, ◌<◌, get_or, length, pos}
use Rattle.bp_theory.specs.declared.Row.{Row}
use Rattle.enumeration.specs.Reach.{low_reach, high_reach}
use Rattle.enumeration.proofs.start.begin.Given as goal

abbrev pub invariant-loop-row : goal.invariant-loop-row
invariant-loop-row l = record {
  zone : l.dive.zone.items ≡ l.zone;
  point : length l.dive.point.items ≡ length l.form.spans.items;
  many_lows : length l.dive.lows.items ≡ length l.form.rows.items;
  many_highs : length l.dive.highs.items ≡ length l.form.rows.items;
  lows : (i : ℕ) (d : Row) → i < l.row → get_or l.dive.lows.items i (pos 0) ≡ low_reach l.zone (get_or l.form.rows.items i d).terms;
  highs : (i : ℕ) (d : Row) → i < l.row → get_or l.dive.highs.items i (pos 0) ≡ high_reach l.zone (get_or l.form.rows.items i d).terms;
}
