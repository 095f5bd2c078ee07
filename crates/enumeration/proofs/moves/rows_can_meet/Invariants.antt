use Rattle.std.proofs.Common.{ℕ, ◌<◌, get_or}
use Rattle.bp_theory.specs.declared.Row.{Row}
use Rattle.enumeration.specs.Reach.{CanMeetRow}
use Rattle.enumeration.proofs.moves.rows_can_meet.Given as goal

abbrev pub invariant-loop-row : goal.invariant-loop-row
invariant-loop-row l = (k : ℕ) (d : Row) → k < l.row → CanMeetRow l.dive.zone.items (get_or l.form.rows.items k d)
