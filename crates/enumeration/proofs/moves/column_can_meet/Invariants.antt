use Rattle.std.proofs.Common.{ℕ, ◌<◌, get_or}
use Rattle.enumeration.specs.Search.{CanMeetAt}
use Rattle.enumeration.specs.declared.columns.Entry.{Entry}
use Rattle.enumeration.proofs.moves.column_can_meet.Given as goal

abbrev pub invariant-loop-entry : goal.invariant-loop-entry
invariant-loop-entry l =
    (k : ℕ) (d : Entry) → k < l.entry-index → CanMeetAt l.form.rows.items l.dive.zone.items (get_or l.column k d).row
