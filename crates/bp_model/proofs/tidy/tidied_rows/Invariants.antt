use Rattle.std.proofs.Common.{take}
use Rattle.std.specs.List.{AllZip}
use Rattle.bp_model.specs.Tidy.{IsSmallRow}
use Rattle.bp_model.proofs.tidy.tidied_rows.Given as goal

abbrev pub invariant-loop-i : goal.invariant-loop-i
invariant-loop-i l = AllZip (IsSmallRow l.spans) (take l.i l.rows) l.tidy.items
