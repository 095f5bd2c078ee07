use Rattle.std.proofs.Common.{◌≡◌, ◌-◌, ◌≤◌, true, length}
use Rattle.std.specs.Prelude.{slice_range}
use Rattle.std.specs.List.{list_all}
use Rattle.lp_token.specs.Word.{is_space}
use Rattle.lp_token.proofs.cut.spaces_end.Given as goal

abbrev pub invariant-loop-at : goal.invariant-loop-at
invariant-loop-at l = record { ordered : l.fn.from ≤ l.at; inside : l.at ≤ length l.bytes; run : list_all is_space (slice_range l.bytes l.fn.from l.at) ≡ true }

abbrev pub decreases-loop-at : goal.decreases-loop-at
decreases-loop-at l = length l.bytes - l.at
