use Rattle.std.proofs.Common.{◌≡◌, ◌-◌, ◌≤◌, true, length}
use Rattle.std.specs.Prelude.{slice_range}
use Rattle.std.specs.List.{list_all}
use Rattle.dec_syntax.specs.Scan.{is_word_byte}
use Rattle.dec_syntax.proofs.cut.word_end.Given as goal

abbrev pub invariant-loop-at : goal.invariant-loop-at
invariant-loop-at l = record { ordered : l.fn.from ≤ l.at; inside : l.at ≤ length l.text; word : list_all is_word_byte (slice_range l.text l.fn.from l.at) ≡ true }

abbrev pub decreases-loop-at : goal.decreases-loop-at
decreases-loop-at l = length l.text - l.at
