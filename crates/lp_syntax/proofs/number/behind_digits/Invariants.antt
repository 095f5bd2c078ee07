use Rattle.std.proofs.Common.{◌≡◌, ◌≤◌, ◌-◌, length, take}
use Rattle.std.specs.Prelude.{count_by}
use Rattle.std.specs.Char.{is_ascii_digit}
use Rattle.lp_syntax.proofs.number.behind_digits.Given as goal

abbrev pub invariant-loop-at : goal.invariant-loop-at
invariant-loop-at l = record { inside : l.at ≤ length l.bytes; seen : l.seen ≡ count_by is_ascii_digit (take l.at l.bytes); few : l.seen ≤ l.count }

abbrev pub decreases-loop-at : goal.decreases-loop-at
decreases-loop-at l = length l.bytes - l.at
