use Rattle.std.proofs.Common.{◌≡◌, ◌≤◌, ◌-◌, true, not, length, take}
use Rattle.std.specs.List.{list_all}
use Rattle.lp_token.specs.Lexeme.{is_exponent_mark}
use Rattle.lp_syntax.proofs.number.exponent_start.Given as goal

abbrev pub invariant-loop-at : goal.invariant-loop-at
invariant-loop-at l = record { inside : l.at ≤ length l.bytes; plain : list_all (λ b. not (is_exponent_mark b)) (take l.at l.bytes) ≡ true }

abbrev pub decreases-loop-at : goal.decreases-loop-at
decreases-loop-at l = length l.bytes - l.at
