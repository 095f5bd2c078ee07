use Rattle.std.proofs.Common.{◌≡◌, ℕ, ◌<◌, ◌≤◌, ◌-◌, false, length, get_or}
use Rattle.lp_token.specs.Lexeme.{is_point}
use Rattle.lp_syntax.proofs.number.decimal_places.Given as goal

abbrev pub invariant-loop-at : goal.invariant-loop-at
invariant-loop-at l = record { inside : l.at ≤ length l.mantissa; none : (k : ℕ) → k < l.at → is_point (get_or l.mantissa k 0) ≡ false }

abbrev pub decreases-loop-at : goal.decreases-loop-at
decreases-loop-at l = length l.mantissa - l.at
