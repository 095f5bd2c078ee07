use Rattle.std.proofs.Common.{◌≡◌, ◌<◌, ℕ, length, get_or}
use Rattle.dec_components.proofs.join.own_parents.Given as goal

abbrev pub invariant-loop-row : goal.invariant-loop-row
invariant-loop-row l = record {
  each : length l.parents.items ≡ l.row;
  own : (r : ℕ) → r < length l.parents.items → get_or l.parents.items r 0 ≡ r;
}
