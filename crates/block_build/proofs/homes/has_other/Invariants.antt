use Rattle.std.proofs.Common.{◌≡◌, ℕ, ◌<◌, Some, get_or}
use Rattle.block_build.proofs.homes.has_other.Given as goal

abbrev pub invariant-loop-i : goal.invariant-loop-i
invariant-loop-i l = (i d : ℕ) → i < l.i → l.list ≡ Some (get_or l.homes i d)
