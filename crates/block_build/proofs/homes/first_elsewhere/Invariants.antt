use Rattle.std.proofs.Common.{ℕ, ◌<◌, Option, get_or}
use Rattle.block_build.specs.Gather.{IsElsewhere}
use Rattle.block_build.proofs.homes.first_elsewhere.Given as goal

abbrev pub invariant-loop-i : goal.invariant-loop-i
invariant-loop-i l = (k : ℕ) (e : ℕ × Option ℕ) → k < l.i → IsElsewhere l.homes (get_or l.listed k e) → ⊥
