use Rattle.std.proofs.Common.{◌≡◌, ℕ, ◌<◌, get_or, length, vec_len, pos}
use Rattle.std.proofs.Math.IntN.{◌*ℤ◌}
use Rattle.enumeration.proofs.relax.scale_costs.Given as goal

abbrev pub invariant-loop-k : goal.invariant-loop-k
invariant-loop-k l = (vec_len l.to ≡ length l.costs) × ((i : ℕ) → i < l.k → get_or l.to.items i (pos 0) ≡ get_or l.costs i (pos 0) *ℤ pos l.scale)
