use Rattle.std.proofs.Common.{ℕ, ◌+◌, ◌<◌, get_or}
use Rattle.std.specs.Prelude.{pos}
use Rattle.block_program.proofs.fitting.ascend.Given as goal

abbrev pub invariant-loop-i : goal.invariant-loop-i
invariant-loop-i l = (k : ℕ) → k + 1 < l.i → (get_or l.mults k (0, pos 0)).0 < (get_or l.mults (k + 1) (0, pos 0)).0
