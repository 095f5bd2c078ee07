use Rattle.std.proofs.Common.{◌≡◌, ℕ, ◌<◌, length, vec_len}
use Rattle.bp_theory.specs.Program.{span_at}
use Rattle.enumeration.proofs.start.copy_spans.Given as goal

abbrev pub invariant-loop-k : goal.invariant-loop-k
invariant-loop-k l = (vec_len l.to ≡ length l.from) × ((i : ℕ) → i < l.k → span_at l.to.items i ≡ span_at l.from i)
