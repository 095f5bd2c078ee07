use Rattle.std.proofs.Common.{◌≡◌, ℕ, ◌<◌, get_or, vec_len, pos}
use Rattle.bp_theory.specs.Program.{span_at}
use Rattle.enumeration.proofs.search.copy_lows.Given as goal

abbrev pub invariant-loop-k : goal.invariant-loop-k
invariant-loop-k l = (vec_len l.point ≡ vec_len l.zone) × ((i : ℕ) → i < l.k → get_or l.point.items i (pos 0) ≡ (span_at l.zone.items i).lo)
