use Rattle.std.proofs.Common.{ℕ, ◌<◌, [], length, get_or}
use Rattle.bp_theory.specs.Program.{span_at}
use Rattle.block_build.specs.Homes.{IsWide}
use Rattle.block_build.proofs.links.has_wide_copies.Given as goal

abbrev pub invariant-loop-v : goal.invariant-loop-v
invariant-loop-v l = (v : ℕ) → v < l.v → 1 < length (get_or l.homes v []) → IsWide (span_at l.spans v) → ⊥
