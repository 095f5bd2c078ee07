use Rattle.std.proofs.Common.{◌≡◌, ℕ, ◌<◌, length, vec_len}
use Rattle.bp_theory.specs.Bound.{spans_of}
use Rattle.bp_theory.specs.Program.{span_at}
use Rattle.reduced_costs.proofs.filled.fill_spans.Given as goal

abbrev pub invariant-loop-place : goal.invariant-loop-place
invariant-loop-place l =
    (vec_len l.spans ≡ length l.block.block.copies)
    × ((i : ℕ) → i < l.place → span_at l.spans.items i ≡ span_at (spans_of l.zone l.block.block) i)
