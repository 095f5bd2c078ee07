use Rattle.std.proofs.Common.{◌≡◌, ℕ, ◌<◌, get_or, length, vec_len, pos}
use Rattle.reduced_costs.specs.Sizes.{reduced_costs}
use Rattle.reduced_costs.proofs.filled.fill_costs.Given as goal

abbrev pub invariant-loop-place : goal.invariant-loop-place
invariant-loop-place l =
    (vec_len l.costs ≡ length l.block.block.copies)
    × ((i : ℕ) → i < l.place → get_or l.costs.items i (pos 0) ≡ get_or (reduced_costs l.proof l.block.block) i (pos 0))
