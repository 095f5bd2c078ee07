use Rattle.std.proofs.Common.{◌≡◌, take}
use Rattle.std.specs.Prelude.{◌+ℤ◌}
use Rattle.bp_theory.specs.Sums.{sum_of}
use Rattle.bp_theory.specs.Bound.{base}
use Rattle.reduced_costs.specs.Sizes.{block_least}
use Rattle.lagr_bound.proofs.plain.box_bound.Given as goal

abbrev pub invariant-loop-number : goal.invariant-loop-number
invariant-loop-number l = l.sum ≡ base l.b.blocking l.proof +ℤ sum_of (block_least l.zone l.proof) (take l.number l.b.blocking.blocks)
