use Rattle.std.proofs.Common.{◌≡◌, take}
use Rattle.bp_theory.specs.Sums.{sum_of}
use Rattle.reduced_costs.specs.Sizes.{copy_least}
use Rattle.reduced_costs.proofs.boxes.box_least.Given as goal

abbrev pub invariant-loop-place : goal.invariant-loop-place
invariant-loop-place l = l.sum ≡ sum_of (copy_least l.zone l.proof) (take l.place l.block.block.copies)
