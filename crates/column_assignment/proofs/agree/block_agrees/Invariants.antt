use Rattle.std.proofs.Common.{◌≡◌, ℕ, ◌<◌, get_or}
use Rattle.bp_theory.specs.Program.{value_at}
use Rattle.bp_theory.specs.Blocking.{Copy}
use Rattle.column_assignment.specs.Deals.{point_at}
use Rattle.column_assignment.proofs.agree.block_agrees.Given as goal

abbrev pub invariant-loop-place : goal.invariant-loop-place
invariant-loop-place l = (i : ℕ) (d : Copy) → i < l.place → value_at (point_at l.used l.column) i ≡ value_at l.point (get_or l.block.block.copies i d).var
