use Rattle.std.proofs.Common.{◌≡◌, ℕ, take}
use Rattle.std.specs.Prelude.{ℤ, pos, ◌+ℤ◌, ◌*ℤ◌}
use Rattle.bp_theory.specs.Sums.{sum_of}
use Rattle.bp_theory.specs.Blocking.{row_at}
use Rattle.bp_theory.specs.Bound.{side_at}
use Rattle.reduced_costs.proofs.costs.base.Given as goal

abbrev pub invariant-loop-mult : goal.invariant-loop-mult
invariant-loop-mult l =
    l.sum ≡ pos l.proof.scale *ℤ l.b.blocking.constant
    +ℤ sum_of (λ (m : ℕ × ℤ). m.1 *ℤ side_at (row_at l.b.blocking m.0) m.1) (take l.mult-index l.proof.mults)
