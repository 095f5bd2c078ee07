use Rattle.std.proofs.Common.{◌≡◌, ℕ, take}
use Rattle.std.specs.Prelude.{ℤ, ◌*ℤ◌}
use Rattle.bp_theory.specs.Sums.{sum_of, sum_at}
use Rattle.reduced_costs.proofs.costs.payment.Given as goal

abbrev pub invariant-loop-coef : goal.invariant-loop-coef
invariant-loop-coef l = l.sum ≡ sum_of (λ (e : ℕ × ℤ). sum_at (λ (m : ℕ × ℤ). m.0) (λ m. m.1) l.mults e.0 *ℤ e.1) (take l.coef-index l.coefs)
