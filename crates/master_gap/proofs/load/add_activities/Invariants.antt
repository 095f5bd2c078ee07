use Rattle.std.proofs.Common.{◌≡◌, ℕ, take, get_or, pos}
use Rattle.std.specs.Prelude.{ℤ, ◌+ℤ◌, ◌*ℤ◌}
use Rattle.std.specs.Int.{w128, int_wrap}
use Rattle.bp_theory.specs.Sums.{sum_at}
use Rattle.master_gap.proofs.load.add_activities.Given as goal

abbrev pub invariant-loop-act : goal.invariant-loop-act
invariant-loop-act l =
    (i : ℕ) (t : ℤ) → get_or l.initial.sums i (pos 0) ≡ int_wrap w128 t
    → get_or l.sums i (pos 0) ≡ int_wrap w128 (t +ℤ sum_at (λ e. e.0) (λ e. e.1) (take l.act-index l.acts) i *ℤ l.weight)
