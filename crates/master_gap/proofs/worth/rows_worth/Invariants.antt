use Rattle.std.proofs.Common.{◌≡◌}
use Rattle.std.specs.Prelude.{◌*ℤ◌}
use Rattle.std.specs.List.{range_with_len}
use Rattle.std.specs.Int.{w128, int_wrap}
use Rattle.bp_theory.specs.Sums.{sum_of}
use Rattle.bp_theory.specs.Bound.{side}
use Rattle.search_laws.specs.Master.{multiplier, master_row}
use Rattle.master_gap.proofs.worth.rows_worth.Given as goal

abbrev pub invariant-loop-i : goal.invariant-loop-i
invariant-loop-i l =
    l.sum ≡ int_wrap w128 (sum_of (λ i. multiplier l.mults i *ℤ side (master_row l.rows i) (multiplier l.mults i)) (range_with_len 0 l.i))
