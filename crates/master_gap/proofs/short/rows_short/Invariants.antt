use Rattle.std.proofs.Common.{◌≡◌, get_or, pos}
use Rattle.std.specs.Prelude.{◌*ℤ◌, sum_by}
use Rattle.std.specs.List.{range_with_len}
use Rattle.std.specs.Int.{w128, int_wrap}
use Rattle.search_laws.specs.Master.{one_weight, master_row, side_miss}
use Rattle.master_gap.proofs.short.rows_short.Given as goal

abbrev pub invariant-loop-i : goal.invariant-loop-i
invariant-loop-i l =
    l.total ≡ int_wrap w128 (pos (sum_by
    (λ i. side_miss (master_row l.rows i).sense (pos one_weight *ℤ (master_row l.rows i).low) (pos one_weight *ℤ (master_row l.rows i).rhs) (get_or l.sums i (pos 0)))
    (range_with_len 0 l.i)))
