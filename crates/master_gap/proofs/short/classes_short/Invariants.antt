use Rattle.std.proofs.Common.{◌≡◌, get_or, pos}
use Rattle.std.specs.Prelude.{◌*ℤ◌, ◌-ℤ◌, sum_by, unsigned_abs}
use Rattle.std.specs.List.{range_with_len}
use Rattle.std.specs.Int.{w128, int_wrap}
use Rattle.search_laws.specs.Master.{one_weight, class_size}
use Rattle.master_gap.proofs.short.classes_short.Given as goal

abbrev pub invariant-loop-k : goal.invariant-loop-k
invariant-loop-k l =
    l.total ≡ int_wrap w128 (pos (sum_by
    (λ k. unsigned_abs (get_or l.weights k (pos 0) -ℤ pos one_weight *ℤ pos (class_size l.counts k)))
    (range_with_len 0 l.k)))
