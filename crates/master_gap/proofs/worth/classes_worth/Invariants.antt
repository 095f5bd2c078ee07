use Rattle.std.proofs.Common.{◌≡◌, get_or, pos}
use Rattle.std.specs.Prelude.{◌*ℤ◌}
use Rattle.std.specs.List.{range_with_len}
use Rattle.std.specs.Int.{w128, int_wrap}
use Rattle.bp_theory.specs.Sums.{sum_of}
use Rattle.search_laws.specs.Master.{class_size}
use Rattle.master_gap.proofs.worth.classes_worth.Given as goal

abbrev pub invariant-loop-k : goal.invariant-loop-k
invariant-loop-k l =
    l.sum ≡ int_wrap w128 (sum_of (λ k. pos (class_size l.counts k) *ℤ get_or l.convex k (pos 0)) (range_with_len 0 l.k))
