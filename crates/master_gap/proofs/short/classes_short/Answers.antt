use Rattle.std.proofs.Common.{sym, ap, ◌∙◌, ℕ, pos, get_or}
use Rattle.std.specs.Prelude.{◌*ℤ◌, ◌-ℤ◌, sum_by, unsigned_abs}
use Rattle.std.specs.Int.{w128, int_wrap}
use Rattle.std.specs.List.{range_with_len}
use Rattle.search_laws.specs.Master.{one_weight, class_size}
use Rattle.master_gap.proofs.Steps.{wrap_step, sum_by_range_more}
use Rattle.master_gap.proofs.short.classes_short.Goals as goal

pub loop-k-preserved : goal.loop-k-preserved
loop-k-preserved c =
    let f = λ (k : ℕ). unsigned_abs (get_or c.args.weights.now k (pos 0) -ℤ pos one_weight *ℤ pos (class_size c.args.counts.now k)) in
    wrap_step _ _ _ (pos (sum_by f (range_with_len 0 c.loop-k.k))) (pos (f c.loop-k.k))
    c.plus-total.type_inv c.class_short-part.type_inv c.plus-total.ensures c.loop-k.invariant c.class_short-part.ensures
    ∙ ap (int_wrap w128) (sym (sum_by_range_more f c.loop-k.k))
