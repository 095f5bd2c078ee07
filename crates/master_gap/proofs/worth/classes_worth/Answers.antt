use Rattle.std.proofs.Common.{sym, ap, ◌∙◌, ℕ, pos, get_or}
use Rattle.std.specs.Prelude.{◌*ℤ◌}
use Rattle.std.specs.Int.{w128, int_wrap}
use Rattle.std.specs.List.{range_with_len}
use Rattle.bp_theory.specs.Sums.{sum_of}
use Rattle.search_laws.specs.Master.{class_size}
use Rattle.master_gap.proofs.Steps.{wrap_step_wrapped, sum_of_range_more}
use Rattle.master_gap.proofs.worth.classes_worth.Goals as goal

pub loop-k-preserved : goal.loop-k-preserved
loop-k-preserved c =
    let f = λ (k : ℕ). pos (class_size c.args.counts.now k) *ℤ get_or c.args.convex.now k (pos 0) in
    wrap_step_wrapped _ _ _ (sum_of f (range_with_len 0 c.loop-k.k)) (f c.loop-k.k)
    c.plus-sum.type_inv c.times-part.type_inv c.plus-sum.ensures c.loop-k.invariant c.times-part.ensures
    ∙ ap (int_wrap w128) (sym (sum_of_range_more f c.loop-k.k))
