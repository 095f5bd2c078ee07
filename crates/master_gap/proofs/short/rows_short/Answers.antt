use Rattle.std.proofs.Common.{sym, ap, ◌∙◌, ℕ, pos, get_or}
use Rattle.std.specs.Prelude.{◌*ℤ◌, sum_by}
use Rattle.std.specs.Int.{w128, int_wrap}
use Rattle.std.specs.List.{range_with_len}
use Rattle.bp_theory.specs.declared.MasterRow.{MasterRow}
use Rattle.search_laws.specs.Master.{one_weight, master_row, side_miss}
use Rattle.master_gap.proofs.Steps.{wrap_step, sum_by_range_more, any_default}
use Rattle.master_gap.proofs.short.rows_short.Goals as goal

pub loop-i-preserved : goal.loop-i-preserved
loop-i-preserved c =
    let i = c.loop-i.i in
    let rows = c.args.rows.now in
    let miss = λ (r : MasterRow) (i : ℕ). side_miss r.sense (pos one_weight *ℤ r.low) (pos one_weight *ℤ r.rhs) (get_or c.args.sums.now i (pos 0)) in
    let f = λ (i : ℕ). miss (master_row rows i) i in
    wrap_step _ _ _ (pos (sum_by f (range_with_len 0 i))) (pos (f i))
    c.plus-total.type_inv c.row_short-part.type_inv c.plus-total.ensures c.loop-i.invariant
    (c.row_short-part.ensures ∙ ap (λ (r : MasterRow). pos (miss r i)) (any_default rows i _ _ c.loop-i-test.true))
    ∙ ap (int_wrap w128) (sym (sum_by_range_more f i))
