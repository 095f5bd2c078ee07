use Rattle.std.proofs.Common.{sym, ap, ◌∙◌, ℕ, pos, get_or}
use Rattle.std.specs.Prelude.{◌*ℤ◌}
use Rattle.std.specs.Int.{w128, int_wrap}
use Rattle.std.specs.List.{range_with_len}
use Rattle.bp_theory.specs.Sums.{sum_of}
use Rattle.bp_theory.specs.Bound.{side}
use Rattle.bp_theory.specs.declared.MasterRow.{MasterRow}
use Rattle.search_laws.specs.Master.{multiplier, master_row}
use Rattle.master_gap.proofs.Steps.{wrap_step, sum_of_range_more, any_default}
use Rattle.master_gap.proofs.worth.rows_worth.Goals as goal

pub loop-i-preserved : goal.loop-i-preserved
loop-i-preserved c =
    let i = c.loop-i.i in
    let f = λ (i : ℕ). multiplier c.args.mults.now i *ℤ side (master_row c.args.rows.now i) (multiplier c.args.mults.now i) in
    wrap_step _ _ _ (sum_of f (range_with_len 0 i)) (f i)
    c.plus-sum.type_inv c.row_worth-part.type_inv c.plus-sum.ensures c.loop-i.invariant
    (c.row_worth-part.ensures
    ∙ ap (λ (r : MasterRow). get_or c.args.mults.now i (pos 0) *ℤ side r (get_or c.args.mults.now i (pos 0))) (any_default c.args.rows.now i _ _ c.loop-i-test.true))
    ∙ ap (int_wrap w128) (sym (sum_of_range_more f i))
