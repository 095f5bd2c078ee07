use Rattle.std.proofs.Common.{◌∙◌, ℕ, pos, get_or, length, arith}
use Rattle.std.specs.Prelude.{◌+ℤ◌, ◌*ℤ◌, zip}
use Rattle.std.specs.List.{range_with_len}
use Rattle.bp_theory.specs.Sums.{sum_of}
use Rattle.bp_theory.specs.Bound.{side}
use Rattle.search_laws.specs.Master.{multiplier, master_row, class_size, weighted_cost, gap}
use Rattle.master_gap.specs.Restricted.{Restricted}
use Rattle.master_gap.proofs.Steps.{passed}
use Rattle.master_gap.proofs.Ends.{fits, sum_wrap, difference_wrap, cost_small, gap_small}
use Rattle.master_gap.proofs.measure.gap_of.Goals as goal

pub returns : goal.returns
returns c =
    let m : Restricted = record { cols = c.args.cols.now; rows = c.args.rows.now; counts = c.args.counts.now } in
    let zs = zip m.cols c.args.weights.now in
    let of_rows = sum_of (λ (i : ℕ). multiplier c.args.mults.now i *ℤ side (master_row m.rows i) (multiplier c.args.mults.now i)) (range_with_len 0 (length m.rows)) in
    let of_classes = sum_of (λ (k : ℕ). pos (class_size m.counts k) *ℤ get_or c.args.convex.now k (pos 0)) (range_with_len 0 (length m.counts)) in
    passed c.minus.result c.minus.type_inv
    ∙ difference_wrap c.minus.result _ _ (weighted_cost zs) (of_rows +ℤ of_classes) c.minus.ensures
    (passed c.cost_of-cost.result c.cost_of-cost.type_inv
    ∙ c.cost_of-cost.ensures
    ∙ fits (weighted_cost zs) (omega (arith, cost_small m c.args.weights.now c.requires.modest c.requires.weights)))
    (passed c.plus-worth.result c.plus-worth.type_inv
    ∙ sum_wrap c.plus-worth.result _ _ of_rows of_classes c.plus-worth.ensures
    (passed c.rows_worth-of_rows.result c.rows_worth-of_rows.type_inv ∙ c.rows_worth-of_rows.ensures)
    (passed c.classes_worth-of_classes.result c.classes_worth-of_classes.type_inv ∙ c.classes_worth-of_classes.ensures))
    ∙ fits (gap m.rows m.counts zs c.args.mults.now c.args.convex.now)
    (gap_small m c.args.weights.now c.args.mults.now c.args.convex.now c.requires.modest c.requires.weights c.requires.mults c.requires.convex)
