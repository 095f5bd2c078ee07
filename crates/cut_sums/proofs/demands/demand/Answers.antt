use Rattle.std.proofs.Common.{◌≡◌, ◌<◌, ◌^◌, ℕ, List, length, get_or, sym, subst, ap, ◌∙◌, arith, to_z, of_z}
use Rattle.std.specs.Prelude.{ℤ, pos, ◌*ℤ◌}
use Rattle.std.specs.Int.{w128}
use Rattle.std.proofs.lemmas.Int.{ints}
use Rattle.bp_theory.specs.Decomposition.{HasVariablesBelow}
use Rattle.bp_theory.specs.declared.Span.{Span}
use Rattle.bp_model.specs.Tidy.{sum_limit}
use Rattle.cut_sums.specs.Rows.{program_of, rows_in}
use Rattle.cut_sums.proofs.SizeLemmas.{demand_more, above_is, row_small}
use Rattle.cut_sums.proofs.demands.demand.Goals as goal

pub at-row-requires-clause-bounded : goal.at-row-requires-clause-bounded
at-row-requires-clause-bounded c = (c.requires.entries.each c.loop-mult.mult-index (0, pos 0) c.loop-mult-test.true).row

pub row_demand-above-requires : goal.row_demand-above-requires
row_demand-above-requires c = record {
  below = subst (λ (spans : List Span). HasVariablesBelow (length spans) c.at-row.result.now.terms) (sym c.spans.ensures) c.at-row.ensures.bounded.below;
  small = subst (λ (spans : List Span). sum_limit spans c.at-row.result.now.terms < 2 ^ 62) (sym c.spans.ensures) (row_small (program_of c.args.rows.now) c.at-row.result.now c.at-row.ensures.bounded);
}

pub product-more-requires : goal.product-more-requires
product-more-requires c =
    let m : ℕ × ℤ = get_or c.args.mults.now c.loop-mult.mult-index (0, pos 0) in
    let h = above_is (program_of c.args.rows.now) (rows_in c.args.rows.now) m c.at-row.result.now c.spans.result.now c.row_demand-above.result
    (c.requires.entries.each c.loop-mult.mult-index (0, pos 0) c.loop-mult-test.true) c.at-row.ensures.row c.at-row.ensures.bounded c.spans.ensures c.row_demand-above.ensures in
    let cast : to_z w128 (of_z w128 c.row_demand-above.result) ≡ c.row_demand-above.result = omega (arith, ints) in
    omega (arith, ints, h.1, ap (λ z. m.1 *ℤ z) cast)

pub plus-sum-requires : goal.plus-sum-requires
plus-sum-requires c =
    let m : ℕ × ℤ = get_or c.args.mults.now c.loop-mult.mult-index (0, pos 0) in
    let h = above_is (program_of c.args.rows.now) (rows_in c.args.rows.now) m c.at-row.result.now c.spans.result.now c.row_demand-above.result
    (c.requires.entries.each c.loop-mult.mult-index (0, pos 0) c.loop-mult-test.true) c.at-row.ensures.row c.at-row.ensures.bounded c.spans.ensures c.row_demand-above.ensures in
    let cast : to_z w128 (of_z w128 c.row_demand-above.result) ≡ c.row_demand-above.result = omega (arith, ints) in
    let more = demand_more (program_of c.args.rows.now) (rows_in c.args.rows.now) c.args.mults.now c.loop-mult.mult-index (to_z w128 c.loop-mult.sum-bits) c.product-more.result
    c.requires.entries c.loop-mult-test.true c.loop-mult.invariant (c.product-more.ensures ∙ ap (λ z. m.1 *ℤ z) cast ∙ h.0) in
    omega (arith, ints, more.1)

pub loop-mult-preserved : goal.loop-mult-preserved
loop-mult-preserved c =
    let m : ℕ × ℤ = get_or c.args.mults.now c.loop-mult.mult-index (0, pos 0) in
    let h = above_is (program_of c.args.rows.now) (rows_in c.args.rows.now) m c.at-row.result.now c.spans.result.now c.row_demand-above.result
    (c.requires.entries.each c.loop-mult.mult-index (0, pos 0) c.loop-mult-test.true) c.at-row.ensures.row c.at-row.ensures.bounded c.spans.ensures c.row_demand-above.ensures in
    let cast : to_z w128 (of_z w128 c.row_demand-above.result) ≡ c.row_demand-above.result = omega (arith, ints) in
    let more = demand_more (program_of c.args.rows.now) (rows_in c.args.rows.now) c.args.mults.now c.loop-mult.mult-index (to_z w128 c.loop-mult.sum-bits) c.product-more.result
    c.requires.entries c.loop-mult-test.true c.loop-mult.invariant (c.product-more.ensures ∙ ap (λ z. m.1 *ℤ z) cast ∙ h.0) in
    omega (arith, ints, more.0, c.plus-sum.ensures)
