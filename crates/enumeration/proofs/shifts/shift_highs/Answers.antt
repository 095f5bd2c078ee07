use Rattle.std.proofs.Common.{◌≡◌, ◌∙◌, sym, ap, subst, ◌+◌, ◌*◌, ◌^◌, ◌<◌, ◌≤◌, List, pos, ◌+ℤ◌, length, get_or, arith}
use Rattle.std.specs.Prelude.{unsigned_abs}
use Rattle.std.specs.Int.{w128}
use Rattle.std.proofs.lemmas.List.{get_or_read, take_all}
use mir.Val.{of_z, to_z}
use Rattle.bp_theory.specs.Sums.{sum_at}
use Rattle.pricing_problem.proofs.Passed.{passed}
use Rattle.enumeration.specs.Shifts.{top_change}
use Rattle.enumeration.specs.declared.columns.Entry.{Entry}
use Rattle.enumeration.proofs.ShiftLaws.{step_fits, shift_more, shift_small_more, written_is}
use Rattle.enumeration.proofs.shifts.shift_highs.Goals as goal

pub plus-requires : goal.plus-requires
plus-requires c =
    let e : Entry = get_or c.args.column.now c.loop-entry.entry-index (record { row = 0; coef = pos 0 }) in
    let there : e.row < length c.loop-entry.highs.items =
    omega (arith, c.requires.rows c.loop-entry.entry-index (record { row = 0; coef = pos 0 }) c.loop-entry-test.true, c.loop-entry.invariant.len, c.loop-entry.highs.ok.0) in
    let read : c.index.result.now ≡ get_or c.loop-entry.highs.items e.row (pos 0) =
    get_or_read c.loop-entry.highs.items e.row c.index.result.now there c.index.ensures (pos 0) in
    let small : unsigned_abs c.index.result.now ≤ 2 ^ 62 + 2 ^ 63 * c.loop-entry.entry-index =
    subst (λ z. unsigned_abs z ≤ 2 ^ 62 + 2 ^ 63 * c.loop-entry.entry-index) (sym read) (c.loop-entry.invariant.small e.row) in
    let change : unsigned_abs (to_z w128 (of_z w128 c.change_of_top-change.result)) < 2 ^ 63 =
    subst (λ z. unsigned_abs z < 2 ^ 63) (sym (passed c.change_of_top-change.result c.change_of_top-change.type_inv)) c.change_of_top-change.ensures.small in
    step_fits c.index.result.now (to_z w128 (of_z w128 c.change_of_top-change.result)) c.loop-entry.entry-index (omega arith) small change

pub loop-entry-preserved : goal.loop-entry-preserved
loop-entry-preserved c =
    let e : Entry = get_or c.args.column.now c.loop-entry.entry-index (record { row = 0; coef = pos 0 }) in
    let there : e.row < length c.loop-entry.highs.items =
    omega (arith, c.requires.rows c.loop-entry.entry-index (record { row = 0; coef = pos 0 }) c.loop-entry-test.true, c.loop-entry.invariant.len, c.loop-entry.highs.ok.0) in
    let is : to_z w128 (of_z w128 c.plus.result) ≡ get_or c.loop-entry.highs.items e.row (pos 0) +ℤ top_change c.args.from.now c.args.to.now e =
    written_is c.loop-entry.highs.items e.row (to_z w128 (of_z w128 c.plus.result)) c.plus.result c.index.result.now c.change_of_top-change.result
    (to_z w128 (of_z w128 c.change_of_top-change.result)) (top_change c.args.from.now c.args.to.now e) there
    (passed c.plus.result c.plus.type_inv)
    c.plus.ensures
    c.index.ensures
    (passed c.change_of_top-change.result c.change_of_top-change.type_inv)
    c.change_of_top-change.ensures.change in
    record {
      len = omega (arith, c.loop-entry.invariant.len);
      shifted = shift_more (top_change c.args.from.now c.args.to.now) c.args.highs.now.items c.loop-entry.highs.items c.args.column.now c.loop-entry.entry-index
          (record { row = 0; coef = pos 0 }) (to_z w128 (of_z w128 c.plus.result)) c.loop-entry-test.true there is c.loop-entry.invariant.shifted;
      small = shift_small_more c.loop-entry.highs.items c.loop-entry.entry-index e.row
          (top_change c.args.from.now c.args.to.now e) (to_z w128 (of_z w128 c.plus.result)) there
          (subst (λ z. unsigned_abs z < 2 ^ 63) c.change_of_top-change.ensures.change c.change_of_top-change.ensures.small)
          is c.loop-entry.invariant.small;
    }

pub returns-clause-shifted : goal.returns-clause-shifted
returns-clause-shifted c = λ q.
    c.loop-entry.invariant.shifted q
    ∙ ap
    (λ (es : List Entry). get_or c.args.highs.now.items q (pos 0) +ℤ sum_at (λ (e : Entry). e.row) (top_change c.args.from.now c.args.to.now) es q)
    (take_all c.loop-entry.entry-index c.args.column.now c.loop-entry-test.false)
