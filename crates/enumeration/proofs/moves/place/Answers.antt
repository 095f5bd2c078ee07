use Rattle.std.proofs.Common.{◌∙◌, sym, subst, ◌^◌, ◌≤◌, vec_len, arith}
use Rattle.std.specs.Prelude.{unsigned_abs}
use Rattle.std.specs.Int.{w128}
use mir.Val.{of_z, to_z}
use Rattle.pricing_problem.proofs.Passed.{passed}
use Rattle.enumeration.proofs.MoveLaws.{cost_sum_fits}
use Rattle.enumeration.proofs.PlaceLaws.{move_rows, move_short, move_short_from, lows_short, highs_short, lows_many, highs_many, cost_short, cost_short_from, least_short, moved_lows, moved_highs, moved_least, many_narrow, set_inside, set_proper}
use Rattle.enumeration.proofs.RelaxLaws.{paid_short, paid_short_from, paid_least_short, moved_paid}
use Rattle.enumeration.proofs.moves.place.Goals as goal

pub shift_lows-requires-clause-rows : goal.shift_lows-requires-clause-rows
shift_lows-requires-clause-rows c =
    move_rows c.args.form.now c.args.zone.now c.args.costs.now c.args.dive.now c.args.var c.args.to.now
    (record { priceable = c.requires.priceable; tracked = c.requires.tracked; there = c.requires.there; part = c.requires.part; fits = c.requires.proper })
    c.index-2.result.now c.as_slice-column.result.now c.as_slice-column.ensures c.index-2.ensures
    (vec_len c.args.dive.now.lows) (lows_many c.args.form.now c.args.zone.now c.args.costs.now c.args.dive.now c.requires.tracked)

pub shift_lows-requires-clause-from : goal.shift_lows-requires-clause-from
shift_lows-requires-clause-from c =
    move_short_from c.args.form.now c.args.zone.now c.args.costs.now c.args.dive.now c.args.var c.args.to.now
    (record { priceable = c.requires.priceable; tracked = c.requires.tracked; there = c.requires.there; part = c.requires.part; fits = c.requires.proper })
    c.index-2.result.now c.as_slice-column.result.now c.as_slice-column.ensures c.index-2.ensures
    c.index.result.now c.index.ensures

pub shift_lows-requires-clause-to : goal.shift_lows-requires-clause-to
shift_lows-requires-clause-to c =
    move_short c.args.form.now c.args.zone.now c.args.costs.now c.args.dive.now c.args.var c.args.to.now
    (record { priceable = c.requires.priceable; tracked = c.requires.tracked; there = c.requires.there; part = c.requires.part; fits = c.requires.proper })
    c.index-2.result.now c.as_slice-column.result.now c.as_slice-column.ensures c.index-2.ensures

pub shift_lows-requires-clause-small : goal.shift_lows-requires-clause-small
shift_lows-requires-clause-small c =
    lows_short c.args.form.now c.args.zone.now c.args.costs.now c.args.dive.now c.requires.priceable c.requires.tracked

pub shift_highs-requires-clause-rows : goal.shift_highs-requires-clause-rows
shift_highs-requires-clause-rows c =
    move_rows c.args.form.now c.args.zone.now c.args.costs.now c.args.dive.now c.args.var c.args.to.now
    (record { priceable = c.requires.priceable; tracked = c.requires.tracked; there = c.requires.there; part = c.requires.part; fits = c.requires.proper })
    c.index-2.result.now c.as_slice-column.result.now c.as_slice-column.ensures c.index-2.ensures
    (vec_len c.args.dive.now.highs) (highs_many c.args.form.now c.args.zone.now c.args.costs.now c.args.dive.now c.requires.tracked)

pub shift_highs-requires-clause-from : goal.shift_highs-requires-clause-from
shift_highs-requires-clause-from c =
    move_short_from c.args.form.now c.args.zone.now c.args.costs.now c.args.dive.now c.args.var c.args.to.now
    (record { priceable = c.requires.priceable; tracked = c.requires.tracked; there = c.requires.there; part = c.requires.part; fits = c.requires.proper })
    c.index-2.result.now c.as_slice-column.result.now c.as_slice-column.ensures c.index-2.ensures
    c.index.result.now c.index.ensures

pub shift_highs-requires-clause-to : goal.shift_highs-requires-clause-to
shift_highs-requires-clause-to c =
    move_short c.args.form.now c.args.zone.now c.args.costs.now c.args.dive.now c.args.var c.args.to.now
    (record { priceable = c.requires.priceable; tracked = c.requires.tracked; there = c.requires.there; part = c.requires.part; fits = c.requires.proper })
    c.index-2.result.now c.as_slice-column.result.now c.as_slice-column.ensures c.index-2.ensures

pub shift_highs-requires-clause-small : goal.shift_highs-requires-clause-small
shift_highs-requires-clause-small c =
    highs_short c.args.form.now c.args.zone.now c.args.costs.now c.args.dive.now c.requires.priceable c.requires.tracked

pub change_of_cost-change-requires-clause-from : goal.change_of_cost-change-requires-clause-from
change_of_cost-change-requires-clause-from c =
    cost_short_from c.args.form.now c.args.zone.now c.args.costs.now c.args.dive.now c.args.var c.args.to.now
    (record { priceable = c.requires.priceable; tracked = c.requires.tracked; there = c.requires.there; part = c.requires.part; fits = c.requires.proper })
    c.index.result.now c.index.ensures

pub change_of_cost-change-requires-clause-to : goal.change_of_cost-change-requires-clause-to
change_of_cost-change-requires-clause-to c =
    cost_short c.args.form.now c.args.zone.now c.args.costs.now c.args.dive.now c.args.var c.args.to.now
    (record { priceable = c.requires.priceable; tracked = c.requires.tracked; there = c.requires.there; part = c.requires.part; fits = c.requires.proper })

pub plus-dive-requires : goal.plus-dive-requires
plus-dive-requires c =
    cost_sum_fits c.args.dive.now.least (to_z w128 (of_z w128 c.change_of_cost-change.result))
    (least_short c.args.form.now c.args.zone.now c.args.costs.now c.args.dive.now c.requires.priceable c.requires.tracked)
    (subst (λ z. unsigned_abs z ≤ 2 ^ 124) (sym (passed c.change_of_cost-change.result c.change_of_cost-change.type_inv)) c.change_of_cost-change.ensures.small)

pub index_mut-requires : goal.index_mut-requires
index_mut-requires c =
    omega (arith, c.requires.there, many_narrow c.args.form.now c.args.zone.now c.args.costs.now c.args.dive.now c.requires.tracked, c.args.dive.now.zone.ok.0)

pub returns-clause-tracked : goal.returns-clause-tracked
returns-clause-tracked c =
    record {
      inside = set_inside c.args.dive.now.zone.items c.args.zone.now c.args.var c.args.to.now c.requires.tracked.inside c.requires.part;
      proper = set_proper c.args.dive.now.zone.items c.args.var c.args.to.now c.requires.tracked.proper c.requires.proper;
      lows = moved_lows c.args.form.now c.args.zone.now c.args.costs.now c.args.dive.now c.args.var c.args.to.now
          (record { priceable = c.requires.priceable; tracked = c.requires.tracked; there = c.requires.there; part = c.requires.part; fits = c.requires.proper })
          c.index-2.result.now c.as_slice-column.result.now c.as_slice-column.ensures c.index-2.ensures
          c.index.result.now c.index.ensures c.shift_lows.new.lows.items
          (omega (arith, c.shift_lows.ensures.len, c.shift_lows.new.lows.ok.0, c.args.dive.now.lows.ok.0)) c.shift_lows.ensures.shifted;
      highs = moved_highs c.args.form.now c.args.zone.now c.args.costs.now c.args.dive.now c.args.var c.args.to.now
          (record { priceable = c.requires.priceable; tracked = c.requires.tracked; there = c.requires.there; part = c.requires.part; fits = c.requires.proper })
          c.index-2.result.now c.as_slice-column.result.now c.as_slice-column.ensures c.index-2.ensures
          c.index.result.now c.index.ensures c.shift_highs.new.highs.items
          (omega (arith, c.shift_highs.ensures.len, c.shift_highs.new.highs.ok.0, c.args.dive.now.highs.ok.0)) c.shift_highs.ensures.shifted;
      least = moved_least c.args.form.now c.args.zone.now c.args.costs.now c.args.dive.now c.args.var c.args.to.now
          (record { priceable = c.requires.priceable; tracked = c.requires.tracked; there = c.requires.there; part = c.requires.part; fits = c.requires.proper })
          c.index.result.now c.index.ensures (to_z w128 (of_z w128 c.plus-dive.result)) (to_z w128 (of_z w128 c.change_of_cost-change.result))
          (passed c.plus-dive.result c.plus-dive.type_inv ∙ c.plus-dive.ensures)
          (passed c.change_of_cost-change.result c.change_of_cost-change.type_inv ∙ c.change_of_cost-change.ensures.change);
      wide = c.requires.tracked.wide;
    }

pub change_of_cost-change_paid-requires-clause-from : goal.change_of_cost-change_paid-requires-clause-from
change_of_cost-change_paid-requires-clause-from c =
    paid_short_from c.args.form.now c.args.zone.now c.args.costs.now c.args.relaxed.now c.args.dive.now c.args.var c.args.to.now
    c.requires.adjusted c.requires.paid
    (record { priceable = c.requires.priceable; tracked = c.requires.tracked; there = c.requires.there; part = c.requires.part; fits = c.requires.proper })
    c.index.result.now c.index.ensures c.index-3.result.now c.index-3.ensures

pub change_of_cost-change_paid-requires-clause-to : goal.change_of_cost-change_paid-requires-clause-to
change_of_cost-change_paid-requires-clause-to c =
    paid_short c.args.form.now c.args.zone.now c.args.costs.now c.args.relaxed.now c.args.dive.now c.args.var c.args.to.now
    c.requires.adjusted c.requires.paid
    (record { priceable = c.requires.priceable; tracked = c.requires.tracked; there = c.requires.there; part = c.requires.part; fits = c.requires.proper })
    c.index-3.result.now c.index-3.ensures

pub plus-dive-requires-2 : goal.plus-dive-requires-2
plus-dive-requires-2 c =
    cost_sum_fits c.args.dive.now.paid (to_z w128 (of_z w128 c.change_of_cost-change_paid.result))
    (paid_least_short c.args.form.now c.args.zone.now c.args.costs.now c.args.relaxed.now c.args.dive.now c.requires.adjusted c.requires.paid c.requires.tracked)
    (subst (λ z. unsigned_abs z ≤ 2 ^ 124) (sym (passed c.change_of_cost-change_paid.result c.change_of_cost-change_paid.type_inv)) c.change_of_cost-change_paid.ensures.small)

pub returns-clause-paid : goal.returns-clause-paid
returns-clause-paid c =
    moved_paid c.args.form.now c.args.zone.now c.args.costs.now c.args.relaxed.now c.args.dive.now c.args.var c.args.to.now
    c.requires.adjusted c.requires.paid
    (record { priceable = c.requires.priceable; tracked = c.requires.tracked; there = c.requires.there; part = c.requires.part; fits = c.requires.proper })
    c.index.result.now c.index.ensures c.index-3.result.now c.index-3.ensures
    (to_z w128 (of_z w128 c.plus-dive-2.result)) (to_z w128 (of_z w128 c.change_of_cost-change_paid.result))
    (passed c.plus-dive-2.result c.plus-dive-2.type_inv ∙ c.plus-dive-2.ensures)
    (passed c.change_of_cost-change_paid.result c.change_of_cost-change_paid.type_inv ∙ c.change_of_cost-change_paid.ensures.change)
