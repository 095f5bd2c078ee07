use Rattle.std.proofs.Common.{◌≡◌, ◌∙◌, refl, sym, ap, subst, ◌+◌, ◌*◌, ◌^◌, ◌<◌, ◌≤◌, List, ◌+ℤ◌, length, arith}
use Rattle.std.specs.Prelude.{All, FitsSigned, unsigned_abs}
use Rattle.std.specs.Int.{w128}
use mir.Val.{of_z, to_z}
use Rattle.bp_theory.specs.Sums.{dot}
use Rattle.bp_theory.specs.Program.{IsWithin, IsInside}
use Rattle.bp_theory.proofs.ZipLaws.{AllZip-length}
use Rattle.pricing_problem.specs.Form.{cost_size}
use Rattle.pricing_problem.proofs.Passed.{passed}
use Rattle.knapsack_table.specs.declared.items.Item.{Item}
use Rattle.knapsack_table.specs.Loads.{items_of, point_of, none_of}
use Rattle.knapsack_table.specs.Rooms.{room_for, form_room, count_of}
use Rattle.knapsack_table.specs.Tables.{full_load}
use Rattle.knapsack_table.specs.Choices.{IsLeastLoad, IsPicked}
use Rattle.knapsack_table.proofs.StepLaws.{room_within}
use Rattle.knapsack_table.proofs.PriceLaws.{IsTabled}
use Rattle.knapsack_table.proofs.FormLaws.{coefs_many, shorts, narrow, anchors_inside, size_small, zone_many, items_many, heavy, small, cheap, full, reach_fits, room_fits, rows_fit, tabled, answer_none, answer_some, total_fits, least_passed}
use Rattle.knapsack_table.proofs.price.price_table.Goals as goal

pub set_items-requires-clause-coefs : goal.set_items-requires-clause-coefs
set_items-requires-clause-coefs c =
    ap length c.deref.ensures.value ∙ coefs_many c.args.form.now c.args.zone.now c.args.costs.now c.requires.priceable

pub set_items-requires-clause-short : goal.set_items-requires-clause-short
set_items-requires-clause-short c =
    shorts c.args.form.now c.args.zone.now c.args.costs.now c.requires.priceable

pub set_items-requires-clause-narrow : goal.set_items-requires-clause-narrow
set_items-requires-clause-narrow c =
    subst (λ as'. All (λ a. unsigned_abs a < 2 ^ 62) as') (sym c.deref.ensures.value) (narrow c.args.form.now)

pub product_sum-base-requires-clause-each : goal.product_sum-base-requires-clause-each
product_sum-base-requires-clause-each c =
    ap length c.deref-2.ensures.value ∙ coefs_many c.args.form.now c.args.zone.now c.args.costs.now c.requires.priceable

pub product_sum-base-requires-clause-inside : goal.product_sum-base-requires-clause-inside
product_sum-base-requires-clause-inside c =
    subst (IsInside c.args.zone.now) (sym (c.deref-3.ensures.value ∙ (c.set_items.ensures.point ∙ ap (λ as'. point_of as' c.args.zone.now c.args.costs.now (none_of as')) c.deref.ensures.value))) (anchors_inside c.args.form.now c.args.zone.now c.args.costs.now c.requires.priceable)

pub product_sum-base-requires-clause-small : goal.product_sum-base-requires-clause-small
product_sum-base-requires-clause-small c =
    subst (λ as'. cost_size c.args.zone.now as' ≤ 2 ^ 123) (sym c.deref-2.ensures.value) (size_small c.args.form.now c.args.zone.now c.args.costs.now c.requires.priceable)

pub product_sum-base_cost-requires-clause-inside : goal.product_sum-base_cost-requires-clause-inside
product_sum-base_cost-requires-clause-inside c =
    subst (IsInside c.args.zone.now) (sym (c.deref-4.ensures.value ∙ (c.set_items.ensures.point ∙ ap (λ as'. point_of as' c.args.zone.now c.args.costs.now (none_of as')) c.deref.ensures.value))) (anchors_inside c.args.form.now c.args.zone.now c.args.costs.now c.requires.priceable)

pub whole_load-requires : goal.whole_load-requires
whole_load-requires c =
    omega (arith, full c.args.form.now c.args.zone.now c.args.costs.now c.requires.priceable c.deref-5.result.now (c.deref-5.ensures.value ∙ (c.set_items.ensures.items ∙ ap (λ as'. items_of as' c.args.zone.now c.args.costs.now) c.deref.ensures.value)), reach_fits c.args.form.now)

pub pick-requires-clause-point : goal.pick-requires-clause-point
pick-requires-clause-point c =
    omega (arith, c.set_items.new.point.ok.0, (ap length (c.set_items.ensures.point ∙ ap (λ as'. point_of as' c.args.zone.now c.args.costs.now (none_of as')) c.deref.ensures.value) ∙ sym (AllZip-length IsWithin c.args.zone.now (point_of c.args.form.now.coefs.items c.args.zone.now c.args.costs.now (none_of c.args.form.now.coefs.items)) (anchors_inside c.args.form.now c.args.zone.now c.args.costs.now c.requires.priceable))))

pub pick-requires-clause-coefs : goal.pick-requires-clause-coefs
pick-requires-clause-coefs c =
    ap length c.deref-7.ensures.value ∙ coefs_many c.args.form.now c.args.zone.now c.args.costs.now c.requires.priceable

pub pick-requires-clause-short : goal.pick-requires-clause-short
pick-requires-clause-short c =
    shorts c.args.form.now c.args.zone.now c.args.costs.now c.requires.priceable

pub pick-requires-clause-heavy : goal.pick-requires-clause-heavy
pick-requires-clause-heavy c =
    heavy c.args.form.now c.args.zone.now c.args.costs.now c.deref-6.result.now (c.deref-6.ensures.value ∙ (c.set_items.ensures.items ∙ ap (λ as'. items_of as' c.args.zone.now c.args.costs.now) c.deref.ensures.value))

pub pick-requires-clause-small : goal.pick-requires-clause-small
pick-requires-clause-small c =
    small c.args.form.now c.args.zone.now c.args.costs.now c.requires.priceable c.deref-6.result.now (c.deref-6.ensures.value ∙ (c.set_items.ensures.items ∙ ap (λ as'. items_of as' c.args.zone.now c.args.costs.now) c.deref.ensures.value))

pub pick-requires-clause-cost : goal.pick-requires-clause-cost
pick-requires-clause-cost c =
    cheap c.args.form.now c.args.zone.now c.args.costs.now c.requires.priceable c.deref-6.result.now (c.deref-6.ensures.value ∙ (c.set_items.ensures.items ∙ ap (λ as'. items_of as' c.args.zone.now c.args.costs.now) c.deref.ensures.value))

pub pick-requires-clause-top : goal.pick-requires-clause-top
pick-requires-clause-top c =
    let top_is : c.top_of-top.result ≡ room_for c.index-row.result.now.sense c.index-row.result.now.rhs (to_z w128 (of_z w128 c.product_sum-base.result)) (full_load (items_of c.args.form.now.coefs.items c.args.zone.now c.args.costs.now)) =
    c.top_of-top.ensures ∙ ap (room_for c.index-row.result.now.sense c.index-row.result.now.rhs (to_z w128 (of_z w128 c.product_sum-base.result))) (c.whole_load.ensures ∙ ap full_load (c.deref-5.ensures.value ∙ (c.set_items.ensures.items ∙ ap (λ as'. items_of as' c.args.zone.now c.args.costs.now) c.deref.ensures.value))) in
    omega (arith, top_is, room_within c.index-row.result.now (to_z w128 (of_z w128 c.product_sum-base.result)) (full_load (items_of c.args.form.now.coefs.items c.args.zone.now c.args.costs.now)), full c.args.form.now c.args.zone.now c.args.costs.now c.requires.priceable (items_of c.args.form.now.coefs.items c.args.zone.now c.args.costs.now) refl, reach_fits c.args.form.now)

pub pick-requires-clause-room : goal.pick-requires-clause-room
pick-requires-clause-room c =
    let top_is : c.top_of-top.result ≡ room_for c.index-row.result.now.sense c.index-row.result.now.rhs (to_z w128 (of_z w128 c.product_sum-base.result)) (full_load (items_of c.args.form.now.coefs.items c.args.zone.now c.args.costs.now)) =
    c.top_of-top.ensures ∙ ap (room_for c.index-row.result.now.sense c.index-row.result.now.rhs (to_z w128 (of_z w128 c.product_sum-base.result))) (c.whole_load.ensures ∙ ap full_load (c.deref-5.ensures.value ∙ (c.set_items.ensures.items ∙ ap (λ as'. items_of as' c.args.zone.now c.args.costs.now) c.deref.ensures.value))) in
    let top_fits : c.top_of-top.result ≤ form_room c.args.form.now =
    subst (λ n. n ≤ form_room c.args.form.now) (sym top_is) (room_fits c.args.form.now c.args.zone.now c.args.costs.now c.requires.priceable c.index-row.result.now c.index-row.ensures (items_of c.args.form.now.coefs.items c.args.zone.now c.args.costs.now) refl (to_z w128 (of_z w128 c.product_sum-base.result)) (passed c.product_sum-base.result c.product_sum-base.type_inv ∙ c.product_sum-base.ensures.value ∙ ap (λ as'. dot as' c.deref-3.result.now) c.deref-2.ensures.value ∙ ap (dot c.args.form.now.coefs.items) (c.deref-3.ensures.value ∙ (c.set_items.ensures.point ∙ ap (λ as'. point_of as' c.args.zone.now c.args.costs.now (none_of as')) c.deref.ensures.value)))) in
    subst (λ n. (n + 1) * (c.top_of-top.result + 1) ≤ count_of c.args.cells.now) (sym (zone_many c.args.form.now c.args.zone.now c.args.costs.now c.requires.priceable))
    (rows_fit (length c.args.form.now.spans.items) c.top_of-top.result (form_room c.args.form.now) (count_of c.args.cells.now) top_fits c.requires.cells)

pub plus-requires : goal.plus-requires
plus-requires c =
    let picked = subst (λ (xs : List Item). IsLeastLoad xs c.index-row.result.now (to_z w128 (of_z w128 c.product_sum-base.result)) c.top_of-top.result c.in-Some.ensures.picked.0 c.in-Some.least) (c.deref-6.ensures.value ∙ (c.set_items.ensures.items ∙ ap (λ as'. items_of as' c.args.zone.now c.args.costs.now) c.deref.ensures.value)) c.in-Some.ensures.picked.1 in
    subst (λ z. FitsSigned w128 (to_z w128 (of_z w128 c.product_sum-base_cost.result) +ℤ z)) (sym (least_passed (items_of c.args.form.now.coefs.items c.args.zone.now c.args.costs.now) c.index-row.result.now (to_z w128 (of_z w128 c.product_sum-base.result)) c.top_of-top.result c.in-Some.ensures.picked.0 c.in-Some.least picked (cheap c.args.form.now c.args.zone.now c.args.costs.now c.requires.priceable (items_of c.args.form.now.coefs.items c.args.zone.now c.args.costs.now) refl)))
    (total_fits (items_of c.args.form.now.coefs.items c.args.zone.now c.args.costs.now) c.index-row.result.now (to_z w128 (of_z w128 c.product_sum-base.result)) c.top_of-top.result c.in-Some.ensures.picked.0 (to_z w128 (of_z w128 c.product_sum-base_cost.result)) c.in-Some.least
    picked
    (cheap c.args.form.now c.args.zone.now c.args.costs.now c.requires.priceable (items_of c.args.form.now.coefs.items c.args.zone.now c.args.costs.now) refl)
    (subst (λ z. unsigned_abs z ≤ 2 ^ 123) (sym (passed c.product_sum-base_cost.result c.product_sum-base_cost.type_inv)) c.product_sum-base_cost.ensures.small))

pub returns-in-Some-clause-room : goal.returns-in-Some-clause-room
returns-in-Some-clause-room c = record {
  items = ap length (c.set_items.ensures.items ∙ ap (λ as'. items_of as' c.args.zone.now c.args.costs.now) c.deref.ensures.value) ∙ items_many c.args.form.now c.args.zone.now c.args.costs.now c.requires.priceable (items_of c.args.form.now.coefs.items c.args.zone.now c.args.costs.now) refl ∙ zone_many c.args.form.now c.args.zone.now c.args.costs.now c.requires.priceable;
  point = omega (arith, c.in-Some.ensures.point, c.pick.new.point.ok.0, zone_many c.args.form.now c.args.zone.now c.args.costs.now c.requires.priceable);
}

pub returns-in-Some-clause-answer : goal.returns-in-Some-clause-answer
returns-in-Some-clause-answer c =
    let top_is : c.top_of-top.result ≡ room_for c.index-row.result.now.sense c.index-row.result.now.rhs (to_z w128 (of_z w128 c.product_sum-base.result)) (full_load (items_of c.args.form.now.coefs.items c.args.zone.now c.args.costs.now)) =
    c.top_of-top.ensures ∙ ap (room_for c.index-row.result.now.sense c.index-row.result.now.rhs (to_z w128 (of_z w128 c.product_sum-base.result))) (c.whole_load.ensures ∙ ap full_load (c.deref-5.ensures.value ∙ (c.set_items.ensures.items ∙ ap (λ as'. items_of as' c.args.zone.now c.args.costs.now) c.deref.ensures.value))) in
    let table : IsTabled c.index-row.result.now c.args.form.now.spans.items c.args.zone.now c.args.costs.now (to_z w128 (of_z w128 c.product_sum-base.result)) c.top_of-top.result =
    tabled c.args.form.now c.args.zone.now c.args.costs.now c.requires.priceable c.index-row.result.now c.index-row.ensures (items_of c.args.form.now.coefs.items c.args.zone.now c.args.costs.now) refl (to_z w128 (of_z w128 c.product_sum-base.result)) c.top_of-top.result (passed c.product_sum-base.result c.product_sum-base.type_inv ∙ c.product_sum-base.ensures.value ∙ ap (λ as'. dot as' c.deref-3.result.now) c.deref-2.ensures.value ∙ ap (dot c.args.form.now.coefs.items) (c.deref-3.ensures.value ∙ (c.set_items.ensures.point ∙ ap (λ as'. point_of as' c.args.zone.now c.args.costs.now (none_of as')) c.deref.ensures.value))) top_is in
    let picked : IsPicked (items_of c.args.form.now.coefs.items c.args.zone.now c.args.costs.now) c.index-row.result.now (to_z w128 (of_z w128 c.product_sum-base.result)) c.top_of-top.result c.args.form.now.coefs.items c.args.zone.now c.args.costs.now c.pick.new.point.items c.in-Some.least = (
      c.in-Some.ensures.picked.0,
      subst (λ (xs : List Item). IsLeastLoad xs c.index-row.result.now (to_z w128 (of_z w128 c.product_sum-base.result)) c.top_of-top.result c.in-Some.ensures.picked.0 c.in-Some.least) (c.deref-6.ensures.value ∙ (c.set_items.ensures.items ∙ ap (λ as'. items_of as' c.args.zone.now c.args.costs.now) c.deref.ensures.value)) c.in-Some.ensures.picked.1,
      c.in-Some.ensures.picked.2 ∙ ap (λ as'. point_of as' c.args.zone.now c.args.costs.now c.in-Some.ensures.picked.0) c.deref-7.ensures.value,
    ) in
    answer_some c.args.form.now c.args.zone.now c.args.costs.now c.index-row.result.now c.index-row.ensures (items_of c.args.form.now.coefs.items c.args.zone.now c.args.costs.now) refl (to_z w128 (of_z w128 c.product_sum-base.result)) c.top_of-top.result c.in-Some.least
    (to_z w128 (of_z w128 c.plus.result)) (to_z w128 (of_z w128 c.product_sum-base_cost.result)) c.pick.new.point.items table picked
    (passed c.plus.result c.plus.type_inv ∙ c.plus.ensures ∙ ap (λ z. to_z w128 (of_z w128 c.product_sum-base_cost.result) +ℤ z) (least_passed (items_of c.args.form.now.coefs.items c.args.zone.now c.args.costs.now) c.index-row.result.now (to_z w128 (of_z w128 c.product_sum-base.result)) c.top_of-top.result picked.0 c.in-Some.least picked.1 (cheap c.args.form.now c.args.zone.now c.args.costs.now c.requires.priceable (items_of c.args.form.now.coefs.items c.args.zone.now c.args.costs.now) refl)))
    (passed c.product_sum-base_cost.result c.product_sum-base_cost.type_inv ∙ c.product_sum-base_cost.ensures.value ∙ ap (dot c.args.costs.now) (c.deref-4.ensures.value ∙ (c.set_items.ensures.point ∙ ap (λ as'. point_of as' c.args.zone.now c.args.costs.now (none_of as')) c.deref.ensures.value)))

pub returns-in-None-clause-room : goal.returns-in-None-clause-room
returns-in-None-clause-room c = record {
  items = ap length (c.set_items.ensures.items ∙ ap (λ as'. items_of as' c.args.zone.now c.args.costs.now) c.deref.ensures.value) ∙ items_many c.args.form.now c.args.zone.now c.args.costs.now c.requires.priceable (items_of c.args.form.now.coefs.items c.args.zone.now c.args.costs.now) refl ∙ zone_many c.args.form.now c.args.zone.now c.args.costs.now c.requires.priceable;
  point = omega (arith, c.in-None.ensures.point, c.pick.new.point.ok.0, zone_many c.args.form.now c.args.zone.now c.args.costs.now c.requires.priceable);
}

pub returns-in-None-clause-answer : goal.returns-in-None-clause-answer
returns-in-None-clause-answer c =
    let top_is : c.top_of-top.result ≡ room_for c.index-row.result.now.sense c.index-row.result.now.rhs (to_z w128 (of_z w128 c.product_sum-base.result)) (full_load (items_of c.args.form.now.coefs.items c.args.zone.now c.args.costs.now)) =
    c.top_of-top.ensures ∙ ap (room_for c.index-row.result.now.sense c.index-row.result.now.rhs (to_z w128 (of_z w128 c.product_sum-base.result))) (c.whole_load.ensures ∙ ap full_load (c.deref-5.ensures.value ∙ (c.set_items.ensures.items ∙ ap (λ as'. items_of as' c.args.zone.now c.args.costs.now) c.deref.ensures.value))) in
    let table : IsTabled c.index-row.result.now c.args.form.now.spans.items c.args.zone.now c.args.costs.now (to_z w128 (of_z w128 c.product_sum-base.result)) c.top_of-top.result =
    tabled c.args.form.now c.args.zone.now c.args.costs.now c.requires.priceable c.index-row.result.now c.index-row.ensures (items_of c.args.form.now.coefs.items c.args.zone.now c.args.costs.now) refl (to_z w128 (of_z w128 c.product_sum-base.result)) c.top_of-top.result (passed c.product_sum-base.result c.product_sum-base.type_inv ∙ c.product_sum-base.ensures.value ∙ ap (λ as'. dot as' c.deref-3.result.now) c.deref-2.ensures.value ∙ ap (dot c.args.form.now.coefs.items) (c.deref-3.ensures.value ∙ (c.set_items.ensures.point ∙ ap (λ as'. point_of as' c.args.zone.now c.args.costs.now (none_of as')) c.deref.ensures.value))) top_is in
    answer_none c.args.form.now c.args.zone.now c.args.costs.now c.index-row.result.now c.index-row.ensures c.deref-6.result.now (c.deref-6.ensures.value ∙ (c.set_items.ensures.items ∙ ap (λ as'. items_of as' c.args.zone.now c.args.costs.now) c.deref.ensures.value)) (to_z w128 (of_z w128 c.product_sum-base.result)) c.top_of-top.result table c.in-None.ensures.picked
