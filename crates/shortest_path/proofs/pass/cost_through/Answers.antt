use Rattle.std.proofs.Common.{◌≡◌, ◌∙◌, refl, sym, ap, subst, ◌^◌, ◌≤◌, arith}
use Rattle.std.proofs.Math.IntN.{pos, ◌+ℤ◌, ◌*ℤ◌}
use Rattle.std.specs.Prelude.{FitsSigned, unsigned_abs, ◌<ℤ◌}
use Rattle.std.specs.Int.{w128}
use Rattle.std.proofs.lemmas.List.{get_or_read}
use mir.Val.{of_z, to_z}
use Rattle.pricing_problem.proofs.Passed.{passed, passed_short}
use Rattle.shortest_path.specs.Best.{no_way, cell_at, chosen_number}
use Rattle.shortest_path.proofs.BestLaws.{own_small, own_fits, total_fits, total_small}
use Rattle.shortest_path.proofs.pass.cost_through.Goals as goal

pub times-own-requires : goal.times-own-requires
times-own-requires c =
    subst (λ z. FitsSigned w128 (c.args.cost.now *ℤ z)) (sym (passed_short c.number_of-number.result c.number_of-number.type_inv ∙ c.number_of-number.ensures))
    (own_fits _ (own_small c.args.arc.now.label c.args.span.now c.args.cost.now (c.if-not-is_open.ensures.0 refl) c.requires.cost))

pub plus-requires : goal.plus-requires
plus-requires c =
    let there = c.requires.there in
    let read : c.index-rest.result.now ≡ cell_at c.args.next.now.items c.args.arc.now.to =
    get_or_read c.args.next.now.items c.args.arc.now.to c.index-rest.result.now (omega (arith, there, c.args.next.now.ok.0)) c.index-rest.ensures (pos 0) in
    let way : c.index-rest.result.now <ℤ no_way = c.if-not-has_way.ensures.0 refl in
    let own : to_z w128 (of_z w128 c.times-own.result) ≡ c.args.cost.now *ℤ chosen_number c.args.arc.now.label c.args.span.now c.args.cost.now =
    passed c.times-own.result c.times-own.type_inv ∙ c.times-own.ensures ∙ ap (λ z. c.args.cost.now *ℤ z) (passed_short c.number_of-number.result c.number_of-number.type_inv ∙ c.number_of-number.ensures) in
    total_fits c.index-rest.result.now (to_z w128 (of_z w128 c.times-own.result))
    (subst (λ z. unsigned_abs z ≤ 2 ^ 123) (sym read) (c.requires.bounded c.args.arc.now.to (omega (arith, there, c.args.next.now.ok.0)) (subst (λ z. z <ℤ no_way) read way)))
    (subst (λ z. unsigned_abs z ≤ 2 ^ 123) (sym own) (own_small c.args.arc.now.label c.args.span.now c.args.cost.now (c.if-not-is_open.ensures.0 refl) c.requires.cost))

pub returns : goal.returns
returns c =
    let there = c.requires.there in
    let read : c.index-rest.result.now ≡ cell_at c.args.next.now.items c.args.arc.now.to =
    get_or_read c.args.next.now.items c.args.arc.now.to c.index-rest.result.now (omega (arith, there, c.args.next.now.ok.0)) c.index-rest.ensures (pos 0) in
    let way : cell_at c.args.next.now.items c.args.arc.now.to <ℤ no_way =
    subst (λ z. z <ℤ no_way) read (c.if-not-has_way.ensures.0 refl) in
    let own : to_z w128 (of_z w128 c.times-own.result) ≡ c.args.cost.now *ℤ chosen_number c.args.arc.now.label c.args.span.now c.args.cost.now =
    passed c.times-own.result c.times-own.type_inv ∙ c.times-own.ensures ∙ ap (λ z. c.args.cost.now *ℤ z) (passed_short c.number_of-number.result c.number_of-number.type_inv ∙ c.number_of-number.ensures) in
    let total : to_z w128 (of_z w128 c.plus.result)
    ≡ cell_at c.args.next.now.items c.args.arc.now.to +ℤ c.args.cost.now *ℤ chosen_number c.args.arc.now.label c.args.span.now c.args.cost.now =
    passed c.plus.result c.plus.type_inv ∙ c.plus.ensures ∙ ap (λ z. z +ℤ to_z w128 (of_z w128 c.times-own.result)) read ∙ ap (λ z. cell_at c.args.next.now.items c.args.arc.now.to +ℤ z) own in
    record {
      usable = record { meets = c.if-not-is_open.ensures.0 refl; goes_on = way };
      value = total;
      small = total_small (cell_at c.args.next.now.items c.args.arc.now.to) (c.args.cost.now *ℤ chosen_number c.args.arc.now.label c.args.span.now c.args.cost.now) _ total
          (c.requires.bounded c.args.arc.now.to (omega (arith, there, c.args.next.now.ok.0)) way)
          (own_small c.args.arc.now.label c.args.span.now c.args.cost.now (c.if-not-is_open.ensures.0 refl) c.requires.cost);
    }
