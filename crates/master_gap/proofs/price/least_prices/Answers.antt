use Rattle.std.proofs.Common.{sym, ap, ◌∙◌, ◌≡◌, ◌<◌, ℕ, pos, get_or, set, length, arith}
use Rattle.std.specs.Int.{w128, int_wrap, int_min}
use Rattle.std.proofs.lemmas.List.{take_all, get_or_read}
use Rattle.search_laws.specs.declared.Column.{Column}
use Rattle.search_laws.specs.Master.{column_price}
use mir.Val.{to_z, of_z}
use Rattle.master_gap.proofs.Steps.{passed}
use Rattle.master_gap.proofs.Ends.{fits}
use Rattle.master_gap.proofs.LeastLaws.{least_so_far, least_step, least_is_convex}
use Rattle.master_gap.proofs.price.least_prices.Goals as goal

pub loop-col-preserved : goal.loop-col-preserved
loop-col-preserved c =
    let cols = c.args.cols.now in
    let mults = c.args.mults.now in
    let j = c.loop-col.col-index in
    let col : Column = c.col-item.result in
    let least = c.loop-col.least.items in
    let there : (get_or cols j col).class < length least =
    omega (arith, c.requires.known j col c.loop-col-test.true, c.loop-col.invariant.many, c.loop-col.least.ok.0) in
    let same : (get_or cols j col).class ≡ col.class = ap (λ (k : Column). k.class) (sym c.col-item.is) in
    let there' : col.class < length least = omega (arith, there, same) in
    let price : to_z w128 (of_z w128 c.price-more.result) ≡ column_price mults (get_or cols j col) =
    passed c.price-more.result c.price-more.type_inv
    ∙ c.price-more.ensures
    ∙ ap (λ (k : Column). int_wrap w128 (column_price mults k)) c.col-item.is
    ∙ fits (column_price mults (get_or cols j col)) (omega (arith, c.requires.small j col c.loop-col-test.true)) in
    let value : to_z w128 (of_z w128 c.lesser.result) ≡ int_min (get_or least (get_or cols j col).class (pos 0)) (column_price mults (get_or cols j col)) =
    passed c.lesser.result c.lesser.type_inv
    ∙ c.lesser.ensures
    ∙ ap (λ z. int_min z (to_z w128 (of_z w128 c.price-more.result))) (get_or_read least col.class c.index.result.now there' c.index.ensures (pos 0))
    ∙ ap (λ k. int_min (get_or least k (pos 0)) (to_z w128 (of_z w128 c.price-more.result))) (sym same)
    ∙ ap (λ z. int_min (get_or least (get_or cols j col).class (pos 0)) z) price in
    record {
      many = c.loop-col.invariant.many;
      least = λ k l.
          ap (λ (i : ℕ). get_or (set least i (to_z w128 (of_z w128 c.lesser.result))) k (pos 0)) (sym same)
          ∙ least_step mults cols least j col (to_z w128 (of_z w128 c.lesser.result)) k c.loop-col-test.true there value (c.loop-col.invariant.least k l);
    }

pub returns : goal.returns
returns c =
    let cols = c.args.cols.now in
    let mults = c.args.mults.now in
    record {
      each = omega (arith, c.loop-col.invariant.many, c.loop-col.least.ok.0);
      least = λ k l.
          least_is_convex mults cols k (get_or c.loop-col.least.items k (pos 0))
          (c.loop-col.invariant.least k l ∙ ap (λ cs. least_so_far mults cs k) (take_all c.loop-col.col-index cols c.loop-col-test.false))
          (c.requires.each k l) c.requires.small;
    }
