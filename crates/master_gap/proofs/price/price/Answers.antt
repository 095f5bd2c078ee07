use Rattle.std.proofs.Common.{ap, ◌∙◌, pos}
use Rattle.std.specs.Prelude.{◌-ℤ◌, ◌*ℤ◌}
use Rattle.std.specs.Int.{w128, int_wrap}
use Rattle.std.proofs.lemmas.Int.{int_wrap-sub_right}
use Rattle.bp_theory.specs.Sums.{sum_of}
use Rattle.search_laws.specs.Master.{multiplier, one_weight}
use mir.Val.{to_z, of_z}
use Rattle.master_gap.proofs.Steps.{passed}
use Rattle.master_gap.proofs.price.price.Goals as goal

pub returns : goal.returns
returns c =
    let cost = pos one_weight *ℤ c.args.col.now.cost in
    let spent = sum_of (λ e. e.1 *ℤ multiplier c.args.mults.now e.0) c.args.col.now.acts in
    passed c.minus.result c.minus.type_inv
    ∙ c.minus.ensures
    ∙ ap (λ z. int_wrap w128 (z -ℤ to_z w128 (of_z w128 c.spent-part.result))) (passed c.in_units-cost.result c.in_units-cost.type_inv ∙ c.in_units-cost.ensures)
    ∙ ap (λ z. int_wrap w128 (cost -ℤ z)) (passed c.spent-part.result c.spent-part.type_inv ∙ c.spent-part.ensures ∙ ap (λ es. int_wrap w128 (sum_of (λ e. e.1 *ℤ multiplier c.args.mults.now e.0) es)) c.as_slice.ensures)
    ∙ int_wrap-sub_right w128 cost spent
