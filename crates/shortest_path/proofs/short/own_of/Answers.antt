use Rattle.std.proofs.Common.{◌∙◌, refl, sym, subst}
use Rattle.std.proofs.Math.IntN.{◌*ℤ◌}
use Rattle.std.specs.Prelude.{FitsSigned}
use Rattle.std.specs.Int.{w64}
use Rattle.pricing_problem.proofs.Passed.{passed_short}
use Rattle.shortest_path.proofs.ShortLaws.{short_product, short_fits}
use Rattle.shortest_path.proofs.short.own_of.Goals as goal

pub product-requires : goal.product-requires
product-requires c =
    subst (λ z. FitsSigned w64 (c.args.cost.now *ℤ z)) (sym (passed_short c.cheapest-number.result c.cheapest-number.type_inv ∙ c.cheapest-number.ensures))
    (short_fits _ (short_product c.args.label.now c.args.span.now c.args.cost.now (c.if-not-is_open.ensures.0 refl) c.requires))
