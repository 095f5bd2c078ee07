use Rattle.std.proofs.Common.{◌≡◌, ◌∙◌, ap, arith, to_z, of_z}
use Rattle.std.specs.Int.{w64}
use Rattle.std.proofs.lemmas.Int.{ints}
use Rattle.bp_theory.specs.Trees.{low_part, high_part}
use Rattle.block_program.proofs.BlockLemmas.{part_zones}
use Rattle.block_program.proofs.zone.Zone.split.Goals as goal

pub returns-clause-zones : goal.returns-clause-zones
returns-clause-zones c = λ root zone.
    let same : to_z w64 (of_z w64 c.args.at) ≡ c.args.at = omega (arith, ints) in
    part_zones root c.args.self.now c.into_low-low.result c.into_high-high.result c.args.var c.args.at c.requires
    (c.into_low-low.ensures ∙ ap (λ s. low_part s c.args.var (to_z w64 (of_z w64 c.args.at))) c.in_ok-copy.ensures ∙ ap (λ z. low_part c.args.self.now c.args.var z) same)
    (c.into_high-high.ensures ∙ ap (λ s. high_part s c.args.var (to_z w64 (of_z w64 c.args.at))) c.in_ok-copy-2.ensures ∙ ap (λ z. high_part c.args.self.now c.args.var z) same) zone
