use Rattle.std.proofs.Common.{◌≡◌, ◌∙◌, ◌<◌, length, arith, to_z, of_z}
use Rattle.std.specs.Int.{w64}
use Rattle.std.proofs.lemmas.Int.{ints}
use Rattle.reduced_costs.proofs.MultLemmas.{multiplier_at, none_between, below_middle, above_middle}
use Rattle.reduced_costs.proofs.costs.multiplier.Goals as goal

pub returns-then-here-row : goal.returns-then-here-row
returns-then-here-row c =
    let same : to_z w64 (of_z w64 c.number.result) ≡ c.number.result = omega (arith, ints) in
    let there : c.within-place.result < length c.args.mults.now = omega (arith, c.within-place.ensures.to, c.loop-from.invariant.1) in
    same ∙ c.number.ensures ∙ multiplier_at c.args.mults.now c.args.row c.within-place.result c.requires there c.if-here-row.true

pub loop-from-preserved-then-here-row-2 : goal.loop-from-preserved-then-here-row-2
loop-from-preserved-then-here-row-2 c =
    let there : c.within-place.result < length c.args.mults.now = omega (arith, c.within-place.ensures.to, c.loop-from.invariant.1) in (
      omega (arith, c.within-place.ensures.to),
      c.loop-from.invariant.1,
      below_middle c.args.mults.now c.args.row c.within-place.result c.requires there c.if-here-row-2.true,
      c.loop-from.invariant.3,
    )

pub loop-from-preserved : goal.loop-from-preserved
loop-from-preserved c =
    let there : c.within-place.result < length c.args.mults.now = omega (arith, c.within-place.ensures.to, c.loop-from.invariant.1) in (
      c.within-place.ensures.from,
      omega (arith, there),
      c.loop-from.invariant.2,
      above_middle c.args.mults.now c.args.row c.within-place.result c.requires there c.if-here-row.false c.if-here-row-2.false,
    )

pub returns : goal.returns
returns c =
    none_between c.args.mults.now c.args.row c.loop-from.from c.loop-from.invariant.2
    (λ k low l. c.loop-from.invariant.3 k (omega (arith, low, c.loop-from-test.false)) l)
