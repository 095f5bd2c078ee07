use Rattle.std.proofs.Common.{◌≡◌, ◌∙◌, arith, to_z, of_z}
use Rattle.std.specs.Prelude.{ℤ}
use Rattle.std.specs.Int.{w128}
use Rattle.std.proofs.lemmas.Int.{ints}
use Rattle.reduced_costs.proofs.Steps.{least_is, least_fits, var_there}
use Rattle.reduced_costs.proofs.boxes.copy_least.Goals as goal

pub span-span-requires : goal.span-span-requires
span-span-requires c =
    var_there c.args.zone.now c.args.block.now.block.copies c.args.place c.vars.result.now c.requires.there c.vars.ensures c.requires.block.there

pub least_end-requires : goal.least_end-requires
least_end-requires c =
    let cost : ℤ = to_z w128 (of_z w128 c.reduced_cost-cost.result) in
    let same : cost ≡ c.reduced_cost-cost.result = omega (arith, ints) in
    least_fits c.args.zone.now c.args.proof.now c.args.block.now.block c.args.place c.vars.result.now c.span-span.result cost c.requires.there
    c.vars.ensures c.span-span.ensures (λ d. same ∙ c.reduced_cost-cost.ensures d) c.requires.block.size

pub returns : goal.returns
returns c =
    let cost : ℤ = to_z w128 (of_z w128 c.reduced_cost-cost.result) in
    let same : cost ≡ c.reduced_cost-cost.result = omega (arith, ints) in
    let out : to_z w128 (of_z w128 c.least_end.result) ≡ c.least_end.result = omega (arith, ints) in
    least_is c.args.zone.now c.args.proof.now c.args.block.now.block.copies c.args.place c.vars.result.now c.span-span.result cost _ c.requires.there
    c.vars.ensures c.span-span.ensures (λ d. same ∙ c.reduced_cost-cost.ensures d) (out ∙ c.least_end.ensures)
