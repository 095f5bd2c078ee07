use Rattle.std.proofs.Common.{◌≡◌, ap, ◌∙◌, arith, to_z, of_z}
use Rattle.std.specs.Int.{w64}
use Rattle.std.proofs.lemmas.Int.{ints}
use Rattle.bp_model.specs.Named.{NamedProgram}
use Rattle.cert_line_check.proofs.Lines.{enough_optimal, enough_bound, enough_infeasible}
use Rattle.cert_line_check.proofs.leaf.is_enough.Goals as goal

pub returns-in-Optimal : goal.returns-in-Optimal
returns-in-Optimal c = λ zone proof is_open scale has_bound.
    let less : to_z w64 (of_z w64 c.one_less.result) ≡ c.one_less.result = omega (arith, ints) in
    enough_optimal c.args.b.now.named.program c.args.b.now.blocking c.args.claim.now zone proof is_open c.args.scale c.in-Optimal.value c.one_less.result _ c.args.bound.now
    c.maximises-maximises.result c.is_above.result c.in-Optimal.is (c.maximises-maximises.ensures ∙ ap (λ (n : NamedProgram). n.program.maximises) c.model.ensures.model)
    c.one_less.ensures less scale has_bound c.is_above.ensures

pub returns-in-Infeasible : goal.returns-in-Infeasible
returns-in-Infeasible c = λ zone proof is_open scale has_bound.
    enough_infeasible c.args.b.now.named.program c.args.b.now.blocking c.args.claim.now zone proof is_open c.args.scale c.args.bound.now c.is_positive.result
    c.in-Infeasible.is scale has_bound c.is_positive.ensures

pub returns-in-Bound : goal.returns-in-Bound
returns-in-Bound c = λ zone proof is_open scale has_bound.
    let less : to_z w64 (of_z w64 c.one_less-in-Bound.result) ≡ c.one_less-in-Bound.result = omega (arith, ints) in
    enough_bound c.args.b.now.named.program c.args.b.now.blocking c.args.claim.now zone proof is_open c.args.scale c.in-Bound.value c.one_less-in-Bound.result _ c.args.bound.now
    c.in-Bound.field-1 c.maximises-maximises.result c.is_above-in-Bound.result c.in-Bound.is (c.maximises-maximises.ensures ∙ ap (λ (n : NamedProgram). n.program.maximises) c.model.ensures.model)
    c.one_less-in-Bound.ensures less scale has_bound c.is_above-in-Bound.ensures
