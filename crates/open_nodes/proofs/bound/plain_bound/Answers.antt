use Rattle.std.proofs.Common.{◌≡◌, ap, ◌∙◌, subst, sym, to_z, of_z, w64, arith}
use Rattle.std.specs.Int.{w128}
use Rattle.std.proofs.lemmas.Int.{ints}
use Rattle.bp_model.specs.Named.{NamedProgram}
use Rattle.bp_theory.specs.Bound.{IsBound, plain_proof}
use Rattle.open_nodes.proofs.PlainBound.{can_total, plain_is_bound}
use Rattle.open_nodes.proofs.bound.plain_bound.Goals as goal

pub better_total-total-requires : goal.better_total-total-requires
better_total-total-requires c =
    let h = can_total c.args.b.now.named (to_z w64 (of_z w64 c.constant.result)) c.costs.result.now c.spans.result.now c.model-model.ensures.formed.kept
    (omega (arith, ints, c.constant.ensures, ap (λ (m : NamedProgram). m.program.constant) c.model-model.ensures.model))
    (c.costs.ensures ∙ ap (λ (m : NamedProgram). m.program.costs) c.model-model.ensures.model)
    (c.spans.ensures.spans ∙ ap (λ (m : NamedProgram). m.program.spans) c.model-model.ensures.model) in
    record { below = h.0; small = h.1 }

pub returns-clause-bound : goal.returns-clause-bound
returns-clause-bound c =
    let same : to_z w64 (of_z w64 c.narrowed.result) ≡ c.narrowed.result = omega (arith, ints, c.narrowed.ensures, c.better_total-total.ensures.small) in
    let wide : to_z w128 (of_z w128 c.better_total-total.result) ≡ c.better_total-total.result = omega (arith, ints, c.better_total-total.ensures.small) in
    subst (IsBound c.args.b.now.blocking c.args.b.now.named.program.spans plain_proof) (sym (same ∙ c.narrowed.ensures ∙ wide))
    (plain_is_bound c.args.b.now c.better_total-total.result (to_z w64 (of_z w64 c.constant.result)) c.costs.result.now c.spans.result.now c.model-model.ensures.formed
    c.better_total-total.ensures.total
    (omega (arith, ints, c.constant.ensures, ap (λ (m : NamedProgram). m.program.constant) c.model-model.ensures.model))
    (c.costs.ensures ∙ ap (λ (m : NamedProgram). m.program.costs) c.model-model.ensures.model)
    (c.spans.ensures.spans ∙ ap (λ (m : NamedProgram). m.program.spans) c.model-model.ensures.model))
