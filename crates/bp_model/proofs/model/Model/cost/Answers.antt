use Rattle.std.proofs.Common.{◌≡◌, ◌<◌, ◌^◌, ◌∙◌, List, sym, subst, ap, arith}
use Rattle.std.specs.Prelude.{ℤ, unsigned_abs, ◌+ℤ◌}
use Rattle.std.proofs.lemmas.Int.{ints}
use Rattle.bp_theory.specs.Program.{IsInside, activity}
use Rattle.bp_theory.specs.declared.Term.{Term}
use Rattle.bp_model.specs.Named.{NamedProgram}
use Rattle.bp_model.specs.Miss.{CanSum}
use Rattle.bp_model.proofs.PointLemmas.{costs_can_sum, cost_small}
use Rattle.bp_model.proofs.model.Model.cost.Goals as goal

pub activity-sum-requires : goal.activity-sum-requires
activity-sum-requires c =
    let inside = subst (λ (m : NamedProgram). IsInside m.program.spans c.args.point.now) (sym c.self.view_is) c.requires in
    subst (λ (terms : List Term). CanSum c.args.point.now terms) (sym c.as_slice.ensures) (costs_can_sum _ c.args.point.now c.self.invariant inside)

pub total-requires : goal.total-requires
total-requires c =
    let inside = subst (λ (m : NamedProgram). IsInside m.program.spans c.args.point.now) (sym c.self.view_is) c.requires in
    let small = cost_small _ c.args.point.now c.self.invariant inside in
    let sum : c.activity-sum.result ≡ activity c.self.inside.costs c.args.point.now =
    c.activity-sum.ensures ∙ ap (λ (terms : List Term). activity terms c.args.point.now) c.as_slice.ensures in
    omega (arith, ints, small, sum)
