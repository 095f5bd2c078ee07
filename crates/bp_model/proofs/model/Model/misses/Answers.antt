use Rattle.std.proofs.Common.{◌≡◌, ◌∙◌, List, length, sym, subst, ap, arith, All}
use Rattle.bp_theory.specs.Program.{IsFeasible, IsInside}
use Rattle.bp_theory.specs.declared.Span.{Span}
use Rattle.bp_theory.specs.declared.Row.{Row}
use Rattle.bp_model.specs.Named.{NamedProgram}
use Rattle.bp_model.specs.Miss.{CanSum, IsFirstMiss, IsFirstOutside, IsFirstMissed}
use Rattle.bp_model.specs.declared.points.Miss.TheVariants.{Length, Bound, Row as Missed}
use Rattle.bp_model.proofs.PointLemmas.{miss_is_infeasible, rows_can_sum}
use Rattle.bp_model.proofs.model.Model.misses.Goals as goal

pub returns-then-point-len-clause-feasible : goal.returns-then-point-len-clause-feasible
returns-then-point-len-clause-feasible c =
    let wrong : IsFirstMiss c.args.self.now.program c.args.point.now Length =
    subst (λ (m : NamedProgram). IsFirstMiss m.program c.args.point.now Length) c.self.view_is
    (λ e. c.if-point-len.true (e ∙ sym c.len.ensures)) in
    ((λ h. absurd (cc)), λ f. absurd (miss_is_infeasible c.args.self.now.program c.args.point.now Length wrong f))

pub returns-in-Some-clause-feasible : goal.returns-in-Some-clause-feasible
returns-in-Some-clause-feasible c =
    let wrong : IsFirstMiss c.args.self.now.program c.args.point.now (Bound c.in-Some.var) =
    subst (λ (m : NamedProgram). IsFirstMiss m.program c.args.point.now (Bound c.in-Some.var)) c.self.view_is
    (c.if-point-len.false ∙ c.len.ensures, subst (λ (spans : List Span). IsFirstOutside spans c.args.point.now c.in-Some.var) c.as_slice.ensures c.in-Some.ensures) in
    ((λ h. absurd (cc)), λ f. absurd (miss_is_infeasible c.args.self.now.program c.args.point.now (Bound c.in-Some.var) wrong f))

pub first_missed-requires-clause-sums : goal.first_missed-requires-clause-sums
first_missed-requires-clause-sums c =
    let inside = subst (λ (spans : List Span). IsInside spans c.args.point.now) c.as_slice.ensures c.in_default.ensures in
    subst (λ (rows : List Row). All (λ row. CanSum c.args.point.now row.terms) rows) (sym c.as_slice-2.ensures)
    (rows_can_sum _ c.args.point.now c.self.invariant inside)

pub returns-in-Some-first_missed-clause-feasible :
    goal.returns-in-Some-first_missed-clause-feasible
returns-in-Some-first_missed-clause-feasible c =
    let inside = subst (λ (spans : List Span). IsInside spans c.args.point.now) c.as_slice.ensures c.in_default.ensures in
    let row = c.in-Some-first_missed.row in
    let wrong : IsFirstMiss c.args.self.now.program c.args.point.now (Missed row) =
    subst (λ (m : NamedProgram). IsFirstMiss m.program c.args.point.now (Missed row)) c.self.view_is
    (inside, subst (λ (rows : List Row). IsFirstMissed rows c.args.point.now row) c.as_slice-2.ensures c.in-Some-first_missed.ensures) in
    ((λ h. absurd (cc)), λ f. absurd (miss_is_infeasible c.args.self.now.program c.args.point.now (Missed c.in-Some-first_missed.row) wrong f))
