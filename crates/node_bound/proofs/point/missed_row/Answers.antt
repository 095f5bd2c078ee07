use Rattle.std.proofs.Common.{sym, subst}
use Rattle.bp_theory.specs.Program.{IsInside}
use Rattle.bp_model.specs.Named.{NamedProgram}
use Rattle.bp_model.specs.Miss.{IsFirstMiss}
use Rattle.node_bound.proofs.Leaves.{no_length, no_bound}
use Rattle.node_bound.proofs.point.missed_row.Goals as goal

pub returns-in-Some-Length : goal.returns-in-Some-Length
returns-in-Some-Length c =
    absurd (no_length c.model.result.now.program c.args.point.now
    (subst (λ (m : NamedProgram). IsInside m.program.spans c.args.point.now) (sym c.model.ensures.model) c.requires)
    (subst (IsFirstMiss c.model.result.now.program c.args.point.now) c.in-Some-Length.field-0-is c.in-Some-Length.ensures.miss))

pub returns-in-Some-Bound : goal.returns-in-Some-Bound
returns-in-Some-Bound c =
    absurd (no_bound c.model.result.now.program c.args.point.now c.in-Some-Bound.field-0-0
    (subst (λ (m : NamedProgram). IsInside m.program.spans c.args.point.now) (sym c.model.ensures.model) c.requires)
    (subst (IsFirstMiss c.model.result.now.program c.args.point.now) c.in-Some-Bound.field-0-is c.in-Some-Bound.ensures.miss))
