use Rattle.std.proofs.Common.{subst, sym, ◌<◌, ◌^◌}
use Rattle.std.specs.Prelude.{IfSome, unsigned_abs, Option, ℤ}
use Rattle.bp_search.proofs.Running.{turn_of, small_cost, can_grow, runs_on, one_step}
use Rattle.bp_search.specs.Below.{IsAsBeside}
use Rattle.bp_search.specs.Resumed.{Extends}
use Rattle.bp_search.proofs.Beside.{grown_is}
use Rattle.bp_search.proofs.Resuming.{step_extends, step_cheaper}
use Rattle.bp_search.proofs.steps.step.Goals as goal

pub evaluate-requires-clause-turn : goal.evaluate-requires-clause-turn
evaluate-requires-clause-turn c = turn_of c.args.b.now c.args.grove.now c.args.best.now c.args.turn.now c.requires.running c.requires.turn

pub evaluate-requires-clause-best : goal.evaluate-requires-clause-best
evaluate-requires-clause-best c =
    subst (λ (o : Option ℤ). IfSome o (λ z. unsigned_abs z < 2 ^ 62)) (sym c.cost_of.ensures)
    (small_cost c.args.b.now c.args.grove.now c.args.best.now c.blocks-2.ensures.formed c.requires.running)

pub grow-requires-clause-next : goal.grow-requires-clause-next
grow-requires-clause-next c =
    can_grow c.args.b.now c.args.grove.now c.args.best.now c.args.turn.now c.cost_of.result c.in_ok-point.field-0 c.blocks-2.ensures.formed
    c.requires.running c.requires.turn c.in_ok-point.ensures.verdict

pub returns-clause-running : goal.returns-clause-running
returns-clause-running c =
    runs_on c.args.b.now c.args.grove.now c.grow.new.grove c.args.turn.now c.args.best.now c.keep.new.best c.cost_of.result c.in_ok-point.field-0
    c.blocks-2.ensures.formed c.requires.running c.requires.turn c.cost_of.ensures c.in_ok-point.ensures.verdict
    c.in_ok-grow.ensures.tree c.in_ok-grow.ensures.root c.in_ok-grow.ensures.standing c.keep.ensures.point c.keep.ensures.costs

pub returns-clause-one : goal.returns-clause-one
returns-clause-one c = one_step c.args.grove.now c.grow.new.grove c.args.turn.now c.in_ok-point.field-0.next c.requires.turn c.in_ok-grow.ensures.tree

pub returns-clause-beside : goal.returns-clause-beside
returns-clause-beside c =
    subst (IsAsBeside c.args.turn.now.path c.args.grove.now.tree) (sym c.in_ok-grow.ensures.tree)
    (grown_is c.args.grove.now.tree c.args.turn.now.path c.in_ok-point.field-0.next)

pub returns-clause-extends : goal.returns-clause-extends
returns-clause-extends c =
    subst (Extends c.args.grove.now.tree) (sym c.in_ok-grow.ensures.tree)
    (step_extends c.args.b.now c.args.grove.now c.args.turn.now c.cost_of.result c.in_ok-point.field-0 c.requires.turn c.in_ok-point.ensures.verdict)

pub returns-clause-cheaper : goal.returns-clause-cheaper
returns-clause-cheaper c =
    step_cheaper c.args.b.now.named.program c.args.best.now c.keep.new.best c.in_ok-point.field-0.point c.requires.running.costs c.keep.ensures.costs c.keep.ensures.point
