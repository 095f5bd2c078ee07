-- A sign more in an objective, a row or a bound is one in the text.
use Rattle.std.proofs.Common.{refl, ap}
use Rattle.lp_parser.specs.declared.stage.Stage.TheVariants as stages
use Rattle.lp_parser.specs.StageIn.{stage_in, front_in, within_in, objective_stage_in, row_stage_in, bound_stage_in}
use Rattle.lp_parser.proofs.Signs.{in_stage}
use Rattle.lp_parser.proofs.sign.add_sign.Goals as goal

pub returns-in-Objective-clause-added : goal.returns-in-Objective-clause-added
returns-in-Objective-clause-added c = λ text.
    in_stage text c.args.stage.now (stages.Objective c.in-Objective.field-0 c.add_objective_sign.new.stage) (objective_stage_in text c.in-Objective.field-0 c.in-Objective.stage)
    (objective_stage_in text c.in-Objective.field-0 c.add_objective_sign.new.stage) c.args.sign c.add_objective_sign.result (ap (stage_in text) c.in-Objective.is) refl
    (c.add_objective_sign.ensures.added text c.in-Objective.field-0)

pub returns-in-Row-clause-added : goal.returns-in-Row-clause-added
returns-in-Row-clause-added c = λ text.
    in_stage text c.args.stage.now (stages.Row c.in-Row.field-0 c.add_row_sign.new.stage) (row_stage_in text (front_in text c.in-Row.field-0) c.in-Row.stage)
    (row_stage_in text (front_in text c.in-Row.field-0) c.add_row_sign.new.stage) c.args.sign c.add_row_sign.result (ap (stage_in text) c.in-Row.is) refl
    (c.add_row_sign.ensures.added text (front_in text c.in-Row.field-0))

pub returns-in-Bounds-clause-added : goal.returns-in-Bounds-clause-added
returns-in-Bounds-clause-added c = λ text.
    in_stage text c.args.stage.now (stages.Bounds c.in-Bounds.field-0 c.add_bound_sign.new.stage) (bound_stage_in text (within_in text c.in-Bounds.field-0) c.in-Bounds.stage)
    (bound_stage_in text (within_in text c.in-Bounds.field-0) c.add_bound_sign.new.stage) c.args.sign c.add_bound_sign.result (ap (stage_in text) c.in-Bounds.is) refl
    (c.add_bound_sign.ensures.added text (within_in text c.in-Bounds.field-0))
