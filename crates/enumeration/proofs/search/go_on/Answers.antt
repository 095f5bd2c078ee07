use Rattle.std.proofs.Common.{sym, subst, ◌∙◌, ◌+◌, ◌≤◌, suc, get_or, set, arith}
use Rattle.std.proofs.lemmas.List.{get_or_read}
use Rattle.bp_theory.specs.Program.{span_at}
use Rattle.enumeration.specs.Levels.{left_behind}
use Rattle.enumeration.specs.declared.frame.Frame.TheVariants.{Passed, At}
use Rattle.enumeration.proofs.PlaceLaws.{many_narrow}
use Rattle.enumeration.proofs.SearchLaws.{short_inside}
use Rattle.enumeration.proofs.LevelLaws.{width_short, left_written, leave_no_more, next_no_more}
use Rattle.enumeration.proofs.TurnLaws.{below_at, below_again, below_next, covered_next, some_both, none_then, none_always}
use Rattle.enumeration.proofs.search.go_on.Goals as goal

pub overflow_add-step : goal.overflow_add-step
overflow_add-step c = omega (
  arith,
  (below_at c.args.problem.now.form.now.rows.items c.args.problem.now.zone.now c.args.problem.now.costs.now c.args.problem.now.relaxed.now.costs.items c.args.order.now c.args.frames.now.items c.args.dive.now.best c.args.level c.args.dive.now.zone.items c.in-At.up c.in-At.step
      (sym (get_or_read c.args.frames.now.items c.args.level c.index.result.now (omega (arith, c.requires.level, c.requires.frames, c.args.frames.now.ok.0)) c.index.ensures Passed) ∙ c.in-At.is) c.requires.below).0.there,
  width_short (span_at c.args.problem.now.zone.now (get_or c.args.order.now c.args.level 0))
      (short_inside c.args.problem.now.zone.now c.args.problem.now.form.now.spans.items c.requires.priceable.in_root.inside c.requires.priceable.in_root.proper
      c.args.problem.now.form.now.kept.ends (get_or c.args.order.now c.args.level 0) (c.requires.order c.args.level 0 c.requires.level)),
)

pub overflow_add-step-in-At : goal.overflow_add-step-in-At
overflow_add-step-in-At c = omega (
  arith,
  (below_at c.args.problem.now.form.now.rows.items c.args.problem.now.zone.now c.args.problem.now.costs.now c.args.problem.now.relaxed.now.costs.items c.args.order.now c.args.frames.now.items c.args.dive.now.best c.args.level c.args.dive.now.zone.items c.in-At.up c.in-At.step
      (sym (get_or_read c.args.frames.now.items c.args.level c.index.result.now (omega (arith, c.requires.level, c.requires.frames, c.args.frames.now.ok.0)) c.index.ensures Passed) ∙ c.in-At.is) c.requires.below).0.there,
  width_short (span_at c.args.problem.now.zone.now (get_or c.args.order.now c.args.level 0))
      (short_inside c.args.problem.now.zone.now c.args.problem.now.form.now.spans.items c.requires.priceable.in_root.inside c.requires.priceable.in_root.proper
      c.args.problem.now.form.now.kept.ends (get_or c.args.order.now c.args.level 0) (c.requires.order c.args.level 0 c.requires.level)),
)

pub place_step-requires-clause-covered : goal.place_step-requires-clause-covered
place_step-requires-clause-covered c =
    covered_next c.args.problem.now.form.now.rows.items c.args.problem.now.zone.now c.args.problem.now.costs.now c.args.problem.now.relaxed.now.costs.items c.args.order.now c.args.frames.now.items c.args.dive.now.best c.args.level c.args.dive.now.zone.items c.in-At.up c.in-At.step
    (omega (arith, c.requires.order c.args.level 0 c.requires.level, many_narrow c.args.problem.now.form.now c.args.problem.now.zone.now c.args.problem.now.costs.now c.args.dive.now c.requires.tracked))
    (sym (get_or_read c.args.frames.now.items c.args.level c.index.result.now (omega (arith, c.requires.level, c.requires.frames, c.args.frames.now.ok.0)) c.index.ensures Passed) ∙ c.in-At.is) c.requires.below c.requires.covered

pub returns-in-At-clause-left : goal.returns-in-At-clause-left
returns-in-At-clause-left c =
    none_then c.place_step.result c.place_step.ensures.whole
    (λ is. below_again c.args.problem.now.form.now.rows.items c.args.problem.now.zone.now c.args.problem.now.costs.now c.args.problem.now.relaxed.now.costs.items c.args.order.now c.args.frames.now.items c.args.dive.now.best c.place_step.new.dive.best c.args.level (At c.in-At.up (c.in-At.step + 1))
    (set c.args.dive.now.zone.items (get_or c.args.order.now c.args.level 0) (span_at c.args.problem.now.zone.now (get_or c.args.order.now c.args.level 0))) c.place_step.new.dive.zone.items is c.place_step.ensures.kept.best
    (below_at c.args.problem.now.form.now.rows.items c.args.problem.now.zone.now c.args.problem.now.costs.now c.args.problem.now.relaxed.now.costs.items c.args.order.now c.args.frames.now.items c.args.dive.now.best c.args.level c.args.dive.now.zone.items c.in-At.up c.in-At.step
    (sym (get_or_read c.args.frames.now.items c.args.level c.index.result.now (omega (arith, c.requires.level, c.requires.frames, c.args.frames.now.ok.0)) c.index.ensures Passed) ∙ c.in-At.is) c.requires.below).1)

pub returns-in-At-clause-fewer : goal.returns-in-At-clause-fewer
returns-in-At-clause-fewer c =
    none_always c.place_step.result
    (subst (λ n. n ≤ left_behind c.args.problem.now.zone.now c.args.order.now c.args.frames.now.items (suc c.args.level))
    (sym (left_written c.args.problem.now.zone.now c.args.order.now c.args.frames.now.items c.args.level c.args.level (At c.in-At.up (c.in-At.step + 1)) (omega arith)))
    (leave_no_more c.args.problem.now.zone.now c.args.order.now c.args.frames.now.items c.args.level))

pub returns-in-At-clause-below : goal.returns-in-At-clause-below
returns-in-At-clause-below c =
    some_both c.place_step.result c.place_step.ensures.step c.place_step.ensures.zone
    (λ alive there is. below_next c.args.problem.now.form.now.rows.items c.args.problem.now.zone.now c.args.problem.now.costs.now c.args.problem.now.relaxed.now.costs.items c.args.order.now c.args.frames.now.items c.args.dive.now.best c.place_step.new.dive.best c.args.level c.args.dive.now.zone.items c.place_step.new.dive.zone.items
    c.in-At.up c.in-At.step (omega (arith, c.requires.level, c.requires.frames, c.args.frames.now.ok.0)) (c.requires.order c.args.level 0 c.requires.level)
    (omega (arith, c.requires.order c.args.level 0 c.requires.level, many_narrow c.args.problem.now.form.now c.args.problem.now.zone.now c.args.problem.now.costs.now c.args.dive.now c.requires.tracked))
    (sym (get_or_read c.args.frames.now.items c.args.level c.index.result.now (omega (arith, c.requires.level, c.requires.frames, c.args.frames.now.ok.0)) c.index.ensures Passed) ∙ c.in-At.is) there is c.place_step.ensures.kept.best c.requires.below c.requires.covered)

pub returns-in-At-clause-no_more : goal.returns-in-At-clause-no_more
returns-in-At-clause-no_more c =
    some_both c.place_step.result c.place_step.ensures.step c.place_step.ensures.zone
    (λ alive there is. next_no_more c.args.problem.now.zone.now c.args.order.now c.args.frames.now.items c.args.level c.in-At.up c.in-At.step
    (omega (arith, c.requires.level, c.requires.frames, c.args.frames.now.ok.0))
    (sym (get_or_read c.args.frames.now.items c.args.level c.index.result.now (omega (arith, c.requires.level, c.requires.frames, c.args.frames.now.ok.0)) c.index.ensures Passed) ∙ c.in-At.is) there)
