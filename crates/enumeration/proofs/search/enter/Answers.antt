use Rattle.std.proofs.Common.{sym, subst, ◌∙◌, List, get_or, pos, arith}
use Rattle.std.specs.Prelude.{All}
use Rattle.std.proofs.lemmas.List.{get_or_read}
use Rattle.bp_theory.specs.Program.{span_at}
use Rattle.bp_theory.specs.declared.Span.{Span}
use Rattle.enumeration.specs.Reach.{CanMeetRow}
use Rattle.enumeration.specs.Search.{Follows}
use Rattle.enumeration.specs.declared.frame.Frame.TheVariants.{At}
use Rattle.enumeration.proofs.PlaceLaws.{many_narrow}
use Rattle.enumeration.proofs.RelaxLaws.{paid_cost}
use Rattle.enumeration.proofs.LevelLaws.{widened_whole, below_passed, passed_less, first_less, left_written}
use Rattle.enumeration.proofs.TurnLaws.{width_some, below_again, below_first, some_both, none_then, none_always}
use Rattle.enumeration.proofs.search.enter.Goals as goal

pub returns-then-not-is_same-clause-below : goal.returns-then-not-is_same-clause-below
returns-then-not-is_same-clause-below c =
    below_passed c.args.problem.now.form.now.rows.items c.args.problem.now.zone.now c.args.problem.now.costs.now c.args.problem.now.relaxed.now.costs.items c.args.order.now c.args.frames.now.items c.args.dive.now.best c.args.level c.args.dive.now.zone.items
    (omega (arith, c.requires.level, c.requires.frames, c.args.frames.now.ok.0))
    (λ e. c.if-not-is_same.ensures.no (get_or_read c.args.dive.now.zone.items (get_or c.args.order.now c.args.level 0) c.index.result.now
    (omega (arith, c.requires.order c.args.level 0 c.requires.level, many_narrow c.args.problem.now.form.now c.args.problem.now.zone.now c.args.problem.now.costs.now c.args.dive.now c.requires.tracked)) c.index.ensures (record { lo = pos 0; hi = pos 0 }) ∙ e))
    c.requires.below

pub returns-then-not-is_same-clause-less : goal.returns-then-not-is_same-clause-less
returns-then-not-is_same-clause-less c =
    passed_less c.args.problem.now.zone.now c.args.order.now c.args.frames.now.items c.args.level
    (omega (arith, c.requires.level, c.requires.frames, c.args.frames.now.ok.0)) c.requires.level
    (width_some (span_at c.args.problem.now.zone.now (get_or c.args.order.now c.args.level 0)) (c.requires.priceable.in_root.proper (get_or c.args.order.now c.args.level 0) (record { lo = pos 0; hi = pos 0 }) (c.requires.order c.args.level 0 c.requires.level)))

pub place_step-requires-clause-can : goal.place_step-requires-clause-can
place_step-requires-clause-can c =
    subst (λ (zs : List Span). All (CanMeetRow zs) c.args.problem.now.form.now.rows.items)
    (sym (widened_whole c.args.problem.now.zone.now c.args.dive.now.zone.items (get_or c.args.order.now c.args.level 0)
    (sym (get_or_read c.args.dive.now.zone.items (get_or c.args.order.now c.args.level 0) c.index.result.now
    (omega (arith, c.requires.order c.args.level 0 c.requires.level, many_narrow c.args.problem.now.form.now c.args.problem.now.zone.now c.args.problem.now.costs.now c.args.dive.now c.requires.tracked)) c.index.ensures (record { lo = pos 0; hi = pos 0 })) ∙ c.if-not-is_same.ensures.yes))) c.requires.can

pub place_step-requires-clause-follows : goal.place_step-requires-clause-follows
place_step-requires-clause-follows c =
    (subst (Follows c.is_upward-up.result)
    (paid_cost c.args.problem.now.form.now c.args.problem.now.zone.now c.args.problem.now.relaxed.now c.requires.relaxed.priceable (get_or c.args.order.now c.args.level 0) (c.requires.order c.args.level 0 c.requires.level) c.index-2.result.now c.index-2.ensures)
    c.is_upward-up.ensures)

pub place_step-requires-clause-covered : goal.place_step-requires-clause-covered
place_step-requires-clause-covered c y point none = absurd (omega (arith, none))

pub returns-clause-stays : goal.returns-clause-stays
returns-clause-stays c =
    none_then c.place_step.result c.place_step.ensures.whole
    (λ is. below_again c.args.problem.now.form.now.rows.items c.args.problem.now.zone.now c.args.problem.now.costs.now c.args.problem.now.relaxed.now.costs.items c.args.order.now c.args.frames.now.items c.args.dive.now.best c.place_step.new.dive.best c.args.level (At c.is_upward-up.result 0) c.args.dive.now.zone.items c.place_step.new.dive.zone.items
    (is ∙ widened_whole c.args.problem.now.zone.now c.args.dive.now.zone.items (get_or c.args.order.now c.args.level 0)
    (sym (get_or_read c.args.dive.now.zone.items (get_or c.args.order.now c.args.level 0) c.index.result.now
    (omega (arith, c.requires.order c.args.level 0 c.requires.level, many_narrow c.args.problem.now.form.now c.args.problem.now.zone.now c.args.problem.now.costs.now c.args.dive.now c.requires.tracked)) c.index.ensures (record { lo = pos 0; hi = pos 0 })) ∙ c.if-not-is_same.ensures.yes))
    c.place_step.ensures.kept.best c.requires.below)

pub returns-clause-left : goal.returns-clause-left
returns-clause-left c =
    none_always c.place_step.result
    (left_written c.args.problem.now.zone.now c.args.order.now c.args.frames.now.items c.args.level c.args.level (At c.is_upward-up.result 0) (omega arith))

pub returns-clause-below : goal.returns-clause-below
returns-clause-below c =
    some_both c.place_step.result c.place_step.ensures.step c.place_step.ensures.zone
    (λ alive there is. below_first c.args.problem.now.form.now.rows.items c.args.problem.now.zone.now c.args.problem.now.costs.now c.args.problem.now.relaxed.now.costs.items c.args.order.now c.args.frames.now.items c.args.dive.now.best c.place_step.new.dive.best c.args.level c.args.dive.now.zone.items c.place_step.new.dive.zone.items c.is_upward-up.result
    (omega (arith, c.requires.level, c.requires.frames, c.args.frames.now.ok.0)) (c.requires.order c.args.level 0 c.requires.level)
    (omega (arith, c.requires.order c.args.level 0 c.requires.level, many_narrow c.args.problem.now.form.now c.args.problem.now.zone.now c.args.problem.now.costs.now c.args.dive.now c.requires.tracked))
    (sym (get_or_read c.args.dive.now.zone.items (get_or c.args.order.now c.args.level 0) c.index.result.now
    (omega (arith, c.requires.order c.args.level 0 c.requires.level, many_narrow c.args.problem.now.form.now c.args.problem.now.zone.now c.args.problem.now.costs.now c.args.dive.now c.requires.tracked)) c.index.ensures (record { lo = pos 0; hi = pos 0 })) ∙ c.if-not-is_same.ensures.yes)
    there is c.place_step.ensures.kept.best c.requires.can
    (subst (Follows c.is_upward-up.result)
    (paid_cost c.args.problem.now.form.now c.args.problem.now.zone.now c.args.problem.now.relaxed.now c.requires.relaxed.priceable (get_or c.args.order.now c.args.level 0) (c.requires.order c.args.level 0 c.requires.level) c.index-2.result.now c.index-2.ensures)
    c.is_upward-up.ensures)
    c.requires.below)

pub returns-clause-less : goal.returns-clause-less
returns-clause-less c =
    some_both c.place_step.result c.place_step.ensures.step c.place_step.ensures.zone
    (λ alive there is. first_less c.args.problem.now.zone.now c.args.order.now c.args.frames.now.items c.args.level c.is_upward-up.result
    (omega (arith, c.requires.level, c.requires.frames, c.args.frames.now.ok.0)) c.requires.level there)
