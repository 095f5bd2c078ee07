use Rattle.std.proofs.Common.{◌≡◌, refl, get_or, pos, ◌∙◌, sym, ap, subst, List, length, set, arith}
use Rattle.std.proofs.Math.IntN.{ℤ}
use Rattle.std.specs.Prelude.{Option}
use Rattle.pricing_problem.proofs.Passed.{passed_short}
use Rattle.bp_theory.specs.Program.{span_at}
use Rattle.bp_theory.specs.declared.Span.{Span}
use Rattle.enumeration.specs.Search.{single}
use Rattle.enumeration.specs.Levels.{AreCoveredTo}
use Rattle.enumeration.proofs.PlaceLaws.{many_narrow}
use Rattle.enumeration.proofs.SearchLaws.{short_inside, set_twice}
use Rattle.enumeration.proofs.LevelLaws.{tried_all, tried_over}
use Rattle.enumeration.proofs.steps.place_step.Goals as goal

pub count_of-requires-clause-short : goal.count_of-requires-clause-short
count_of-requires-clause-short c =
    short_inside c.args.problem.now.zone.now c.args.problem.now.form.now.spans.items c.requires.priceable.in_root.inside c.requires.priceable.in_root.proper
    c.args.problem.now.form.now.kept.ends c.args.var c.requires.there

pub value_at-value-requires-clause-short : goal.value_at-value-requires-clause-short
value_at-value-requires-clause-short c =
    short_inside c.args.problem.now.zone.now c.args.problem.now.form.now.spans.items c.requires.priceable.in_root.inside c.requires.priceable.in_root.proper
    c.args.problem.now.form.now.kept.ends c.args.var c.requires.there

pub returns-then-step-count_of-clause-covered : goal.returns-then-step-count_of-clause-covered
returns-then-step-count_of-clause-covered c =
    tried_all c.args.problem.now.form.now.rows.items c.args.problem.now.zone.now c.args.dive.now.zone.items c.give_back.new.dive.zone.items c.args.problem.now.costs.now
    c.args.dive.now.best c.give_back.new.dive.best c.args.var c.args.step c.args.up
    (omega (arith, c.requires.there, many_narrow c.args.problem.now.form.now c.args.problem.now.zone.now c.args.problem.now.costs.now c.args.dive.now c.requires.tracked))
    c.give_back.ensures.tracked.inside c.give_back.ensures.zone c.give_back.ensures.kept.best
    (omega (arith, c.if-step-count_of.true, c.count_of.ensures)) c.requires.covered

pub returns-then-is_over-clause-whole : goal.returns-then-is_over-clause-whole
returns-then-is_over-clause-whole c =
    c.give_back-then-is_over.ensures.zone
    ∙ ap (λ (zs : List Span). set zs c.args.var (span_at c.args.problem.now.zone.now c.args.var)) c.place_value-goes_on.ensures.zone
    ∙ set_twice c.args.dive.now.zone.items c.args.var _ (span_at c.args.problem.now.zone.now c.args.var)

pub returns-then-is_over-clause-covered : goal.returns-then-is_over-clause-covered
returns-then-is_over-clause-covered c =
    let many : length c.args.dive.now.zone.items ≡ length c.args.problem.now.zone.now =
    many_narrow c.args.problem.now.form.now c.args.problem.now.zone.now c.args.problem.now.costs.now c.args.dive.now c.requires.tracked in
    tried_over c.args.problem.now.form.now.rows.items c.args.problem.now.zone.now c.args.dive.now.zone.items c.give_back-then-is_over.new.dive.zone.items c.args.problem.now.costs.now
    c.args.problem.now.relaxed.now c.place_value-goes_on.new.dive c.give_back-then-is_over.new.dive.best c.args.var c.args.step c.args.up c.value_at-value.result
    (get_or c.args.problem.now.costs.now c.args.var (pos 0))
    (omega (arith, c.requires.there, many))
    (c.requires.priceable.each ∙ sym many)
    (c.requires.relaxed.priceable.each ∙ sym many)
    c.give_back-then-is_over.ensures.tracked.inside
    (c.give_back-then-is_over.ensures.zone
    ∙ ap (λ (zs : List Span). set zs c.args.var (span_at c.args.problem.now.zone.now c.args.var)) c.place_value-goes_on.ensures.zone
    ∙ set_twice c.args.dive.now.zone.items c.args.var _ (span_at c.args.problem.now.zone.now c.args.var))
    c.give_back-then-is_over.ensures.kept.best
    c.value_at-value.ensures.value c.requires.follows c.requires.relaxed.below
    (subst (λ (best : Option ℤ). AreCoveredTo c.args.problem.now.form.now.rows.items (set c.args.dive.now.zone.items c.args.var (span_at c.args.problem.now.zone.now c.args.var)) c.args.problem.now.costs.now c.args.up (span_at c.args.problem.now.zone.now c.args.var) c.args.var c.args.step best)
    (sym c.place_value-goes_on.ensures.kept.best) c.requires.covered)
    (c.place_value-goes_on.ensures.zone
    ∙ ap (λ z. set c.args.dive.now.zone.items c.args.var (single z)) (passed_short c.value_at-value.result c.value_at-value.type_inv))
    c.place_value-goes_on.ensures.tracked c.place_value-goes_on.ensures.paid refl c.if-is_over.ensures
