use Rattle.std.proofs.Common.{sym, ap, subst, ◌∙◌, ◌-◌, ◌≤◌, List, arith}
use Rattle.std.proofs.Math.Numerals.{add-one}
use Rattle.bp_theory.specs.declared.Span.{Span}
use Rattle.enumeration.specs.Best.{AllCovered}
use Rattle.enumeration.specs.Levels.{IsBelow, left_behind, left_from}
use Rattle.enumeration.proofs.TurnLaws.{level_above, below_start}
use Rattle.enumeration.proofs.search.next_behind.Goals as goal

pub go_on-requires-clause-below : goal.go_on-requires-clause-below
go_on-requires-clause-below c =
    subst (λ n. IsBelow c.args.problem.now.form.now.rows.items c.args.problem.now.zone.now c.args.problem.now.costs.now c.args.problem.now.relaxed.now.costs.items c.args.order.now c.loop-level.frames.items c.loop-level.dive.best n c.loop-level.dive.zone.items)
    (level_above c.loop-level.level c.loop-level-test.true) c.loop-level.invariant.below

pub returns-in-Some-clause-next : goal.returns-in-Some-clause-next
returns-in-Some-clause-next c = record {
  level = omega (arith, c.loop-level-test.true, c.loop-level.invariant.level, c.requires.from);
  below = subst (λ n. IsBelow c.args.problem.now.form.now.rows.items c.args.problem.now.zone.now c.args.problem.now.costs.now c.args.problem.now.relaxed.now.costs.items c.args.order.now c.go_on.new.frames.items c.go_on.new.dive.best n c.go_on.new.dive.zone.items)
      (sym (add-one (c.loop-level.level - 1))) c.in-Some.ensures.below;
  open_or_not = c.in-Some.ensures.opened;
}

pub returns-in-Some-clause-no_more : goal.returns-in-Some-clause-no_more
returns-in-Some-clause-no_more c =
    subst (λ n. left_from c.args.problem.now.zone.now c.args.order.now c.go_on.new.frames.items n ≤ left_behind c.args.problem.now.zone.now c.args.order.now c.args.frames.now.items c.args.from)
    (sym (add-one (c.loop-level.level - 1)))
    (omega (
      arith,
      c.in-Some.ensures.no_more,
      ap (left_behind c.args.problem.now.zone.now c.args.order.now c.loop-level.frames.items) (level_above c.loop-level.level c.loop-level-test.true),
      c.loop-level.invariant.fewer,
    ))

pub loop-level-preserved : goal.loop-level-preserved
loop-level-preserved c = record {
  level = omega (arith, c.loop-level.invariant.level);
  frames = c.in_default.ensures.frames ∙ c.loop-level.invariant.frames;
  tracked = c.in_default.ensures.tracked;
  paid = c.in_default.ensures.paid;
  kept = record {
    best = c.in_default.ensures.kept.best ∙ c.loop-level.invariant.kept.best;
    point = c.in_default.ensures.kept.point ∙ c.loop-level.invariant.kept.point;
  };
  below = c.in_default.ensures.left;
  covered = c.in_default.ensures.covered;
  fewer = omega (
    arith,
    c.in_default.ensures.fewer,
    ap (left_behind c.args.problem.now.zone.now c.args.order.now c.loop-level.frames.items) (level_above c.loop-level.level c.loop-level-test.true),
    c.loop-level.invariant.fewer,
  );
}

pub returns-clause-zone : goal.returns-clause-zone
returns-clause-zone c =
    below_start c.args.problem.now.form.now.rows.items c.args.problem.now.zone.now c.args.problem.now.costs.now c.args.problem.now.relaxed.now.costs.items c.args.order.now c.loop-level.frames.items c.loop-level.dive.best c.loop-level.level c.loop-level.dive.zone.items c.loop-level-test.false c.loop-level.invariant.below

pub returns-clause-all : goal.returns-clause-all
returns-clause-all c =
    subst (λ (zs : List Span). AllCovered c.args.problem.now.form.now.rows.items zs c.args.problem.now.costs.now c.loop-level.dive.best)
    (below_start c.args.problem.now.form.now.rows.items c.args.problem.now.zone.now c.args.problem.now.costs.now c.args.problem.now.relaxed.now.costs.items c.args.order.now c.loop-level.frames.items c.loop-level.dive.best c.loop-level.level c.loop-level.dive.zone.items c.loop-level-test.false c.loop-level.invariant.below)
    c.loop-level.invariant.covered
