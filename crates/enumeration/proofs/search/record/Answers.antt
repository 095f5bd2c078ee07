use Rattle.std.proofs.Common.{◌≡◌, ◌∙◌, sym, subst, List}
use Rattle.std.proofs.Math.IntN.{ℤ}
use Rattle.std.specs.Prelude.{◌≤ℤ◌}
use Rattle.std.specs.Int.{w128}
use mir.Val.{of_z, to_z}
use Rattle.bp_theory.specs.Bound.{IsPoint}
use Rattle.bp_theory.specs.Sums.{dot}
use Rattle.enumeration.specs.Reach.{lows_of}
use Rattle.enumeration.specs.Best.{IsCovered}
use Rattle.enumeration.proofs.SearchLaws.{written, single_reached}
use Rattle.enumeration.proofs.ReachLaws.{box_least-le}
use Rattle.enumeration.proofs.PlaceLaws.{covered_by_least, least_short, many_narrow}
use Rattle.enumeration.proofs.search.record.Goals as goal

pub returns-then-may_improve-clause-covered : goal.returns-then-may_improve-clause-covered
returns-then-may_improve-clause-covered c =
    subst (λ z. (y : List ℤ) → IsPoint c.args.form.now.rows.items c.args.dive.now.zone.items y → z ≤ℤ dot c.args.costs.now y)
    (sym (written c.args.dive.now.least (least_short c.args.form.now c.args.zone.now c.args.costs.now c.args.dive.now c.requires.priceable c.requires.tracked)
    ∙ c.requires.tracked.least))
    (λ y point. box_least-le c.args.dive.now.zone.items c.args.costs.now y
    (c.requires.priceable.each ∙ sym (many_narrow c.args.form.now c.args.zone.now c.args.costs.now c.args.dive.now c.requires.tracked)) point.inside)

pub returns-then-may_improve-clause-reached : goal.returns-then-may_improve-clause-reached
returns-then-may_improve-clause-reached c =
    let reached : IsPoint c.args.form.now.rows.items c.args.zone.now (lows_of c.args.dive.now.zone.items) × (dot c.args.costs.now (lows_of c.args.dive.now.zone.items) ≡ c.args.dive.now.least) =
    single_reached c.args.form.now.rows.items c.args.dive.now.zone.items c.args.zone.now c.args.costs.now c.args.dive.now.least
    c.requires.tracked.inside c.requires.one c.requires.can c.requires.tracked.least in
    subst (λ (ys : List ℤ). IsPoint c.args.form.now.rows.items c.args.zone.now ys × (dot c.args.costs.now ys ≡ to_z w128 (of_z w128 c.args.dive.now.least)))
    (sym c.copy_lows.ensures) (
      reached.0,
      reached.1
          ∙ sym (written c.args.dive.now.least (least_short c.args.form.now c.args.zone.now c.args.costs.now c.args.dive.now c.requires.priceable c.requires.tracked)),
    )

pub returns-else-may_improve-clause-covered : goal.returns-else-may_improve-clause-covered
returns-else-may_improve-clause-covered c =
    covered_by_least c.args.form.now.rows.items c.args.dive.now.zone.items c.args.costs.now c.args.dive.now.best
    (c.requires.priceable.each ∙ sym (many_narrow c.args.form.now c.args.zone.now c.args.costs.now c.args.dive.now c.requires.tracked))
    (subst (IsCovered c.args.dive.now.best) c.requires.tracked.least c.if-may_improve.ensures.no)
