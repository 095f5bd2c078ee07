use Rattle.std.proofs.Common.{◌≡◌, ◌∙◌, sym, ap, subst, ◌<◌, ◌≤◌, List, length, map, arith, to_z, of_z}
use Rattle.std.specs.Int.{w128}
use Rattle.std.proofs.lemmas.List.{length-set}
use Rattle.bp_theory.specs.Bound.{box_least}
use Rattle.bp_theory.specs.Trees.{IsSubzone, IsProper}
use Rattle.bp_theory.specs.declared.Span.{Span}
use Rattle.bp_theory.specs.declared.Row.{Row}
use Rattle.pricing_problem.proofs.Passed.{passed}
use Rattle.enumeration.specs.Reach.{low_reach, high_reach}
use Rattle.enumeration.proofs.BeginLaws.{map_from_places, zone_itself, read_places, sum_set}
use Rattle.enumeration.proofs.PlaceLaws.{many_spans}
use Rattle.enumeration.proofs.start.begin.Goals as goal

pub returns-clause-tracked : goal.returns-clause-tracked
returns-clause-tracked c =
    let all : length c.args.form.now.rows.items ≤ c.loop-row.row = omega (arith, c.loop-row-test.false, c.args.form.now.rows.ok.0, c.len-row-end.ensures) in
    record {
      inside = subst (λ (zs : List Span). IsSubzone zs c.args.zone.now) (sym c.loop-row.invariant.zone) (zone_itself c.args.zone.now);
      proper = subst IsProper (sym c.loop-row.invariant.zone) c.requires.priceable.in_root.proper;
      lows = subst (λ (zs : List Span). c.loop-row.dive.lows.items ≡ map (λ (row : Row). low_reach zs row.terms) c.args.form.now.rows.items) (sym c.loop-row.invariant.zone)
          (map_from_places (low_reach c.args.zone.now) c.args.form.now.rows.items c.loop-row.dive.lows.items c.loop-row.invariant.many_lows
          (λ i d l. c.loop-row.invariant.lows i d (omega (arith, l, all))));
      highs = subst (λ (zs : List Span). c.loop-row.dive.highs.items ≡ map (λ (row : Row). high_reach zs row.terms) c.args.form.now.rows.items) (sym c.loop-row.invariant.zone)
          (map_from_places (high_reach c.args.zone.now) c.args.form.now.rows.items c.loop-row.dive.highs.items c.loop-row.invariant.many_highs
          (λ i d l. c.loop-row.invariant.highs i d (omega (arith, l, all))));
      least = passed c.least_cost-dive.result c.least_cost-dive.type_inv ∙ c.least_cost-dive.ensures
          ∙ ap (λ (zs : List Span). box_least zs c.args.costs.now) (sym c.loop-row.invariant.zone);
      wide = c.loop-row.invariant.point ∙ sym (many_spans c.args.form.now c.args.zone.now c.args.costs.now c.requires.priceable);
    }

pub copy_spans-requires : goal.copy_spans-requires
copy_spans-requires c =
    omega (arith, c.requires.places.zone, many_spans c.args.form.now c.args.zone.now c.args.costs.now c.requires.priceable, c.args.dive.now.zone.ok.0)

pub sum_of_lows-requires-clause-places : goal.sum_of_lows-requires-clause-places
sum_of_lows-requires-clause-places c =
    read_places c.args.form.now.rows.items (length c.args.form.now.spans.items) (length c.args.zone.now) c.args.form.now.kept.places
    (many_spans c.args.form.now c.args.zone.now c.args.costs.now c.requires.priceable)
    c.loop-row.row (omega (arith, c.loop-row-test.true, c.args.form.now.rows.ok.0, c.len-row-end.ensures))
    c.index.result.now c.index.ensures c.as_slice-terms.result.now c.as_slice-terms.ensures

pub sum_of_highs-requires-clause-places : goal.sum_of_highs-requires-clause-places
sum_of_highs-requires-clause-places c =
    read_places c.args.form.now.rows.items (length c.args.form.now.spans.items) (length c.args.zone.now) c.args.form.now.kept.places
    (many_spans c.args.form.now c.args.zone.now c.args.costs.now c.requires.priceable)
    c.loop-row.row (omega (arith, c.loop-row-test.true, c.args.form.now.rows.ok.0, c.len-row-end.ensures))
    c.index.result.now c.index.ensures c.as_slice-terms.result.now c.as_slice-terms.ensures

pub loop-row-preserved : goal.loop-row-preserved
loop-row-preserved c =
    let there : c.loop-row.row < length c.args.form.now.rows.items = omega (arith, c.loop-row-test.true, c.args.form.now.rows.ok.0, c.len-row-end.ensures) in
    record {
      zone = c.loop-row.invariant.zone;
      point = c.loop-row.invariant.point;
      many_lows = length-set c.loop-row.dive.lows.items c.loop-row.row (to_z w128 (of_z w128 c.sum_of_lows.result)) ∙ c.loop-row.invariant.many_lows;
      many_highs = length-set c.loop-row.dive.highs.items c.loop-row.row (to_z w128 (of_z w128 c.sum_of_highs.result)) ∙ c.loop-row.invariant.many_highs;
      lows = sum_set c.args.form.now.rows.items c.loop-row.dive.lows.items (low_reach c.args.zone.now) c.loop-row.row (to_z w128 (of_z w128 c.sum_of_lows.result)) c.sum_of_lows.result
          c.index.result.now c.as_slice-terms.result.now there c.loop-row.invariant.many_lows c.index.ensures c.as_slice-terms.ensures
          (passed c.sum_of_lows.result c.sum_of_lows.type_inv) c.sum_of_lows.ensures c.loop-row.invariant.lows;
      highs = sum_set c.args.form.now.rows.items c.loop-row.dive.highs.items (high_reach c.args.zone.now) c.loop-row.row (to_z w128 (of_z w128 c.sum_of_highs.result)) c.sum_of_highs.result
          c.index.result.now c.as_slice-terms.result.now there c.loop-row.invariant.many_highs c.index.ensures c.as_slice-terms.ensures
          (passed c.sum_of_highs.result c.sum_of_highs.type_inv) c.sum_of_highs.ensures c.loop-row.invariant.highs;
    }
