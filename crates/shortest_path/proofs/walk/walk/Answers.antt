use Rattle.std.proofs.Common.{◌≡◌, ◌∙◌, sym, ap, subst, ◌+◌, ◌<◌, List, [], arith, length, drop, get_or}
use Rattle.std.proofs.Math.IntN.{ℤ, pos}
use Rattle.std.specs.Int.{w64}
use Rattle.std.proofs.lemmas.List.{get_or_read, ext_get_or}
use mir.Val.{of_z, to_z}
use Rattle.bp_theory.specs.Program.{span_at}
use Rattle.pricing_problem.proofs.Passed.{passed_short}
use Rattle.layer_graph.specs.Graphs.{arc_at}
use Rattle.shortest_path.specs.Best.{pick_at, LeadsOn, way_of, chosen_number}
use Rattle.shortest_path.specs.Pairs.{arcs_with, steps_with, cells_of, IsLinked, pairs_at}
use Rattle.layer_graph.specs.declared.graph.Arc.{Arc}
use Rattle.shortest_path.specs.declared.pairs.Pair.{Pair}
use Rattle.shortest_path.proofs.BestLaws.{chosen_within}
use Rattle.shortest_path.proofs.PairLaws.{length-steps_with}
use Rattle.shortest_path.proofs.PairPassLaws.{linked_below, cells_fit, layer_with}
use Rattle.shortest_path.proofs.WalkLaws.{IsStep, step_of_way, length-way_of, point_more}
use Rattle.shortest_path.proofs.walk.walk.Goals as goal

pub arc_of-arc-requires-clause-place : goal.arc_of-arc-requires-clause-place
arc_of-arc-requires-clause-place c =
    let steps : c.loop-k.k < length c.args.graph.now.steps.items = omega (arith, c.loop-k-test.true, c.requires.steps, c.args.graph.now.steps.ok.0) in
    let rows : c.loop-k.k < length c.args.picks.now.items = omega (arith, c.loop-k-test.true, c.requires.many, c.args.picks.now.ok.0) in
    let is : c.as_slice-arcs.result.now ≡ get_or c.args.graph.now.steps.items c.loop-k.k [] =
    c.as_slice-arcs.ensures ∙ get_or_read c.args.graph.now.steps.items c.loop-k.k c.index-in-loop-k.result.now steps c.index-in-loop-k.ensures [] in
    let arcs : (arcs_with c.args.graph.now.wide c.as_slice-arcs.result.now c.pairs_at.result.now) ≡ get_or (steps_with c.args.graph.now.wide c.args.graph.now.steps.items c.args.lists.now) c.loop-k.k [] =
    layer_with c.args.graph.now.wide c.args.graph.now.steps.items c.args.lists.now c.loop-k.k c.as_slice-arcs.result.now c.pairs_at.result.now steps is c.pairs_at.ensures in
    let row = get_or_read c.args.picks.now.items c.loop-k.k c.index.result.now rows c.index.ensures [] in
    let way : List ℤ = way_of (steps_with c.args.graph.now.wide c.args.graph.now.steps.items c.args.lists.now) c.args.picks.now.items c.args.zone.now c.args.costs.now 0 in
    let len = length-steps_with c.args.graph.now.wide c.args.graph.now.steps.items c.args.lists.now in
    let step : IsStep (steps_with c.args.graph.now.wide c.args.graph.now.steps.items c.args.lists.now) c.args.picks.now.items c.args.zone.now c.args.costs.now way c.loop-k.k c.loop-k.node (arcs_with c.args.graph.now.wide c.as_slice-arcs.result.now c.pairs_at.result.now) c.index.result.now =
    step_of_way (steps_with c.args.graph.now.wide c.args.graph.now.steps.items c.args.lists.now) c.args.picks.now.items c.args.zone.now c.args.costs.now way c.loop-k.k c.loop-k.node (arcs_with c.args.graph.now.wide c.as_slice-arcs.result.now c.pairs_at.result.now) c.index.result.now
    (omega (arith, steps, len)) rows c.loop-k-test.true (omega (arith, c.loop-k-test.true, c.requires.costs)) arcs row c.loop-k.invariant.leads c.loop-k.invariant.rest in
    subst (λ n. n < length (arcs_with c.args.graph.now.wide c.as_slice-arcs.result.now c.pairs_at.result.now)) (sym c.at-place.ensures) step.there

pub loop-k-preserved : goal.loop-k-preserved
loop-k-preserved c =
    let steps : c.loop-k.k < length c.args.graph.now.steps.items = omega (arith, c.loop-k-test.true, c.requires.steps, c.args.graph.now.steps.ok.0) in
    let rows : c.loop-k.k < length c.args.picks.now.items = omega (arith, c.loop-k-test.true, c.requires.many, c.args.picks.now.ok.0) in
    let is : c.as_slice-arcs.result.now ≡ get_or c.args.graph.now.steps.items c.loop-k.k [] =
    c.as_slice-arcs.ensures ∙ get_or_read c.args.graph.now.steps.items c.loop-k.k c.index-in-loop-k.result.now steps c.index-in-loop-k.ensures [] in
    let arcs : (arcs_with c.args.graph.now.wide c.as_slice-arcs.result.now c.pairs_at.result.now) ≡ get_or (steps_with c.args.graph.now.wide c.args.graph.now.steps.items c.args.lists.now) c.loop-k.k [] =
    layer_with c.args.graph.now.wide c.args.graph.now.steps.items c.args.lists.now c.loop-k.k c.as_slice-arcs.result.now c.pairs_at.result.now steps is c.pairs_at.ensures in
    let row = get_or_read c.args.picks.now.items c.loop-k.k c.index.result.now rows c.index.ensures [] in
    let way : List ℤ = way_of (steps_with c.args.graph.now.wide c.args.graph.now.steps.items c.args.lists.now) c.args.picks.now.items c.args.zone.now c.args.costs.now 0 in
    let len = length-steps_with c.args.graph.now.wide c.args.graph.now.steps.items c.args.lists.now in
    let step : IsStep (steps_with c.args.graph.now.wide c.args.graph.now.steps.items c.args.lists.now) c.args.picks.now.items c.args.zone.now c.args.costs.now way c.loop-k.k c.loop-k.node (arcs_with c.args.graph.now.wide c.as_slice-arcs.result.now c.pairs_at.result.now) c.index.result.now =
    step_of_way (steps_with c.args.graph.now.wide c.args.graph.now.steps.items c.args.lists.now) c.args.picks.now.items c.args.zone.now c.args.costs.now way c.loop-k.k c.loop-k.node (arcs_with c.args.graph.now.wide c.as_slice-arcs.result.now c.pairs_at.result.now) c.index.result.now
    (omega (arith, steps, len)) rows c.loop-k-test.true (omega (arith, c.loop-k-test.true, c.requires.costs)) arcs row c.loop-k.invariant.leads c.loop-k.invariant.rest in
    let pick : pick_at c.index.result.now c.loop-k.node ≡ c.at-place.result = sym c.at-place.ensures in
    let arc : c.arc_of-arc.result ≡ arc_at (arcs_with c.args.graph.now.wide c.as_slice-arcs.result.now c.pairs_at.result.now) (pick_at c.index.result.now c.loop-k.node) = c.arc_of-arc.ensures ∙ ap (λ n. arc_at (arcs_with c.args.graph.now.wide c.as_slice-arcs.result.now c.pairs_at.result.now) n) (sym pick) in
    let linked : IsLinked c.args.graph.now.wide (cells_of c.args.graph.now.wide (pairs_at c.args.lists.now (c.loop-k.k + 1))) c.as_slice-arcs.result.now c.pairs_at.result.now =
    subst (λ (xs : List Arc). IsLinked c.args.graph.now.wide (cells_of c.args.graph.now.wide (pairs_at c.args.lists.now (c.loop-k.k + 1))) xs c.pairs_at.result.now) (sym is)
    (subst (λ (xs : List Pair). IsLinked c.args.graph.now.wide (cells_of c.args.graph.now.wide (pairs_at c.args.lists.now (c.loop-k.k + 1))) (get_or c.args.graph.now.steps.items c.loop-k.k []) xs) (sym c.pairs_at.ensures) (c.requires.linked.each c.loop-k.k steps)) in
    record {
      many = c.loop-k.invariant.many;
      node = subst (λ (a : Arc). a.to < c.args.graph.now.wide) (sym arc)
          (omega (
            arith,
            linked_below c.args.graph.now.wide (cells_of c.args.graph.now.wide (pairs_at c.args.lists.now (c.loop-k.k + 1))) c.as_slice-arcs.result.now c.pairs_at.result.now linked
                (pick_at c.index.result.now c.loop-k.node) _ step.there (chosen_within (arc_at (arcs_with c.args.graph.now.wide c.as_slice-arcs.result.now c.pairs_at.result.now) (pick_at c.index.result.now c.loop-k.node)).label (span_at c.args.zone.now c.loop-k.k) (pos 0) step.meets).0,
            cells_fit c.args.graph.now.wide c.args.graph.now.steps.items c.args.lists.now c.requires.linked (c.loop-k.k + 1),
          ));
      leads = subst (λ (a : Arc). LeadsOn (drop (c.loop-k.k + 1) (steps_with c.args.graph.now.wide c.args.graph.now.steps.items c.args.lists.now)) (drop (c.loop-k.k + 1) c.args.picks.now.items) (drop (c.loop-k.k + 1) c.args.zone.now) a.to) (sym arc) step.leads;
      rest = subst (λ (a : Arc). drop (c.loop-k.k + 1) (way_of (steps_with c.args.graph.now.wide c.args.graph.now.steps.items c.args.lists.now) c.args.picks.now.items c.args.zone.now c.args.costs.now 0)
          ≡ way_of (drop (c.loop-k.k + 1) (steps_with c.args.graph.now.wide c.args.graph.now.steps.items c.args.lists.now)) (drop (c.loop-k.k + 1) c.args.picks.now.items) (drop (c.loop-k.k + 1) c.args.zone.now) (drop (c.loop-k.k + 1) c.args.costs.now) a.to) (sym arc) step.rest;
      point = point_more c.loop-k.point.items way c.loop-k.k (to_z w64 (of_z w64 c.number_of.result)) (omega (arith, c.loop-k-test.true, c.loop-k.invariant.many, c.loop-k.point.ok.0))
          (passed_short c.number_of.result c.number_of.type_inv ∙ c.number_of.ensures
          ∙ subst (λ (a : Arc). chosen_number a.label (span_at c.args.zone.now c.loop-k.k) (get_or c.args.costs.now c.loop-k.k (pos 0)) ≡ get_or way c.loop-k.k (pos 0)) (sym arc) (sym step.number))
          c.loop-k.invariant.point;
    }

pub returns : goal.returns
returns c =
    let len = length-steps_with c.args.graph.now.wide c.args.graph.now.steps.items c.args.lists.now in
    let many = length-way_of (steps_with c.args.graph.now.wide c.args.graph.now.steps.items c.args.lists.now) c.args.picks.now.items c.args.zone.now c.args.costs.now 0
    (omega (arith, len, c.requires.many, c.requires.steps, c.args.graph.now.steps.ok.0, c.args.picks.now.ok.0)) (omega (arith, len, c.requires.steps, c.args.graph.now.steps.ok.0))
    (omega (arith, len, c.requires.costs, c.requires.steps, c.args.graph.now.steps.ok.0)) in
    ext_get_or (pos 0) c.loop-k.point.items (way_of (steps_with c.args.graph.now.wide c.args.graph.now.steps.items c.args.lists.now) c.args.picks.now.items c.args.zone.now c.args.costs.now 0)
    (omega (arith, len, many, c.loop-k.invariant.many, c.loop-k.point.ok.0, c.requires.steps, c.args.graph.now.steps.ok.0))
    (λ k l. c.loop-k.invariant.point k (omega (arith, l, c.loop-k-test.false, c.loop-k.invariant.many, c.loop-k.point.ok.0)))
