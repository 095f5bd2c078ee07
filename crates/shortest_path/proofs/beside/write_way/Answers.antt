use Rattle.std.proofs.Common.{◌≡◌, ◌∙◌, refl, sym, subst, length, drop, get_or, arith, ℕ, ◌+◌, ◌-◌, ◌<◌, ◌≤◌, []}
use Rattle.std.proofs.Math.IntN.{pos}
use Rattle.std.specs.Int.{w64}
use Rattle.std.proofs.lemmas.Bool.{OnTrue_from, eqb-true}
use Rattle.std.proofs.lemmas.List.{get_or_read}
use mir.Val.{of_z, to_z}
use Rattle.bp_theory.specs.Program.{IsInside, IsWithin, span_at}
use Rattle.pricing_problem.proofs.Passed.{passed_short}
use Rattle.layer_graph.specs.Graphs.{arc_at, IsWay}
use Rattle.shortest_path.specs.Best.{chosen_number}
use Rattle.shortest_path.proofs.BestLaws.{chosen_within}
use Rattle.shortest_path.proofs.BesideLaws.{way_ended, inside_ended, way_more, inside_more}
use Rattle.shortest_path.proofs.beside.write_way.Goals as goal
use Rattle.shortest_path.proofs.beside.write_way.Goals.{then-k-zone, else-k-zone}

pub loop-k-init : goal.loop-k-init
loop-k-init c = record {
  many = c.requires.point;
  way = way_ended c.args.graph.now.steps.items c.args.point.now.items (length c.args.zone.now) 0 (omega (arith, c.requires.steps, c.args.graph.now.steps.ok.0))
      (omega (arith, c.requires.point, c.requires.steps, c.args.graph.now.steps.ok.0, c.args.point.now.ok.0));
  inside = inside_ended c.args.zone.now c.args.point.now.items (length c.args.zone.now) (omega arith) (omega (arith, c.requires.point, c.args.point.now.ok.0));
}

pub loop-k-preserved : goal.loop-k-preserved
loop-k-preserved c =
    let k : ℕ = c.loop-k.k - 1 in
    let steps : k < length c.args.graph.now.steps.items = omega (arith, c.loop-k-test.true, c.loop-k.auto.k, c.requires.steps, c.args.graph.now.steps.ok.0) in
    let zone : k < length c.args.zone.now = omega (arith, c.loop-k-test.true, c.loop-k.auto.k) in
    let own : k < length c.loop-k.point.items = omega (arith, zone, c.loop-k.invariant.many, c.loop-k.point.ok.0) in
    let next : c.loop-k.k ≡ k + 1 = omega (arith, c.loop-k-test.true) in
    let arc = arc_at c.as_slice-arcs.result.now c.in-Some.place in
    let number : to_z w64 (of_z w64 c.number_of.result) ≡ chosen_number arc.label (span_at c.args.zone.now k) (get_or c.args.costs.now k (pos 0)) =
    passed_short c.number_of.result c.number_of.type_inv ∙ c.number_of.ensures in
    let within = chosen_within arc.label (span_at c.args.zone.now k) (get_or c.args.costs.now k (pos 0)) (c.if-not-is_open.ensures.0 refl) in
    let rest : IsWay (drop (k + 1) c.args.graph.now.steps.items) arc.to (drop (k + 1) c.loop-k.point.items) = elim c.if-k-zone.branch [
      | then-k-zone w ↦ way_ended c.args.graph.now.steps.items c.loop-k.point.items (k + 1) arc.to
          (omega (arith, w.if-k-zone.true, c.requires.steps, c.args.graph.now.steps.ok.0))
          (omega (arith, c.loop-k.invariant.many, c.requires.steps, c.args.graph.now.steps.ok.0, c.loop-k.point.ok.0))
      | else-k-zone w ↦ subst (λ n. IsWay (drop (k + 1) c.args.graph.now.steps.items) n (drop (k + 1) c.loop-k.point.items))
          (sym (eqb-true _ _ (sym w.goes_on-is ∙ c.if-not-goes_on.false)))
          (subst (λ n. IsWay (drop n c.args.graph.now.steps.items) c.loop-k.node (drop n c.loop-k.point.items)) next c.loop-k.invariant.way)
    ] in
    record {
      many = c.loop-k.invariant.many;
      way = way_more c.args.graph.now.steps.items c.loop-k.point.items k arc.from c.in-Some.place c.as_slice-arcs.result.now _ steps own
          (c.as_slice-arcs.ensures ∙ get_or_read c.args.graph.now.steps.items k c.index.result.now steps c.index.ensures [])
          (record { there = c.in-Some.ensures; from = refl; within = subst (IsWithin arc.label) (sym number) within.0 }) rest;
      inside = inside_more c.args.zone.now c.loop-k.point.items k _ zone own (subst (IsWithin (span_at c.args.zone.now k)) (sym number) within.1)
          (subst (λ n. IsInside (drop n c.args.zone.now) (drop n c.loop-k.point.items)) next c.loop-k.invariant.inside);
    }

pub returns-clause-way : goal.returns-clause-way
returns-clause-way c = OnTrue_from _ _ (λ e.
    subst (λ n. IsWay c.args.graph.now.steps.items n c.loop-k.point.items) (eqb-true c.loop-k.node 0 e)
    (subst (λ n. IsWay (drop n c.args.graph.now.steps.items) c.loop-k.node (drop n c.loop-k.point.items)) (done c.loop-k.k c.loop-k-test.false) c.loop-k.invariant.way))
  where
    done : (k : ℕ) → k ≤ 0 → k ≡ 0
    done k l = omega (arith, l)

pub returns-clause-inside : goal.returns-clause-inside
returns-clause-inside c = OnTrue_from _ _ (λ e.
    subst (λ n. IsInside (drop n c.args.zone.now) (drop n c.loop-k.point.items)) (done c.loop-k.k c.loop-k-test.false) c.loop-k.invariant.inside)
  where
    done : (k : ℕ) → k ≤ 0 → k ≡ 0
    done k l = omega (arith, l)
