use Rattle.std.proofs.Common.{◌≡◌, ◌∙◌, sym, ap, subst, get_or, ◌-◌, ◌^◌, ◌<◌, ◌≤◌, ℕ, List, [], arith, length, drop}
use Rattle.std.proofs.Math.IntN.{ℤ, pos}
use Rattle.std.proofs.lemmas.List.{length-drop, length-set, get_or_read}
use Rattle.layer_graph.specs.Graphs.{IsStepSafe}
use Rattle.layer_graph.specs.declared.graph.Arc.{Arc}
use Rattle.shortest_path.proofs.PassLaws.{safe_below, least_bounded, cost_size-drop, cost_size-at, wide_rows, pass_more}
use Rattle.shortest_path.proofs.pass.pass.Goals as goal

pub relax_layer-requires-clause-bounded : goal.relax_layer-requires-clause-bounded
relax_layer-requires-clause-bounded c =
    least_bounded (drop c.loop-k.k c.args.graph.now.steps.items) (drop c.loop-k.k c.loop-k.work.picks.items) (drop c.loop-k.k c.args.zone.now) (drop c.loop-k.k c.args.costs.now)
    c.args.graph.now.wide c.loop-k.work.next.items (2 ^ 123)
    (omega (arith, length-drop c.loop-k.k c.args.zone.now, length-drop c.loop-k.k c.args.graph.now.steps.items, c.requires.zone, c.args.graph.now.steps.ok.0))
    (omega (arith, length-drop c.loop-k.k c.args.costs.now, length-drop c.loop-k.k c.args.graph.now.steps.items, c.requires.costs, c.args.graph.now.steps.ok.0))
    c.loop-k.invariant.room.next
    (omega (arith, cost_size-drop c.args.zone.now c.args.costs.now c.loop-k.k, c.requires.sizes))
    c.loop-k.invariant.least

pub relax_layer-requires-clause-cost : goal.relax_layer-requires-clause-cost
relax_layer-requires-clause-cost c =
    omega (
      arith,
      c.requires.sizes,
      cost_size-at c.args.zone.now c.args.costs.now (c.loop-k.k - 1) (record { lo = pos 0; hi = pos 0 }) (pos 0)
          (omega (arith, c.loop-k-test.true, c.requires.zone, c.loop-k.auto.k)) (omega (arith, c.loop-k-test.true, c.requires.costs, c.loop-k.auto.k)),
    )

pub loop-k-preserved : goal.loop-k-preserved
loop-k-preserved c =
    let xs : c.swap.new.x.items ≡ c.loop-k.work.next.items = cc in
    let ys : c.swap.new.y.items ≡ c.relax_layer.new.now.items = cc in
    let len : length c.swap.new.y.items ≡ length c.relax_layer.new.now.items = ap (λ (zs : List ℤ). length zs) ys in
    let was : length c.loop-k.work.now.items ≡ c.args.graph.now.wide = c.loop-k.invariant.room.now in
    let is : c.as_slice.result.now ≡ get_or c.args.graph.now.steps.items (c.loop-k.k - 1) [] =
    c.as_slice.ensures ∙ get_or_read c.args.graph.now.steps.items (c.loop-k.k - 1) c.index.result.now (at c.loop-k.k (length c.args.graph.now.steps.items) c.loop-k-test.true (omega (arith, c.loop-k.auto.k, c.args.graph.now.steps.ok.0))) c.index.ensures [] in
    record {
      room = record {
        now = ap (λ (zs : List ℤ). length zs) xs ∙ c.loop-k.invariant.room.next;
        next = omega (arith, len, c.relax_layer.ensures.cells, c.relax_layer.new.now.ok.0, c.loop-k.work.now.ok.0, was);
        short_now = c.loop-k.invariant.room.short_now;
        short_next = c.loop-k.invariant.room.short_next;
        many = length-set c.loop-k.work.picks.items (c.loop-k.k - 1) c.relax_layer.new.picks ∙ c.loop-k.invariant.room.many;
        picks = wide_rows c.loop-k.work.picks.items (c.loop-k.k - 1) c.args.graph.now.wide c.relax_layer.new.picks c.loop-k.invariant.room.picks
            (c.relax_layer.ensures.picks ∙ ap (λ (zs : List ℕ). length zs) (get_or_read c.loop-k.work.picks.items (c.loop-k.k - 1) c.index_mut.result.now (at c.loop-k.k (length c.loop-k.work.picks.items) c.loop-k-test.true (omega (arith, c.loop-k.auto.k, c.args.graph.now.steps.ok.0, c.loop-k.invariant.room.many))) c.index_mut.ensures.value [])
            ∙ c.loop-k.invariant.room.picks (c.loop-k.k - 1) [] (at c.loop-k.k (length c.loop-k.work.picks.items) c.loop-k-test.true (omega (arith, c.loop-k.auto.k, c.args.graph.now.steps.ok.0, c.loop-k.invariant.room.many))));
        point = c.loop-k.invariant.room.point;
      };
      least = pass_more c.args.graph.now.steps.items c.loop-k.work.picks.items c.args.zone.now c.args.costs.now c.loop-k.k c.relax_layer.new.picks c.args.graph.now.wide c.args.graph.now.wide
          c.loop-k.work.next.items c.swap.new.y.items c.relax_layer.new.now.items c.as_slice.result.now
          c.loop-k-test.true (omega (arith, c.loop-k.auto.k, c.args.graph.now.steps.ok.0)) c.loop-k.invariant.room.many
          (omega (arith, c.requires.zone, c.args.graph.now.steps.ok.0)) (omega (arith, c.requires.costs, c.args.graph.now.steps.ok.0))
          is
          (safe_below c.args.graph.now.wide c.as_slice.result.now (subst (λ (xs : List Arc). IsStepSafe c.args.graph.now.wide xs) (sym is) (c.args.graph.now.safe (c.loop-k.k - 1) [] (at c.loop-k.k (length c.args.graph.now.steps.items) c.loop-k-test.true (omega (arith, c.loop-k.auto.k, c.args.graph.now.steps.ok.0)))))) ys c.loop-k.invariant.least
          (λ node l. c.relax_layer.ensures.best node (omega (arith, l, was, c.loop-k.work.now.ok.0)));
    }
  where
    at : (k n : ℕ) → 0 < k → k ≤ n → k - 1 < n
    at k n h l = omega (arith, h, l)
