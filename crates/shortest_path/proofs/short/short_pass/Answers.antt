use Rattle.std.proofs.Common.{◌≡◌, ◌∙◌, sym, ap, subst, ◌-◌, ◌*◌, ◌^◌, ◌<◌, ◌≤◌, ℕ, List, [], arith, length, drop, get_or}
use Rattle.std.proofs.Math.IntN.{ℤ, pos}
use Rattle.std.specs.Prelude.{unsigned_abs}
use Rattle.std.specs.Int.{w64}
use Rattle.std.proofs.lemmas.List.{length-drop, length-set, get_or_read}
use mir.Val.{of_z, to_z}
use Rattle.bp_theory.specs.Program.{reach, span_at}
use Rattle.pricing_problem.proofs.Passed.{passed_short}
use Rattle.layer_graph.specs.Graphs.{IsStepSafe}
use Rattle.shortest_path.specs.Best.{cell_at, pick_at, IsBest}
use Rattle.shortest_path.specs.Short.{widened, AreCells, AreReady}
use Rattle.shortest_path.specs.Pairs.{arcs_with, steps_with, cells_of, IsLinked, pairs_at}
use Rattle.layer_graph.specs.declared.graph.Arc.{Arc}
use Rattle.shortest_path.proofs.PassLaws.{cost_size-drop, cost_size-at, wide_rows}
use Rattle.shortest_path.proofs.ShortLaws.{cost_short}
use Rattle.shortest_path.proofs.PairLaws.{length-steps_with}
use Rattle.shortest_path.proofs.PairPassLaws.{step_linked, pairs_wider, cells_fit, ready_cell, ready_arcs, start_least, short_more}
use Rattle.shortest_path.proofs.short.short_pass.Goals as goal

pub shortened-cost-requires : goal.shortened-cost-requires
shortened-cost-requires c = cost_short (get_or c.args.costs.now (c.loop-k.k - 1) (pos 0)) (span_at c.args.zone.now (c.loop-k.k - 1))
    (omega (
      arith,
      c.requires.sizes,
      cost_size-at c.args.zone.now c.args.costs.now (c.loop-k.k - 1) (record { lo = pos 0; hi = pos 0 }) (pos 0)
          (omega (arith, c.loop-k-test.true, c.requires.zone, c.loop-k.auto.k)) (omega (arith, c.loop-k-test.true, c.requires.costs, c.loop-k.auto.k)),
    ))

pub relax_step-requires-clause-safe : goal.relax_step-requires-clause-safe
relax_step-requires-clause-safe c =
    let row : length c.index_mut.result.now ≡ c.args.graph.now.wide =
    ap (λ (zs : List ℕ). length zs) (get_or_read c.loop-k.work.picks.items (c.loop-k.k - 1) c.index_mut.result.now (at c.loop-k.k (length c.loop-k.work.picks.items) c.loop-k-test.true (omega (arith, c.loop-k.auto.k, c.args.graph.now.steps.ok.0, c.loop-k.invariant.room.many))) c.index_mut.ensures.value []) ∙ c.loop-k.invariant.room.picks (c.loop-k.k - 1) [] (at c.loop-k.k (length c.loop-k.work.picks.items) c.loop-k-test.true (omega (arith, c.loop-k.auto.k, c.args.graph.now.steps.ok.0, c.loop-k.invariant.room.many))) in
    let is : c.as_slice.result.now ≡ get_or c.args.graph.now.steps.items (c.loop-k.k - 1) [] =
    c.as_slice.ensures ∙ get_or_read c.args.graph.now.steps.items (c.loop-k.k - 1) c.index.result.now (at c.loop-k.k (length c.args.graph.now.steps.items) c.loop-k-test.true (omega (arith, c.loop-k.auto.k, c.args.graph.now.steps.ok.0))) c.index.ensures [] in
    let all : c.loop-k.k ≤ length c.args.graph.now.steps.items = omega (arith, c.loop-k.auto.k, c.args.graph.now.steps.ok.0) in
    subst (λ w. IsStepSafe w c.as_slice.result.now) (sym row)
    (subst (λ (xs : List Arc). IsStepSafe c.args.graph.now.wide xs) (sym is) (c.args.graph.now.safe (c.loop-k.k - 1) [] (at c.loop-k.k (length c.args.graph.now.steps.items) c.loop-k-test.true (omega (arith, c.loop-k.auto.k, c.args.graph.now.steps.ok.0)))))
  where
    at : (k n : ℕ) → 0 < k → k ≤ n → k - 1 < n
    at k n h l = omega (arith, h, l)

pub relax_step-requires-clause-nodes : goal.relax_step-requires-clause-nodes
relax_step-requires-clause-nodes c =
    let row : length c.index_mut.result.now ≡ c.args.graph.now.wide =
    ap (λ (zs : List ℕ). length zs) (get_or_read c.loop-k.work.picks.items (c.loop-k.k - 1) c.index_mut.result.now (at c.loop-k.k (length c.loop-k.work.picks.items) c.loop-k-test.true (omega (arith, c.loop-k.auto.k, c.args.graph.now.steps.ok.0, c.loop-k.invariant.room.many))) c.index_mut.ensures.value []) ∙ c.loop-k.invariant.room.picks (c.loop-k.k - 1) [] (at c.loop-k.k (length c.loop-k.work.picks.items) c.loop-k-test.true (omega (arith, c.loop-k.auto.k, c.args.graph.now.steps.ok.0, c.loop-k.invariant.room.many))) in
    let is : c.as_slice.result.now ≡ get_or c.args.graph.now.steps.items (c.loop-k.k - 1) [] =
    c.as_slice.ensures ∙ get_or_read c.args.graph.now.steps.items (c.loop-k.k - 1) c.index.result.now (at c.loop-k.k (length c.args.graph.now.steps.items) c.loop-k-test.true (omega (arith, c.loop-k.auto.k, c.args.graph.now.steps.ok.0))) c.index.ensures [] in
    let all : c.loop-k.k ≤ length c.args.graph.now.steps.items = omega (arith, c.loop-k.auto.k, c.args.graph.now.steps.ok.0) in
    let linked : IsLinked (length c.index_mut.result.now) (cells_of (length c.index_mut.result.now) (pairs_at c.args.lists.now c.loop-k.k)) c.as_slice.result.now c.pairs_at.result.now =
    step_linked c.args.graph.now.wide (length c.index_mut.result.now) c.args.graph.now.steps.items c.args.lists.now c.loop-k.k c.as_slice.result.now c.pairs_at.result.now
    c.loop-k-test.true all is c.pairs_at.ensures row c.requires.linked in
    linked.nodes
  where
    at : (k n : ℕ) → 0 < k → k ≤ n → k - 1 < n
    at k n h l = omega (arith, h, l)

pub relax_step-requires-clause-few : goal.relax_step-requires-clause-few
relax_step-requires-clause-few c =
    let row : length c.index_mut.result.now ≡ c.args.graph.now.wide =
    ap (λ (zs : List ℕ). length zs) (get_or_read c.loop-k.work.picks.items (c.loop-k.k - 1) c.index_mut.result.now (at c.loop-k.k (length c.loop-k.work.picks.items) c.loop-k-test.true (omega (arith, c.loop-k.auto.k, c.args.graph.now.steps.ok.0, c.loop-k.invariant.room.many))) c.index_mut.ensures.value []) ∙ c.loop-k.invariant.room.picks (c.loop-k.k - 1) [] (at c.loop-k.k (length c.loop-k.work.picks.items) c.loop-k-test.true (omega (arith, c.loop-k.auto.k, c.args.graph.now.steps.ok.0, c.loop-k.invariant.room.many))) in
    let is : c.as_slice.result.now ≡ get_or c.args.graph.now.steps.items (c.loop-k.k - 1) [] =
    c.as_slice.ensures ∙ get_or_read c.args.graph.now.steps.items (c.loop-k.k - 1) c.index.result.now (at c.loop-k.k (length c.args.graph.now.steps.items) c.loop-k-test.true (omega (arith, c.loop-k.auto.k, c.args.graph.now.steps.ok.0))) c.index.ensures [] in
    let all : c.loop-k.k ≤ length c.args.graph.now.steps.items = omega (arith, c.loop-k.auto.k, c.args.graph.now.steps.ok.0) in
    let linked : IsLinked (length c.index_mut.result.now) (cells_of (length c.index_mut.result.now) (pairs_at c.args.lists.now c.loop-k.k)) c.as_slice.result.now c.pairs_at.result.now =
    step_linked c.args.graph.now.wide (length c.index_mut.result.now) c.args.graph.now.steps.items c.args.lists.now c.loop-k.k c.as_slice.result.now c.pairs_at.result.now
    c.loop-k-test.true all is c.pairs_at.ensures row c.requires.linked in
    linked.few
  where
    at : (k n : ℕ) → 0 < k → k ≤ n → k - 1 < n
    at k n h l = omega (arith, h, l)

pub relax_step-requires-clause-pairs : goal.relax_step-requires-clause-pairs
relax_step-requires-clause-pairs c =
    let row : length c.index_mut.result.now ≡ c.args.graph.now.wide =
    ap (λ (zs : List ℕ). length zs) (get_or_read c.loop-k.work.picks.items (c.loop-k.k - 1) c.index_mut.result.now (at c.loop-k.k (length c.loop-k.work.picks.items) c.loop-k-test.true (omega (arith, c.loop-k.auto.k, c.args.graph.now.steps.ok.0, c.loop-k.invariant.room.many))) c.index_mut.ensures.value []) ∙ c.loop-k.invariant.room.picks (c.loop-k.k - 1) [] (at c.loop-k.k (length c.loop-k.work.picks.items) c.loop-k-test.true (omega (arith, c.loop-k.auto.k, c.args.graph.now.steps.ok.0, c.loop-k.invariant.room.many))) in
    let is : c.as_slice.result.now ≡ get_or c.args.graph.now.steps.items (c.loop-k.k - 1) [] =
    c.as_slice.ensures ∙ get_or_read c.args.graph.now.steps.items (c.loop-k.k - 1) c.index.result.now (at c.loop-k.k (length c.args.graph.now.steps.items) c.loop-k-test.true (omega (arith, c.loop-k.auto.k, c.args.graph.now.steps.ok.0))) c.index.ensures [] in
    let all : c.loop-k.k ≤ length c.args.graph.now.steps.items = omega (arith, c.loop-k.auto.k, c.args.graph.now.steps.ok.0) in
    let linked : IsLinked (length c.index_mut.result.now) (cells_of (length c.index_mut.result.now) (pairs_at c.args.lists.now c.loop-k.k)) c.as_slice.result.now c.pairs_at.result.now =
    step_linked c.args.graph.now.wide (length c.index_mut.result.now) c.args.graph.now.steps.items c.args.lists.now c.loop-k.k c.as_slice.result.now c.pairs_at.result.now
    c.loop-k-test.true all is c.pairs_at.ensures row c.requires.linked in
    pairs_wider (length c.index_mut.result.now) (cells_of (length c.index_mut.result.now) (pairs_at c.args.lists.now c.loop-k.k)) c.as_slice.result.now c.pairs_at.result.now linked
    (subst (λ w. cells_of w (pairs_at c.args.lists.now c.loop-k.k) ≤ w) (sym row) (cells_fit c.args.graph.now.wide c.args.graph.now.steps.items c.args.lists.now c.requires.linked c.loop-k.k))
  where
    at : (k n : ℕ) → 0 < k → k ≤ n → k - 1 < n
    at k n h l = omega (arith, h, l)

pub relax_step-requires-clause-cells : goal.relax_step-requires-clause-cells
relax_step-requires-clause-cells c =
    let row : length c.index_mut.result.now ≡ c.args.graph.now.wide =
    ap (λ (zs : List ℕ). length zs) (get_or_read c.loop-k.work.picks.items (c.loop-k.k - 1) c.index_mut.result.now (at c.loop-k.k (length c.loop-k.work.picks.items) c.loop-k-test.true (omega (arith, c.loop-k.auto.k, c.args.graph.now.steps.ok.0, c.loop-k.invariant.room.many))) c.index_mut.ensures.value []) ∙ c.loop-k.invariant.room.picks (c.loop-k.k - 1) [] (at c.loop-k.k (length c.loop-k.work.picks.items) c.loop-k-test.true (omega (arith, c.loop-k.auto.k, c.args.graph.now.steps.ok.0, c.loop-k.invariant.room.many))) in
    let is : c.as_slice.result.now ≡ get_or c.args.graph.now.steps.items (c.loop-k.k - 1) [] =
    c.as_slice.ensures ∙ get_or_read c.args.graph.now.steps.items (c.loop-k.k - 1) c.index.result.now (at c.loop-k.k (length c.args.graph.now.steps.items) c.loop-k-test.true (omega (arith, c.loop-k.auto.k, c.args.graph.now.steps.ok.0))) c.index.ensures [] in
    let all : c.loop-k.k ≤ length c.args.graph.now.steps.items = omega (arith, c.loop-k.auto.k, c.args.graph.now.steps.ok.0) in
    subst (λ w. AreCells w c.loop-k.work.short_now.items) (sym row) c.loop-k.invariant.room.short_now
  where
    at : (k n : ℕ) → 0 < k → k ≤ n → k - 1 < n
    at k n h l = omega (arith, h, l)

pub relax_step-requires-clause-next : goal.relax_step-requires-clause-next
relax_step-requires-clause-next c =
    let row : length c.index_mut.result.now ≡ c.args.graph.now.wide =
    ap (λ (zs : List ℕ). length zs) (get_or_read c.loop-k.work.picks.items (c.loop-k.k - 1) c.index_mut.result.now (at c.loop-k.k (length c.loop-k.work.picks.items) c.loop-k-test.true (omega (arith, c.loop-k.auto.k, c.args.graph.now.steps.ok.0, c.loop-k.invariant.room.many))) c.index_mut.ensures.value []) ∙ c.loop-k.invariant.room.picks (c.loop-k.k - 1) [] (at c.loop-k.k (length c.loop-k.work.picks.items) c.loop-k-test.true (omega (arith, c.loop-k.auto.k, c.args.graph.now.steps.ok.0, c.loop-k.invariant.room.many))) in
    let is : c.as_slice.result.now ≡ get_or c.args.graph.now.steps.items (c.loop-k.k - 1) [] =
    c.as_slice.ensures ∙ get_or_read c.args.graph.now.steps.items (c.loop-k.k - 1) c.index.result.now (at c.loop-k.k (length c.args.graph.now.steps.items) c.loop-k-test.true (omega (arith, c.loop-k.auto.k, c.args.graph.now.steps.ok.0))) c.index.ensures [] in
    let all : c.loop-k.k ≤ length c.args.graph.now.steps.items = omega (arith, c.loop-k.auto.k, c.args.graph.now.steps.ok.0) in
    subst (λ w. AreCells w c.loop-k.work.short_next.items) (sym row) c.loop-k.invariant.room.short_next
  where
    at : (k n : ℕ) → 0 < k → k ≤ n → k - 1 < n
    at k n h l = omega (arith, h, l)

pub relax_step-requires-clause-ready : goal.relax_step-requires-clause-ready
relax_step-requires-clause-ready c =
    let row : length c.index_mut.result.now ≡ c.args.graph.now.wide =
    ap (λ (zs : List ℕ). length zs) (get_or_read c.loop-k.work.picks.items (c.loop-k.k - 1) c.index_mut.result.now (at c.loop-k.k (length c.loop-k.work.picks.items) c.loop-k-test.true (omega (arith, c.loop-k.auto.k, c.args.graph.now.steps.ok.0, c.loop-k.invariant.room.many))) c.index_mut.ensures.value []) ∙ c.loop-k.invariant.room.picks (c.loop-k.k - 1) [] (at c.loop-k.k (length c.loop-k.work.picks.items) c.loop-k-test.true (omega (arith, c.loop-k.auto.k, c.args.graph.now.steps.ok.0, c.loop-k.invariant.room.many))) in
    let is : c.as_slice.result.now ≡ get_or c.args.graph.now.steps.items (c.loop-k.k - 1) [] =
    c.as_slice.ensures ∙ get_or_read c.args.graph.now.steps.items (c.loop-k.k - 1) c.index.result.now (at c.loop-k.k (length c.args.graph.now.steps.items) c.loop-k-test.true (omega (arith, c.loop-k.auto.k, c.args.graph.now.steps.ok.0))) c.index.ensures [] in
    let all : c.loop-k.k ≤ length c.args.graph.now.steps.items = omega (arith, c.loop-k.auto.k, c.args.graph.now.steps.ok.0) in
    let linked : IsLinked (length c.index_mut.result.now) (cells_of (length c.index_mut.result.now) (pairs_at c.args.lists.now c.loop-k.k)) c.as_slice.result.now c.pairs_at.result.now =
    step_linked c.args.graph.now.wide (length c.index_mut.result.now) c.args.graph.now.steps.items c.args.lists.now c.loop-k.k c.as_slice.result.now c.pairs_at.result.now
    c.loop-k-test.true all is c.pairs_at.ensures row c.requires.linked in
    let len : length (drop c.loop-k.k (steps_with c.args.graph.now.wide c.args.graph.now.steps.items c.args.lists.now)) ≡ length c.args.graph.now.steps.items - c.loop-k.k =
    omega (arith, length-drop c.loop-k.k (steps_with c.args.graph.now.wide c.args.graph.now.steps.items c.args.lists.now), length-steps_with c.args.graph.now.wide c.args.graph.now.steps.items c.args.lists.now) in
    subst (λ w. AreReady c.loop-k.work.short_next.items (arcs_with w c.as_slice.result.now c.pairs_at.result.now)) (sym row)
    (ready_arcs c.args.graph.now.wide (cells_of c.args.graph.now.wide (pairs_at c.args.lists.now c.loop-k.k)) c.as_slice.result.now c.pairs_at.result.now c.loop-k.work.short_next.items
    (subst (λ w. IsLinked w (cells_of w (pairs_at c.args.lists.now c.loop-k.k)) c.as_slice.result.now c.pairs_at.result.now) row linked) c.loop-k.invariant.room.short_next
    (ready_cell (drop c.loop-k.k (steps_with c.args.graph.now.wide c.args.graph.now.steps.items c.args.lists.now)) (drop c.loop-k.k c.loop-k.work.picks.items) (drop c.loop-k.k c.args.zone.now) (drop c.loop-k.k c.args.costs.now)
    (cells_of c.args.graph.now.wide (pairs_at c.args.lists.now c.loop-k.k)) c.args.graph.now.wide c.loop-k.work.short_next.items
    (omega (arith, length-drop c.loop-k.k c.args.zone.now, len, c.requires.zone, c.args.graph.now.steps.ok.0))
    (omega (arith, length-drop c.loop-k.k c.args.costs.now, len, c.requires.costs, c.args.graph.now.steps.ok.0))
    (omega (arith, cost_size-drop c.args.zone.now c.args.costs.now c.loop-k.k, c.requires.sizes))
    c.loop-k.invariant.room.short_next (cells_fit c.args.graph.now.wide c.args.graph.now.steps.items c.args.lists.now c.requires.linked c.loop-k.k) c.loop-k.invariant.least))
  where
    at : (k n : ℕ) → 0 < k → k ≤ n → k - 1 < n
    at k n h l = omega (arith, h, l)

pub relax_step-requires-clause-cost : goal.relax_step-requires-clause-cost
relax_step-requires-clause-cost c =
    subst (λ z. unsigned_abs z * reach (span_at c.args.zone.now (c.loop-k.k - 1)) ≤ 2 ^ 60) (sym (passed_short c.shortened-cost.result c.shortened-cost.type_inv ∙ c.shortened-cost.ensures))
    (omega (
      arith,
      c.requires.sizes,
      cost_size-at c.args.zone.now c.args.costs.now (c.loop-k.k - 1) (record { lo = pos 0; hi = pos 0 }) (pos 0)
          (omega (arith, c.loop-k-test.true, c.requires.zone, c.loop-k.auto.k)) (omega (arith, c.loop-k-test.true, c.requires.costs, c.loop-k.auto.k)),
    ))

pub loop-k-init : goal.loop-k-init
loop-k-init c = record {
  room = record {
    now = c.requires.room.now;
    next = c.requires.room.next;
    short_now = c.requires.room.short_now;
    short_next = c.zero.ensures.cells;
    many = c.requires.room.many;
    picks = c.requires.room.picks;
    point = c.requires.room.point;
  };
  least = start_least c.args.graph.now.wide c.args.graph.now.steps.items c.args.lists.now c.args.work.now.picks.items c.args.zone.now c.args.costs.now (widened c.zero.new.cells.items) _
      (omega (arith, c.len-k.ensures, c.args.graph.now.steps.ok.0)) (omega (arith, c.requires.zone, c.args.graph.now.steps.ok.0)) (omega (arith, c.requires.costs, c.args.graph.now.steps.ok.0))
      c.requires.linked c.zero.ensures.zeros;
}

pub loop-k-preserved : goal.loop-k-preserved
loop-k-preserved c =
    let row : length c.index_mut.result.now ≡ c.args.graph.now.wide =
    ap (λ (zs : List ℕ). length zs) (get_or_read c.loop-k.work.picks.items (c.loop-k.k - 1) c.index_mut.result.now (at c.loop-k.k (length c.loop-k.work.picks.items) c.loop-k-test.true (omega (arith, c.loop-k.auto.k, c.args.graph.now.steps.ok.0, c.loop-k.invariant.room.many))) c.index_mut.ensures.value []) ∙ c.loop-k.invariant.room.picks (c.loop-k.k - 1) [] (at c.loop-k.k (length c.loop-k.work.picks.items) c.loop-k-test.true (omega (arith, c.loop-k.auto.k, c.args.graph.now.steps.ok.0, c.loop-k.invariant.room.many))) in
    let is : c.as_slice.result.now ≡ get_or c.args.graph.now.steps.items (c.loop-k.k - 1) [] =
    c.as_slice.ensures ∙ get_or_read c.args.graph.now.steps.items (c.loop-k.k - 1) c.index.result.now (at c.loop-k.k (length c.args.graph.now.steps.items) c.loop-k-test.true (omega (arith, c.loop-k.auto.k, c.args.graph.now.steps.ok.0))) c.index.ensures [] in
    let all : c.loop-k.k ≤ length c.args.graph.now.steps.items = omega (arith, c.loop-k.auto.k, c.args.graph.now.steps.ok.0) in
    let xs : c.swap.new.x.items ≡ c.loop-k.work.short_next.items = cc in
    let ys : c.swap.new.y.items ≡ c.relax_step.new.now.items = cc in
    let cost : to_z w64 (of_z w64 c.shortened-cost.result) ≡ get_or c.args.costs.now (c.loop-k.k - 1) (pos 0) = passed_short c.shortened-cost.result c.shortened-cost.type_inv ∙ c.shortened-cost.ensures in
    record {
      room = record {
        now = c.loop-k.invariant.room.now;
        next = c.loop-k.invariant.room.next;
        short_now = subst (λ (zs : List ℤ). AreCells c.args.graph.now.wide zs) (sym xs) c.loop-k.invariant.room.short_next;
        short_next = subst (λ (zs : List ℤ). AreCells c.args.graph.now.wide zs) (sym ys) (subst (λ w. AreCells w c.relax_step.new.now.items) row c.relax_step.ensures.cells);
        many = length-set c.loop-k.work.picks.items (c.loop-k.k - 1) c.relax_step.new.picks ∙ c.loop-k.invariant.room.many;
        picks = wide_rows c.loop-k.work.picks.items (c.loop-k.k - 1) c.args.graph.now.wide c.relax_step.new.picks c.loop-k.invariant.room.picks (c.relax_step.ensures.picks ∙ row);
        point = c.loop-k.invariant.room.point;
      };
      least = short_more c.args.graph.now.wide c.args.graph.now.steps.items c.args.lists.now c.loop-k.work.picks.items c.args.zone.now c.args.costs.now c.loop-k.k c.relax_step.new.picks
          (widened c.loop-k.work.short_next.items) (widened c.swap.new.y.items) (widened c.relax_step.new.now.items) c.as_slice.result.now c.pairs_at.result.now
          c.loop-k-test.true all c.loop-k.invariant.room.many
          (omega (arith, c.requires.zone, c.args.graph.now.steps.ok.0)) (omega (arith, c.requires.costs, c.args.graph.now.steps.ok.0))
          is c.pairs_at.ensures (ap (λ (zs : List ℤ). widened zs) ys) c.requires.linked c.loop-k.invariant.least
          (subst (λ w. (node : ℕ) → node < cells_of w c.pairs_at.result.now → IsBest (arcs_with w c.as_slice.result.now c.pairs_at.result.now) (widened c.loop-k.work.short_next.items) (span_at c.args.zone.now (c.loop-k.k - 1)) (get_or c.args.costs.now (c.loop-k.k - 1) (pos 0))
          (length (arcs_with w c.as_slice.result.now c.pairs_at.result.now)) node (cell_at (widened c.relax_step.new.now.items) node) (pick_at c.relax_step.new.picks node)) row
          (λ node l. subst (λ z. IsBest (arcs_with (length c.index_mut.result.now) c.as_slice.result.now c.pairs_at.result.now) (widened c.loop-k.work.short_next.items) (span_at c.args.zone.now (c.loop-k.k - 1)) z
          (length (arcs_with (length c.index_mut.result.now) c.as_slice.result.now c.pairs_at.result.now)) node (cell_at (widened c.relax_step.new.now.items) node) (pick_at c.relax_step.new.picks node)) cost
          (c.relax_step.ensures.best node l)));
    }
  where
    at : (k n : ℕ) → 0 < k → k ≤ n → k - 1 < n
    at k n h l = omega (arith, h, l)
