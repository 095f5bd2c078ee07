use Rattle.std.proofs.Common.{◌∙◌, sym, ap, subst, ◌+◌, ◌<◌, ℕ, List, arith, length, set}
use Rattle.std.proofs.Math.IntN.{ℤ, pos, ◌+ℤ◌}
use Rattle.std.specs.Int.{w64}
use Rattle.std.proofs.lemmas.List.{length-set}
use mir.Val.{of_z, to_z}
use Rattle.pricing_problem.proofs.Passed.{passed_short}
use Rattle.shortest_path.specs.Best.{cell_at, pick_at, IsBest}
use Rattle.shortest_path.specs.Short.{widened, AreCells, IsCostOf, lesser_cell, lesser_pick}
use Rattle.shortest_path.specs.Pairs.{label_of, pair_at, arcs_from}
use Rattle.shortest_path.proofs.ShortLaws.{cells_set}
use Rattle.shortest_path.proofs.PairPassLaws.{pair_below, pair_ready, pair_fits, pairs_step, lesser_near}
use Rattle.shortest_path.proofs.short_pairs.relax_pairs.Goals as goal

pub relax_pair-requires-clause-cell : goal.relax_pair-requires-clause-cell
relax_pair-requires-clause-cell c = omega (arith, c.loop-node-test.true, c.requires.nodes, c.loop-node.invariant.cells.each, c.loop-node.now.ok.0)

pub relax_pair-requires-clause-zero_there : goal.relax_pair-requires-clause-zero_there
relax_pair-requires-clause-zero_there c = omega (arith, (pair_below (length c.args.picks.now) c.args.pairs.now c.loop-node.node c.requires.safe c.loop-node-test.true).0, c.requires.next.each, c.args.next.now.ok.0)

pub relax_pair-requires-clause-one_there : goal.relax_pair-requires-clause-one_there
relax_pair-requires-clause-one_there c = omega (arith, (pair_below (length c.args.picks.now) c.args.pairs.now c.loop-node.node c.requires.safe c.loop-node-test.true).1, c.requires.next.each, c.args.next.now.ok.0)

pub relax_pair-requires-clause-zero : goal.relax_pair-requires-clause-zero
relax_pair-requires-clause-zero c =
    pair_fits (label_of (pos 0)) c.args.span.now c.args.cost.now (cell_at c.args.next.now.items (pair_at c.args.pairs.now c.loop-node.node).zero) (to_z w64 (of_z w64 c.cost_of-zero.result)) c.requires.cost (pair_ready (length c.args.picks.now) c.args.pairs.now c.args.next.now.items c.loop-node.node c.requires.ready c.loop-node-test.true).0 (subst (λ z. IsCostOf (label_of (pos 0)) c.args.span.now c.args.cost.now z) (sym (passed_short c.cost_of-zero.result c.cost_of-zero.type_inv)) c.cost_of-zero.ensures)

pub relax_pair-requires-clause-one : goal.relax_pair-requires-clause-one
relax_pair-requires-clause-one c =
    pair_fits (label_of (pos 1)) c.args.span.now c.args.cost.now (cell_at c.args.next.now.items (pair_at c.args.pairs.now c.loop-node.node).one) (to_z w64 (of_z w64 c.cost_of-one.result)) c.requires.cost (pair_ready (length c.args.picks.now) c.args.pairs.now c.args.next.now.items c.loop-node.node c.requires.ready c.loop-node-test.true).1 (subst (λ z. IsCostOf (label_of (pos 1)) c.args.span.now c.args.cost.now z) (sym (passed_short c.cost_of-one.result c.cost_of-one.type_inv)) c.cost_of-one.ensures)

pub loop-node-preserved : goal.loop-node-preserved
loop-node-preserved c = record {
  cells = subst (λ (cs : List ℤ). AreCells (length c.args.picks.now) cs) (sym c.relax_pair.ensures.cells)
      (cells_set (length c.args.picks.now) c.loop-node.node c.loop-node.now.items (lesser_cell (cell_at c.args.next.now.items (pair_at c.args.pairs.now c.loop-node.node).zero +ℤ (to_z w64 (of_z w64 c.cost_of-zero.result))) (cell_at c.args.next.now.items (pair_at c.args.pairs.now c.loop-node.node).one +ℤ (to_z w64 (of_z w64 c.cost_of-one.result)))) c.loop-node.invariant.cells (omega (arith, c.loop-node-test.true, c.requires.nodes)) (lesser_near (cell_at c.args.next.now.items (pair_at c.args.pairs.now c.loop-node.node).zero +ℤ (to_z w64 (of_z w64 c.cost_of-zero.result))) (cell_at c.args.next.now.items (pair_at c.args.pairs.now c.loop-node.node).one +ℤ (to_z w64 (of_z w64 c.cost_of-one.result)))));
  picks = ap (λ (ps : List ℕ). length ps) c.relax_pair.ensures.picks ∙ length-set c.loop-node.picks c.loop-node.node (lesser_pick c.loop-node.node (cell_at c.args.next.now.items (pair_at c.args.pairs.now c.loop-node.node).zero +ℤ (to_z w64 (of_z w64 c.cost_of-zero.result))) (cell_at c.args.next.now.items (pair_at c.args.pairs.now c.loop-node.node).one +ℤ (to_z w64 (of_z w64 c.cost_of-one.result)))) ∙ c.loop-node.invariant.picks;
  best = subst (λ (cs : List ℤ). (n : ℕ) → n < c.loop-node.node + 1 → IsBest (arcs_from (length c.args.picks.now) 0 c.args.pairs.now) (widened c.args.next.now.items) c.args.span.now c.args.cost.now
      (length (arcs_from (length c.args.picks.now) 0 c.args.pairs.now)) n (cell_at (widened cs) n) (pick_at c.relax_pair.new.picks n)) (sym c.relax_pair.ensures.cells)
      (subst (λ (ps : List ℕ). (n : ℕ) → n < c.loop-node.node + 1 → IsBest (arcs_from (length c.args.picks.now) 0 c.args.pairs.now) (widened c.args.next.now.items) c.args.span.now c.args.cost.now
      (length (arcs_from (length c.args.picks.now) 0 c.args.pairs.now)) n (cell_at (widened (set c.loop-node.now.items c.loop-node.node (lesser_cell (cell_at c.args.next.now.items (pair_at c.args.pairs.now c.loop-node.node).zero +ℤ (to_z w64 (of_z w64 c.cost_of-zero.result))) (cell_at c.args.next.now.items (pair_at c.args.pairs.now c.loop-node.node).one +ℤ (to_z w64 (of_z w64 c.cost_of-one.result)))))) n) (pick_at ps n)) (sym c.relax_pair.ensures.picks)
      (pairs_step (length c.args.picks.now) c.args.pairs.now c.args.next.now.items c.args.span.now c.args.cost.now c.loop-node.node c.loop-node.now.items c.loop-node.picks (to_z w64 (of_z w64 c.cost_of-zero.result)) (to_z w64 (of_z w64 c.cost_of-one.result))
      c.loop-node-test.true (omega (arith, c.loop-node-test.true, c.requires.nodes, c.loop-node.invariant.picks)) (omega (arith, c.loop-node-test.true, c.requires.nodes, c.loop-node.invariant.cells.each))
      c.requires.next c.requires.safe c.requires.ready c.requires.cost (subst (λ z. IsCostOf (label_of (pos 0)) c.args.span.now c.args.cost.now z) (sym (passed_short c.cost_of-zero.result c.cost_of-zero.type_inv)) c.cost_of-zero.ensures) (subst (λ z. IsCostOf (label_of (pos 1)) c.args.span.now c.args.cost.now z) (sym (passed_short c.cost_of-one.result c.cost_of-one.type_inv)) c.cost_of-one.ensures) c.loop-node.invariant.best));
}
