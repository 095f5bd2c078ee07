use Rattle.std.proofs.Common.{refl, sym, subst, ℕ, ◌+◌, ◌<◌, List, arith, length, set}
use Rattle.std.proofs.Math.IntN.{ℤ, pos}
use Rattle.std.specs.Int.{w64, int_min}
use mir.Val.{of_z, to_z}
use Rattle.pricing_problem.proofs.Passed.{passed_short}
use Rattle.layer_graph.specs.Graphs.{arc_at, IsArcSafe}
use Rattle.shortest_path.specs.Best.{cell_at, pick_at, IsBest}
use Rattle.shortest_path.specs.Short.{widened, AreCells, IsTotal}
use Rattle.shortest_path.proofs.ShortLaws.{short_tried, cells_set, lesser_low}
use Rattle.shortest_path.proofs.short.relax.Goals as goal

pub returns-clause-best : goal.returns-clause-best
returns-clause-best c = λ node b.
    let safe : IsArcSafe (length c.args.picks.now) (arc_at c.args.arcs.now c.args.place) = c.requires.safe c.args.place (record { from = 0; to = 0; label = record { lo = pos 0; hi = pos 0 } }) c.requires.place in
    let there : (arc_at c.args.arcs.now c.args.place).from < length c.args.now.now.items = omega (arith, safe.from, c.requires.cells.each) in
    let total : IsTotal (widened c.args.next.now.items) c.args.span.now c.args.cost.now (arc_at c.args.arcs.now c.args.place) (to_z w64 (of_z w64 c.total_by-total.result)) =
    subst (λ v. IsTotal (widened c.args.next.now.items) c.args.span.now c.args.cost.now (arc_at c.args.arcs.now c.args.place) v)
    (sym (passed_short c.total_by-total.result c.total_by-total.type_inv)) c.total_by-total.ensures in
    subst (λ (cs : List ℤ). IsBest c.args.arcs.now (widened c.args.next.now.items) c.args.span.now c.args.cost.now (c.args.place + 1) node (cell_at (widened cs) node) (pick_at c.keep.new.picks node))
    (sym c.keep.ensures.cells)
    (subst (λ (ps : List ℕ). IsBest c.args.arcs.now (widened c.args.next.now.items) c.args.span.now c.args.cost.now (c.args.place + 1) node (cell_at (widened (set c.args.now.now.items (arc_at c.args.arcs.now c.args.place).from (int_min (to_z w64 (of_z w64 c.total_by-total.result)) (cell_at c.args.now.now.items (arc_at c.args.arcs.now c.args.place).from)))) node) (pick_at ps node))
    (sym c.keep.ensures.picks)
    (short_tried c.args.arcs.now (widened c.args.next.now.items) c.args.span.now c.args.cost.now c.args.place (arc_at c.args.arcs.now c.args.place).from
    (to_z w64 (of_z w64 c.total_by-total.result)) c.args.now.now.items c.args.picks.now there safe.from refl
    (c.requires.cells.near (arc_at c.args.arcs.now c.args.place).from there) total node b))

pub returns-clause-cells : goal.returns-clause-cells
returns-clause-cells c =
    let safe : IsArcSafe (length c.args.picks.now) (arc_at c.args.arcs.now c.args.place) = c.requires.safe c.args.place (record { from = 0; to = 0; label = record { lo = pos 0; hi = pos 0 } }) c.requires.place in
    subst (λ (cs : List ℤ). AreCells (length c.args.picks.now) cs) (sym c.keep.ensures.cells)
    (cells_set (length c.args.picks.now) (arc_at c.args.arcs.now c.args.place).from c.args.now.now.items _ c.requires.cells safe.from
    (lesser_low (to_z w64 (of_z w64 c.total_by-total.result)) (cell_at c.args.now.now.items (arc_at c.args.arcs.now c.args.place).from)
    (c.requires.cells.near (arc_at c.args.arcs.now c.args.place).from (omega (arith, safe.from, c.requires.cells.each)))))
