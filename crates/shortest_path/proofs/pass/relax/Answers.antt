use Rattle.std.proofs.Common.{refl, sym, subst, ◌<◌, arith, length, vec_len}
use Rattle.std.proofs.Math.IntN.{pos}
use Rattle.layer_graph.specs.Graphs.{arc_at, IsArcSafe}
use Rattle.shortest_path.specs.Best.{IsCostBy}
use Rattle.shortest_path.proofs.BestLaws.{best_unusable, best_tried, small_passed}
use Rattle.shortest_path.proofs.pass.relax.Goals as goal

pub returns-in-Some-clause-best : goal.returns-in-Some-clause-best
returns-in-Some-clause-best c = λ node b.
    let by : IsCostBy c.args.next.now.items c.args.span.now c.args.cost.now (arc_at c.args.arcs.now c.args.place) c.in-Some.total = c.in-Some.ensures in
    let safe : IsArcSafe (vec_len c.args.now.now) (arc_at c.args.arcs.now c.args.place) = c.requires.safe c.args.place (record { from = 0; to = 0; label = record { lo = pos 0; hi = pos 0 } }) c.requires.place in
    let there : (arc_at c.args.arcs.now c.args.place).from < length c.args.now.now.items = omega (arith, safe.from, c.args.now.now.ok.0) in
    best_tried c.args.arcs.now c.args.next.now.items c.args.span.now c.args.cost.now c.args.place (arc_at c.args.arcs.now c.args.place).from _
    c.args.now.now.items c.take.new.now.items c.args.picks.now c.take.new.picks there (omega (arith, there, c.requires.picks, c.args.now.now.ok.0)) refl
    (subst (λ v. IsCostBy c.args.next.now.items c.args.span.now c.args.cost.now (arc_at c.args.arcs.now c.args.place) v) (sym (small_passed c.in-Some.total by.small)) by)
    c.take.ensures node b

pub returns-in_default-clause-best : goal.returns-in_default-clause-best
returns-in_default-clause-best c = λ node b.
    best_unusable c.args.arcs.now c.args.next.now.items c.args.span.now c.args.cost.now c.args.place node _ _ c.in_default.ensures b
