use Rattle.std.proofs.Common.{◌≡◌, ◌∙◌, sym, subst, ◌<◌, List, [], length}
use Rattle.shortest_path.specs.Best.{cell_at, pick_at, IsBest}
use Rattle.shortest_path.specs.Short.{widened, AreReady}
use Rattle.layer_graph.specs.declared.graph.Arc.{Arc}
use Rattle.shortest_path.proofs.PairLaws.{empty_none, empty_some, with_none, with_some, cells_none, cells_some}
use Rattle.shortest_path.proofs.short.relax_step.Goals as goal

pub relax_layer-requires-clause-ready : goal.relax_layer-requires-clause-ready
relax_layer-requires-clause-ready c =
    subst (λ (xs : List Arc). AreReady c.args.next.now.items xs) (with_none (length c.args.picks.now) c.args.arcs.now c.args.pairs.now (empty_none c.args.pairs.now (sym c.is_empty.ensures ∙ c.if-is_empty.true)))
    c.requires.ready

pub returns-then-is_empty-clause-best : goal.returns-then-is_empty-clause-best
returns-then-is_empty-clause-best c = λ node l.
    let none : c.args.pairs.now ≡ [] = empty_none c.args.pairs.now (sym c.is_empty.ensures ∙ c.if-is_empty.true) in
    subst (λ (xs : List Arc). IsBest xs (widened c.args.next.now.items) c.args.span.now c.args.cost.now (length xs) node (cell_at (widened c.relax_layer.new.now.items) node) (pick_at c.relax_layer.new.picks node))
    (sym (with_none (length c.args.picks.now) c.args.arcs.now c.args.pairs.now none))
    (c.relax_layer.ensures.best node (subst (λ n. node < n) (cells_none (length c.args.picks.now) c.args.pairs.now none) l))

pub relax_pairs-requires-clause-ready : goal.relax_pairs-requires-clause-ready
relax_pairs-requires-clause-ready c =
    subst (λ (xs : List Arc). AreReady c.args.next.now.items xs) (with_some (length c.args.picks.now) c.args.arcs.now c.args.pairs.now (empty_some c.args.pairs.now (sym c.is_empty.ensures ∙ c.if-is_empty.false)))
    c.requires.ready

pub returns-clause-best : goal.returns-clause-best
returns-clause-best c = λ node l.
    let some : c.args.pairs.now ≡ [] → ⊥ = empty_some c.args.pairs.now (sym c.is_empty.ensures ∙ c.if-is_empty.false) in
    subst (λ (xs : List Arc). IsBest xs (widened c.args.next.now.items) c.args.span.now c.args.cost.now (length xs) node (cell_at (widened c.relax_pairs.new.now.items) node) (pick_at c.relax_pairs.new.picks node))
    (sym (with_some (length c.args.picks.now) c.args.arcs.now c.args.pairs.now some))
    (c.relax_pairs.ensures.best node (subst (λ n. node < n) (cells_some (length c.args.picks.now) c.args.pairs.now some) l))
