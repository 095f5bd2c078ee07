use Rattle.std.proofs.Common.{◌≡◌, ◌∙◌, sym, ap, subst, ◌<◌, ◌/◌, ℕ, List, [], arith, length}
use Rattle.layer_graph.specs.Graphs.{arc_at}
use Rattle.shortest_path.specs.Pairs.{arcs_with}
use Rattle.layer_graph.specs.declared.graph.Arc.{Arc}
use Rattle.shortest_path.specs.declared.pairs.Pair.{Pair}
use Rattle.shortest_path.proofs.PairLaws.{empty_some, with_some, half_there, half_zero, half_one}
use Rattle.shortest_path.proofs.pairs.arc_of.Goals as goal

-- half a place is that of a pair
there : (dead place : ℕ) (arcs : List Arc) (pairs : List Pair) → (pairs ≡ [] → ⊥) → place < length (arcs_with dead arcs pairs) → place / 2 < length pairs
there dead place arcs pairs some l = half_there dead pairs place (subst (λ (xs : List Arc). place < length xs) (with_some dead arcs pairs some) l)

pub bounds-pairs-node : goal.bounds-pairs-node
bounds-pairs-node c = there c.args.dead c.args.place c.args.arcs.now c.args.pairs.now (empty_some c.args.pairs.now (sym c.is_empty.ensures ∙ c.if-is_empty.false)) c.requires.place

pub overflow_cast-node : goal.overflow_cast-node
overflow_cast-node c = omega (arith, c.requires.few, there c.args.dead c.args.place c.args.arcs.now c.args.pairs.now (empty_some c.args.pairs.now (sym c.is_empty.ensures ∙ c.if-is_empty.false)) c.requires.place)

pub overflow_cast-node-else-place-eq0 : goal.overflow_cast-node-else-place-eq0
overflow_cast-node-else-place-eq0 c = omega (arith, c.requires.few, there c.args.dead c.args.place c.args.arcs.now c.args.pairs.now (empty_some c.args.pairs.now (sym c.is_empty.ensures ∙ c.if-is_empty.false)) c.requires.place)

pub returns-then-place-eq0 : goal.returns-then-place-eq0
returns-then-place-eq0 c =
    c.arc_for.ensures
    ∙ sym (half_zero c.args.dead c.args.pairs.now c.args.place (subst (λ (xs : List Arc). c.args.place < length xs) (with_some c.args.dead c.args.arcs.now c.args.pairs.now (empty_some c.args.pairs.now (sym c.is_empty.ensures ∙ c.if-is_empty.false))) c.requires.place) c.if-place-eq0.true)
    ∙ sym (ap (λ (xs : List Arc). arc_at xs c.args.place) (with_some c.args.dead c.args.arcs.now c.args.pairs.now (empty_some c.args.pairs.now (sym c.is_empty.ensures ∙ c.if-is_empty.false))))

pub returns-else-place-eq0 : goal.returns-else-place-eq0
returns-else-place-eq0 c =
    c.arc_for-else-place-eq0.ensures
    ∙ sym (half_one c.args.dead c.args.pairs.now c.args.place (subst (λ (xs : List Arc). c.args.place < length xs) (with_some c.args.dead c.args.arcs.now c.args.pairs.now (empty_some c.args.pairs.now (sym c.is_empty.ensures ∙ c.if-is_empty.false))) c.requires.place) c.if-place-eq0.false)
    ∙ sym (ap (λ (xs : List Arc). arc_at xs c.args.place) (with_some c.args.dead c.args.arcs.now c.args.pairs.now (empty_some c.args.pairs.now (sym c.is_empty.ensures ∙ c.if-is_empty.false))))

pub offset_bounds-pairs-node : goal.offset_bounds-pairs-node
offset_bounds-pairs-node c = omega (arith, c.requires.few, there c.args.dead c.args.place c.args.arcs.now c.args.pairs.now (empty_some c.args.pairs.now (sym c.is_empty.ensures ∙ c.if-is_empty.false)) c.requires.place)
