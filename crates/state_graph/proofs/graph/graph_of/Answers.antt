use Rattle.std.proofs.Common.{◌≡◌, ◌∙◌, refl, ◌+◌, ◌-◌, ◌*◌, ◌^◌, min, inl, inr, zero, ⊎_elim, ◌≤◌, ◌<◌, ℕ, arith, sym, ap, subst, List, [], ◌∷◌, ◌++◌, length, get_or, drop, suc}
use Rattle.std.proofs.Math.ListN.{drop_of_length-le}
use Rattle.std.proofs.lemmas.List.{append-nil}
use Rattle.std.specs.Vec.{vec_len}
use Rattle.std.specs.Prelude.{Option, IfSome, IfNone, All, T, false, true}
use Rattle.bp_theory.specs.Classes.{width, prefixes}
use Rattle.bp_theory.specs.declared.Span.{Span}
use Rattle.state_graph.specs.Layers.{spans_in, IsShaped, AreHulls, AreTwins}
use Rattle.state_graph.specs.Limits.{beginnings, AreManyArcs}
use Rattle.layer_graph.specs.Graphs.{AreOrdered, IsSafe}
use Rattle.state_graph.specs.Expansions.{HaveRows, IsEndState, IsExpanded, IsRight, AreRight}
use Rattle.layer_graph.specs.declared.graph.Arc.{Arc}
use Rattle.state_graph.specs.declared.layers.Layer.{Layer}
use Rattle.state_graph.specs.declared.expand.Frontier.{Frontier}
use Rattle.state_graph.proofs.GraphLaws.{layer_at, last_bare, graph_more, ordered_more, graph_safe, end_right}
use Rattle.state_graph.proofs.LimitLaws.{with_empty, layers_behind, begun_more, begun_full}
use Rattle.std.proofs.lemmas.Bool.{cases_lt}
use Rattle.state_graph.proofs.graph.graph_of.Goals as goal

shape_of : (rows : ℕ) (layers : List Layer) (k : ℕ) (l : Layer) → l ≡ get_or layers k l
    → IsShaped rows (get_or layers k l) × AreHulls (drop (suc k) layers) (get_or layers k l).hulls × AreTwins (drop (suc k) layers) (get_or layers k l).twins → IsShaped rows l
shape_of rows layers k l is h = subst (IsShaped rows) (sym is) h.0

alone : (P : List Span → Type 0) (x : List Span) → P x → All P (x ∷ [])
alone P x h zero d l = h
alone P x h (suc k) d l = absurd (omega (arith, l))

shape_own : (rows : ℕ) (l : Layer) → IsShaped rows l → IsShaped (length l.column) l
shape_own rows l h = record {
  column = refl;
  hulls = h.hulls ∙ sym h.column;
  twins = h.twins ∙ sym h.column;
  below = λ k d lt. subst (λ n. get_or l.twins k d < n) (sym h.column) (h.below k d lt);
}

pub expand-requires-clause-shaped : goal.expand-requires-clause-shaped
expand-requires-clause-shaped c =
    shape_own (length c.args.root) c.layer-item.result (shape_of (length c.args.root) c.args.layers.now c.loop-layer.layer-index c.layer-item.result c.layer-item.is
    (layer_at (length c.args.root) c.args.layers.now c.loop-layer.layer-index c.layer-item.result c.requires.layers c.loop-layer-test.true))

pub expand-requires-clause-rows : goal.expand-requires-clause-rows
expand-requires-clause-rows c =
    let shaped = shape_of (length c.args.root) c.args.layers.now c.loop-layer.layer-index c.layer-item.result c.layer-item.is
    (layer_at (length c.args.root) c.args.layers.now c.loop-layer.layer-index c.layer-item.result c.requires.layers c.loop-layer-test.true) in
    λ k d l. c.loop-layer.invariant.rows k d l ∙ sym shaped.column

pub loop-layer-preserved : goal.loop-layer-preserved
loop-layer-preserved c =
    let shaped = shape_of (length c.args.root) c.args.layers.now c.loop-layer.layer-index c.layer-item.result c.layer-item.is
    (layer_at (length c.args.root) c.args.layers.now c.loop-layer.layer-index c.layer-item.result c.requires.layers c.loop-layer-test.true) in
    let expanded : IsExpanded c.layer-item.result c.loop-layer.states.items c.in-Some.field-0.states.list.items c.in-Some.field-0.arcs =
    subst (λ (o : Option Frontier). IfSome o (λ (f : Frontier). IsExpanded c.layer-item.result c.loop-layer.states.items f.states.list.items f.arcs)) c.in-Some.is c.in_ok-arcs.ensures.expanded in
    let kept : length c.in-Some.field-0.arcs ≤ c.min.result =
    subst (λ (o : Option Frontier). IfSome o (λ (f : Frontier). length f.arcs ≤ c.min.result)) c.in-Some.is c.in_ok-arcs.ensures.arcs in
    let few : length c.in-Some.field-0.arcs ≤ c.loop-layer.room = omega (arith, kept, c.min.ensures) in
    let many : vec_len c.in-Some.field-0.states.list ≤ 2 ^ 20 =
    subst (λ (o : Option Frontier). IfSome o (λ (f : Frontier). vec_len f.states.list ≤ 2 ^ 20)) c.in-Some.is c.in_ok-arcs.ensures.states in
    let list : c.into_list-states.result.items ≡ c.in-Some.field-0.states.list.items = c.into_list-states.ensures in
    let pushed : c.push-in-Some.new.self.items ≡ c.loop-layer.steps.items ++ (c.in-Some.field-0.arcs ∷ []) = cc (c.in_ok-push-in-Some.ensures.items, c.in-Some.arcs-is, c.in-Some.field-0-is) in
    let same : length c.into_list-states.result.items ≡ length c.in-Some.field-0.states.list.items = ap (λ (ss : List (List Span)). length ss) list in
    let manyarcs : length c.in-Some.field-0.arcs ≤ vec_len c.loop-layer.states * width c.layer-item.result.span =
    subst (λ (o : Option Frontier). IfSome o (λ (f : Frontier). length f.arcs ≤ vec_len c.loop-layer.states * width c.layer-item.result.span)) c.in-Some.is c.in_ok-arcs.ensures.many in
    let fewer : vec_len c.in-Some.field-0.states.list ≤ length c.in-Some.field-0.arcs =
    subst (λ (o : Option Frontier). IfSome o (λ (f : Frontier). vec_len f.states.list ≤ length f.arcs)) c.in-Some.is c.in_ok-arcs.ensures.fewer in
    let next : vec_len c.into_list-states.result ≤ length c.in-Some.field-0.arcs =
    omega (arith, same, c.into_list-states.result.ok.0, c.in-Some.field-0.states.list.ok.0, fewer) in
    let cut : c.min-room.result ≡ length c.in-Some.field-0.arcs =
    omega (arith, c.min-room.ensures, c.len.ensures, few, ap (λ (x : List Arc). length x) c.in-Some.arcs-is) in
    let begun : (c.room_for-whole.result - c.loop-layer.room + length c.in-Some.field-0.arcs)
    + vec_len c.into_list-states.result * beginnings (spans_in (drop (c.loop-layer.layer-index + 1) c.args.layers.now)) ≤ beginnings (spans_in c.args.layers.now) =
    begun_more (c.room_for-whole.result - c.loop-layer.room) (vec_len c.loop-layer.states) (length c.in-Some.field-0.arcs) (vec_len c.into_list-states.result) (width c.layer-item.result.span)
    (beginnings (spans_in (drop (c.loop-layer.layer-index + 1) c.args.layers.now))) (beginnings (spans_in c.args.layers.now))
    (subst (λ n. c.room_for-whole.result - c.loop-layer.room + vec_len c.loop-layer.states * n ≤ beginnings (spans_in c.args.layers.now))
    (layers_behind c.args.layers.now c.loop-layer.layer-index c.layer-item.result c.loop-layer-test.true c.layer-item.is) c.loop-layer.invariant.begun)
    manyarcs next in
    record {
      many = omega (arith, c.in_ok-push-in-Some.ensures.len, c.loop-layer.invariant.many);
      rows = subst (HaveRows (length c.args.root)) (sym list) (λ k d l. expanded.rows k d l ∙ shaped.column);
      few = omega (arith, same, c.into_list-states.result.ok.0, c.in-Some.field-0.states.list.ok.0, many);
      fits = omega (arith, c.larger-wide.ensures.second, c.len.ensures);
      rooted = omega (arith, c.larger-wide.ensures.first, c.loop-layer.invariant.rooted);
      narrow = c.larger-wide.ensures.least (2 ^ 20) c.loop-layer.invariant.narrow
          (omega (arith, c.len.ensures, same, c.into_list-states.result.ok.0, c.in-Some.field-0.states.list.ok.0, many));
      room = omega (arith, c.loop-layer.invariant.room);
      safe = subst (IsSafe c.larger-wide.result) (sym pushed)
          (graph_safe c.layer-item.result c.loop-layer.states.items c.in-Some.field-0.states.list.items c.in-Some.field-0.arcs c.loop-layer.steps.items c.loop-layer.wide c.larger-wide.result
          expanded (omega (arith, c.loop-layer.invariant.fits, c.loop-layer.states.ok.0)) (omega (arith, few, c.loop-layer.invariant.room)) c.loop-layer.invariant.safe c.larger-wide.ensures.first
          (omega (arith, same, c.into_list-states.result.ok.0, c.larger-wide.ensures.second, c.len.ensures)));
      most = omega (arith, c.loop-layer.invariant.most);
      begun = omega (arith, begun, cut, few, c.loop-layer.invariant.most);
      thin = c.larger-wide.ensures.least (prefixes (spans_in c.args.layers.now)) c.loop-layer.invariant.thin
          (omega (arith, c.len-in-Some.ensures, next, begun, with_empty (spans_in c.args.layers.now)));
      ordered = subst (λ (ss : List (List Arc)). All AreOrdered ss) (sym pushed) (ordered_more c.loop-layer.steps.items c.in-Some.field-0.arcs c.loop-layer.invariant.ordered expanded.ordered);
      first = λ e. absurd (omega (arith, e));
      ends = λ some last. subst (λ (ss : List (List Span)). All IsEndState ss) (sym list)
          (expanded.ends (last_bare (length c.args.root) c.args.layers.now c.loop-layer.layer-index c.layer-item.result c.requires.layers c.loop-layer-test.true last c.layer-item.is));
      right = λ rest right. subst (λ (steps : List (List Arc)). IsRight c.args.layers.now c.args.root (steps ++ rest) 0) (sym pushed)
          (graph_more (length c.args.root) c.args.layers.now c.loop-layer.layer-index c.layer-item.result c.layer-item.result c.args.root c.loop-layer.states.items
          c.in-Some.field-0.states.list.items c.in-Some.field-0.arcs c.loop-layer.steps.items c.loop-layer-test.true c.layer-item.is c.requires.layers c.loop-layer.invariant.rows expanded
          c.loop-layer.invariant.right rest
          (subst (λ (next : List (List Span)). AreRight (drop (c.loop-layer.layer-index + 1) c.args.layers.now) next rest) list right));
    }

pub returns-clause-right : goal.returns-clause-right
returns-clause-right c =
    subst (λ (steps : List (List Arc)). IsRight c.args.layers.now c.args.root steps 0) (append-nil c.loop-layer.steps.items)
    (c.loop-layer.invariant.right []
    (subst (λ (ls : List Layer). AreRight ls c.loop-layer.states.items []) (sym (drop_of_length-le c.args.layers.now c.loop-layer-test.false))
    (end_right c.loop-layer.states.items (λ i l. (c.if-not-are_ends.ensures.0 refl) i [] l))))

pub loop-layer-init : goal.loop-layer-init
loop-layer-init c =
    let one : vec_len c.push.new.self ≡ 1 = omega (arith, c.in_ok-push.ensures.len, c.new-states.ensures.len) in
    let root : c.push.new.self.items ≡ c.args.root ∷ [] = c.in_ok-push.ensures.items ∙ ap (λ (ss : List (List Span)). ss ++ (c.args.root ∷ [])) c.new-states.ensures.items in
    record {
      many = c.new-steps.ensures.len;
      rows = subst (HaveRows (length c.args.root)) (sym root) (alone (λ (s : List Span). length s ≡ length c.args.root) c.args.root refl);
      few = omega (arith, one);
      fits = omega (arith, one);
      rooted = omega arith;
      narrow = omega arith;
      room = c.room_for-whole.ensures.few;
      safe = subst (IsSafe 1) (sym c.new-steps.ensures.items) (λ k d l. absurd (omega (arith, l)));
      most = omega arith;
      begun = omega (arith, ap (λ n. n * beginnings (spans_in c.args.layers.now)) one);
      thin = omega (arith, with_empty (spans_in c.args.layers.now));
      ordered = subst (λ (ss : List (List Arc)). All AreOrdered ss) (sym c.new-steps.ensures.items) (λ k d l. absurd (omega (arith, l)));
      first = λ e. root;
      ends = λ some last. absurd (omega (arith, some));
      right = λ rest right. subst (λ (ss : List (List Arc)). IsRight c.args.layers.now c.args.root (ss ++ rest) 0) (sym c.new-steps.ensures.items)
          (subst (λ (ss : List (List Span)). AreRight c.args.layers.now ss rest) root right 0 (omega arith));
    }

pub returns-in-None-clause-none : goal.returns-in-None-clause-none
returns-in-None-clause-none c =
    let full : min c.min.result (2 ^ 20) < vec_len c.loop-layer.states * width c.layer-item.result.span =
    subst (λ (o : Option Frontier). IfNone o (min c.min.result (2 ^ 20) < vec_len c.loop-layer.states * width c.layer-item.result.span)) c.in-None.is c.in_ok-arcs.ensures.none in
    let over : c.room_for-whole.result - c.loop-layer.room + c.min.result < beginnings (spans_in c.args.layers.now) =
    begun_full (c.room_for-whole.result - c.loop-layer.room) (vec_len c.loop-layer.states) c.min.result (width c.layer-item.result.span)
    (beginnings (spans_in (drop (c.loop-layer.layer-index + 1) c.args.layers.now))) (beginnings (spans_in c.args.layers.now))
    (subst (λ n. c.room_for-whole.result - c.loop-layer.room + vec_len c.loop-layer.states * n ≤ beginnings (spans_in c.args.layers.now))
    (layers_behind c.args.layers.now c.loop-layer.layer-index c.layer-item.result c.loop-layer-test.true c.layer-item.is) c.loop-layer.invariant.begun)
    (omega (arith, full, c.loop-layer.invariant.room, c.min.ensures)) in
    inl (subst (λ n. AreManyArcs n (beginnings (spans_in c.args.layers.now))) c.len-rows.ensures
    (⊎_elim
    (λ (layer : c.layer_room_for-most.result < c.loop-layer.room). c.layer_room_for-most.ensures (beginnings (spans_in c.args.layers.now)) (omega (arith, over, c.min.ensures, layer)))
    (λ (graph : c.loop-layer.room ≤ c.layer_room_for-most.result).
    c.room_for-whole.ensures.many (beginnings (spans_in c.args.layers.now)) (omega (arith, over, c.min.ensures, graph, c.loop-layer.invariant.most)))
    (cases_lt c.layer_room_for-most.result c.loop-layer.room)))

pub returns-then-not-are_ends-clause-none : goal.returns-then-not-are_ends-clause-none
returns-then-not-are_ends-clause-none c =
    let none : All IsEndState c.loop-layer.states.items → ⊥ = λ all. no (c.if-not-are_ends.ensures.1 all) in
    ⊎_elim
    (λ some. absurd (none (c.loop-layer.invariant.ends some c.loop-layer-test.false)))
    (λ before. let start : c.loop-layer.layer-index ≡ 0 = omega (arith, before) in
    inr (
      drop_of_length-le c.args.layers.now {i = 0} (omega (arith, c.loop-layer-test.false, start)),
      λ end. none (subst (λ (ss : List (List Span)). All IsEndState ss) (sym (c.loop-layer.invariant.first start)) (alone IsEndState c.args.root end)),
    ))
    (cases_lt 0 c.loop-layer.layer-index)
  where
    no : false ≡ true → ⊥
    no e = subst T (sym e) tt
