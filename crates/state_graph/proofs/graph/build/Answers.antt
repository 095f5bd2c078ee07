use Rattle.std.proofs.Common.{◌≡◌, ◌<◌, ◌*◌, sym, subst, List, [], length, inl, inr}
use Rattle.std.specs.Prelude.{Option, IfSome, IfNone, All, ◌⊎◌}
use Rattle.bp_theory.specs.declared.Span.{Span}
use Rattle.pricing_problem.specs.Form.{HasShortEnds}
use Rattle.state_graph.specs.Layers.{spans_in, AreLayersOf, IsRoot}
use Rattle.state_graph.specs.Limits.{most_coefs, HasLongSpan, HasManyArcs, HasManyNodes}
use Rattle.state_graph.specs.Expansions.{IsEndState, IsRight}
use Rattle.state_graph.specs.declared.layers.Layer.{Layer}
use Rattle.state_graph.specs.declared.columns.Layers.{Layers}
use Rattle.layer_graph.specs.declared.graph.Graph.{Graph}
use Rattle.state_graph.proofs.BlockLaws.{layers_short, block_graph, beyond_by}
use Rattle.state_graph.proofs.graph.build.Goals as goal

pub merged_of-requires-clause-short : goal.merged_of-requires-clause-short
merged_of-requires-clause-short c =
    let layered : AreLayersOf c.args.rows.now c.args.spans.now c.in-Some.layers.layers.items c.in-Some.layers.hulls =
    subst (λ (o : Option Layers). IfSome o (λ (l : Layers). AreLayersOf c.args.rows.now c.args.spans.now l.layers.items l.hulls)) c.in-Some.is c.in_ok-layers.ensures.layers in
    subst (λ (ls : List Layer). All (λ (l : Layer). HasShortEnds l.span) ls) (sym c.as_slice-2.ensures.value)
    (layers_short c.in-Some.layers.layers.items c.args.spans.now layered.spans_are c.requires.ends)

pub returns-in-Some-2-clause-graph : goal.returns-in-Some-2-clause-graph
returns-in-Some-2-clause-graph c =
    let layered : AreLayersOf c.args.rows.now c.args.spans.now c.in-Some.layers.layers.items c.in-Some.layers.hulls =
    subst (λ (o : Option Layers). IfSome o (λ (l : Layers). AreLayersOf c.args.rows.now c.args.spans.now l.layers.items l.hulls)) c.in-Some.is c.in_ok-layers.ensures.layers in
    let right : IsRight c.as_slice-2.result.now c.in_ok-root.root c.in-Some-2.graph.steps.items 0 =
    subst (λ (o : Option Graph). IfSome o (λ (g : Graph). IsRight c.as_slice-2.result.now c.in_ok-root.root g.steps.items 0)) c.in-Some-2.is c.in_ok-graph.ensures.right in
    block_graph c.args.rows.now c.args.spans.now c.in-Some.layers.layers.items c.in-Some.layers.hulls c.in_ok-root.root c.in-Some-2.graph.steps.items layered
    (subst (λ (hs : List Span). IsRoot c.args.rows.now hs c.in_ok-root.root) c.as_slice.ensures c.in_ok-root.ensures)
    (subst (λ (ls : List Layer). IsRight ls c.in_ok-root.root c.in-Some-2.graph.steps.items 0) c.as_slice-2.ensures.value right)

pub returns-in-None-clause-none : goal.returns-in-None-clause-none
returns-in-None-clause-none c = by
    (subst (λ (o : Option Layers). IfNone o ((most_coefs < length c.args.rows.now * length c.args.spans.now) ⊎ HasLongSpan c.args.spans.now)) c.in-None.is c.in_ok-layers.ensures.none)
  where
    by : {P Q R : Type 0} → P ⊎ Q → P ⊎ Q ⊎ R
    by (inl p) = inl p
    by (inr q) = inr (inl q)

pub returns-clause-none : goal.returns-clause-none
returns-clause-none c =
    let layered : AreLayersOf c.args.rows.now c.args.spans.now c.in-Some.layers.layers.items c.in-Some.layers.hulls =
    subst (λ (o : Option Layers). IfSome o (λ (l : Layers). AreLayersOf c.args.rows.now c.args.spans.now l.layers.items l.hulls)) c.in-Some.is c.in_ok-layers.ensures.layers in
    let root : IsRoot c.args.rows.now c.in-Some.layers.hulls c.in_ok-root.root =
    subst (λ (hs : List Span). IsRoot c.args.rows.now hs c.in_ok-root.root) c.as_slice.ensures c.in_ok-root.ensures in
    let none : HasManyArcs (length c.in_ok-root.root) (spans_in c.in-Some.layers.layers.items) ⊎ HasManyNodes (spans_in c.in-Some.layers.layers.items)
    ⊎ ((c.in-Some.layers.layers.items ≡ []) × (IsEndState c.in_ok-root.root → ⊥)) =
    subst (λ (ls : List Layer). HasManyArcs (length c.in_ok-root.root) (spans_in ls) ⊎ HasManyNodes (spans_in ls) ⊎ ((ls ≡ []) × (IsEndState c.in_ok-root.root → ⊥))) c.as_slice-2.ensures.value
    (subst (λ (o : Option Graph). IfNone o (HasManyArcs (length c.in_ok-root.root) (spans_in c.as_slice-2.result.now) ⊎ HasManyNodes (spans_in c.as_slice-2.result.now)
    ⊎ ((c.as_slice-2.result.now ≡ []) × (IsEndState c.in_ok-root.root → ⊥)))) c.in-None-2.is c.in_ok-graph.ensures.none) in
    beyond_by c.args.rows.now c.args.spans.now c.in-Some.layers.layers.items c.in-Some.layers.hulls c.in_ok-root.root layered root none
