use Rattle.std.proofs.Common.{◌≡◌, ◌∙◌, ◌-◌, ◌<◌, ◌≤◌, sym, subst, arith, List, [], length, get_or}
use Rattle.std.specs.Prelude.{Option, IfSome, IfNone, All}
use Rattle.std.proofs.lemmas.List.{get_or_read}
use Rattle.layer_graph.specs.Graphs.{AreOrdered, IsArcSafe}
use Rattle.state_graph.specs.Merges.{IsMerged}
use Rattle.layer_graph.specs.declared.graph.Arc.{Arc}
use Rattle.state_graph.specs.declared.merge.Merged.{Merged}
use Rattle.state_graph.proofs.MergeLaws.{layers_more, layers_few}
use Rattle.state_graph.proofs.merge.merge_layers.Goals as goal

pub loop-k-preserved : goal.loop-k-preserved
loop-k-preserved c =
    let all : c.loop-k.k ≤ length c.loop-k.steps.items = omega (arith, c.loop-k.auto.k, c.len-k.ensures, c.args.steps.now.ok.0, c.loop-k.invariant.many) in
    let there : c.loop-k.k - 1 < length c.loop-k.steps.items = omega (arith, c.loop-k-test.true, all) in
    let is : c.as_slice.result.now ≡ get_or c.loop-k.steps.items (c.loop-k.k - 1) [] =
    c.as_slice.ensures ∙ get_or_read c.loop-k.steps.items (c.loop-k.k - 1) c.index.result.now there c.index.ensures [] in
    let was : c.as_slice.result.now ≡ get_or c.args.steps.now.items (c.loop-k.k - 1) [] = is ∙ c.loop-k.invariant.before (c.loop-k.k - 1) (omega (arith, c.loop-k-test.true)) in
    let safe : All (IsArcSafe c.args.wide) c.as_slice.result.now =
    subst (λ (x : List Arc). All (IsArcSafe c.args.wide) x) (sym was) (c.requires.safe (c.loop-k.k - 1) [] (omega (arith, there, c.loop-k.invariant.many))).each in
    let made : IsMerged c.as_slice.result.now c.deref.result.now c.in-Some.field-0.arcs c.in-Some.field-0.nodes.items =
    subst (λ (o : Option Merged). IfSome o (λ (m : Merged). IsMerged c.as_slice.result.now c.deref.result.now m.arcs m.nodes.items)) c.in-Some.is c.in_ok-arcs.ensures.merged in
    layers_more c.args.steps.now.items c.loop-k.steps.items c.loop-k.k c.as_slice.result.now c.in-Some.field-0.arcs c.loop-k.behind.items c.in-Some.field-0.nodes.items c.args.wide
    c.loop-k-test.true all is safe
    (subst (λ ns. IsMerged c.as_slice.result.now ns c.in-Some.field-0.arcs c.in-Some.field-0.nodes.items) c.deref.ensures.value made)
    c.loop-k.invariant

pub returns-clause-few : goal.returns-clause-few
returns-clause-few c = layers_few c.args.steps.now.items c.loop-k.steps.items c.loop-k.k c.loop-k.behind.items c.args.wide c.loop-k.invariant

pub returns-in-None-clause-none : goal.returns-in-None-clause-none
returns-in-None-clause-none c = λ ordered.
    let all : c.loop-k.k ≤ length c.loop-k.steps.items = omega (arith, c.loop-k.auto.k, c.len-k.ensures, c.args.steps.now.ok.0, c.loop-k.invariant.many) in
    let there : c.loop-k.k - 1 < length c.loop-k.steps.items = omega (arith, c.loop-k-test.true, all) in
    let is : c.as_slice.result.now ≡ get_or c.loop-k.steps.items (c.loop-k.k - 1) [] =
    c.as_slice.ensures ∙ get_or_read c.loop-k.steps.items (c.loop-k.k - 1) c.index.result.now there c.index.ensures [] in
    let was : c.as_slice.result.now ≡ get_or c.args.steps.now.items (c.loop-k.k - 1) [] = is ∙ c.loop-k.invariant.before (c.loop-k.k - 1) (omega (arith, c.loop-k-test.true)) in
    let none : AreOrdered c.as_slice.result.now → ⊥ =
    subst (λ (o : Option Merged). IfNone o (AreOrdered c.as_slice.result.now → ⊥)) c.in-None.is c.in_ok-arcs.ensures.none in
    none (subst (λ (x : List Arc). AreOrdered x) (sym was) (ordered (c.loop-k.k - 1) [] (omega (arith, there, c.loop-k.invariant.many))))
