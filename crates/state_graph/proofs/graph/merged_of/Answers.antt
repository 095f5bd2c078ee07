use Rattle.std.proofs.Common.{◌≡◌, subst, [], length, inl, inr}
use Rattle.std.specs.Prelude.{Option, IfSome, IfNone, All, ◌⊎◌}
use Rattle.state_graph.specs.Expansions.{IsEndState, IsRight}
use Rattle.state_graph.specs.Layers.{spans_in}
use Rattle.layer_graph.specs.Graphs.{AreOrdered, HasSameWays}
use Rattle.state_graph.specs.Limits.{HasManyArcs}
use Rattle.layer_graph.specs.declared.graph.Graph.{Graph}
use Rattle.state_graph.proofs.MergeLaws.{same_right}
use Rattle.state_graph.proofs.graph.merged_of.Goals as goal

pub returns-clause-right : goal.returns-clause-right
returns-clause-right c =
    let right : IsRight c.args.layers.now c.args.root c.in-Some.graph.steps.items 0 =
    subst (λ (o : Option Graph). IfSome o (λ (g : Graph). IsRight c.args.layers.now c.args.root g.steps.items 0)) c.in-Some.is c.in_ok-graph.ensures.right in
    let same : HasSameWays c.in-Some.graph.steps.items c.in-Some-2.merged.steps.items =
    subst (λ (o : Option Graph). IfSome o (λ (g : Graph). HasSameWays c.in-Some.graph.steps.items g.steps.items)) c.in-Some-2.is c.in_ok-merged.ensures.same in
    same_right c.args.layers.now c.args.root c.in-Some.graph.steps.items c.in-Some-2.merged.steps.items same right

pub returns-in-None-clause-none : goal.returns-in-None-clause-none
returns-in-None-clause-none c = by
    (subst (λ (o : Option Graph). IfNone o (HasManyArcs (length c.args.root) (spans_in c.args.layers.now) ⊎ ((c.args.layers.now ≡ []) × (IsEndState c.args.root → ⊥)))) c.in-None.is c.in_ok-graph.ensures.none)
  where
    by : {P Q R : Type 0} → P ⊎ R → P ⊎ Q ⊎ R
    by (inl p) = inl p
    by (inr r) = inr (inr r)

pub returns-in-None-2-clause-none : goal.returns-in-None-2-clause-none
returns-in-None-2-clause-none c =
    let ordered : All AreOrdered c.in-Some.graph.steps.items =
    subst (λ (o : Option Graph). IfSome o (λ (g : Graph). All AreOrdered g.steps.items)) c.in-Some.is c.in_ok-graph.ensures.ordered in
    let none : All AreOrdered c.in-Some.graph.steps.items → ⊥ =
    subst (λ (o : Option Graph). IfNone o (All AreOrdered c.in-Some.graph.steps.items → ⊥)) c.in-None-2.is c.in_ok-merged.ensures.none in
    absurd (none ordered)
