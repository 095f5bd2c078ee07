use Rattle.std.proofs.Common.{◌≡◌, ◌∙◌, ◌∷◌, sym, ap, subst, set, rules, to_z, of_z, w64}
use Rattle.std.specs.Prelude.{ℤ, pos, ◌+ℤ◌, ◌<ℤ◌}
use Rattle.cert_format.specs.Sketch.{tree_of}
use Rattle.cert_line_check.specs.Steps.{node, step_of, steps_of}
use Rattle.cert_line_check.specs.declared.ahead.Ahead.{Ahead}
use Rattle.cert_line_check.proofs.Walking.{next_step, first_step, no_step}
use Rattle.search_laws.specs.Grove.{GrowingTree}
use Rattle.open_nodes.specs.Trees as growing
use Rattle.tree_load.specs.Nodes.{IsLoadedNode}
use Rattle.tree_load.specs.Steps.{MayLoadSteps}
use Rattle.tree_load.proofs.Loading.{begins_loading, loaded_on, turns_high, goes_back, may_turn, may_go_back, all_loaded, none_left}
use Rattle.tree_load.proofs.nodes.load_node.Goals as goal

pub loop-step-init : goal.loop-step-init
loop-step-init c = record {
  loading = begins_loading c.args.b.now c.args.best.now (tree_of c.args.sketch.now) c.args.at c.new-nodes.result.items (steps_of c.push.new.self.items)
      c.new-nodes.ensures.items (first_step c.new-ahead.result.items c.push.new.self.items _ c.new-ahead.ensures.items c.in_ok-push.ensures.items) c.requires.may;
  made_for = c.requires.made_for;
}

pub load_line-requires-clause-may : goal.load_line-requires-clause-may
load_line-requires-clause-may c =
    let next = next_step c.loop-step.ahead.items c.pop.new.self.items c.in-Some.step c.in-Some.ensures.items
    ∙ ap (λ (s : Ahead). step_of s ∷ steps_of c.pop.new.self.items) c.in-Node.is in
    subst (λ l. MayLoadSteps c.args.b.now c.args.best.now l c.loop-step.walk) next c.loop-step.invariant.loading.may

pub loop-step-preserved-in-Node : goal.loop-step-preserved-in-Node
loop-step-preserved-in-Node c =
    let next = next_step c.loop-step.ahead.items c.pop.new.self.items c.in-Some.step c.in-Some.ensures.items
    ∙ ap (λ (s : Ahead). step_of s ∷ steps_of c.pop.new.self.items) c.in-Node.is in
    record {
      loading = loaded_on c.args.b.now c.args.best.now (tree_of c.args.sketch.now) c.args.at c.loop-step.walk c.in_ok-node-in-Node.next c.loop-step.nodes.items c.push-in-Node.new.self.items
          c.in_ok-node-in-Node.node (steps_of c.loop-step.ahead.items) (node (tree_of c.in-Node.here.now) ∷ steps_of c.pop.new.self.items) (steps_of c.load_line.new.ahead.items)
          c.loop-step.invariant.loading next c.in_ok-node-in-Node.ensures.loaded c.in_ok-push-in-Node.ensures.items;
      made_for = c.in_ok-node-in-Node.ensures.made_for;
    }

pub to_high-walk-requires-clause-there : goal.to_high-walk-requires-clause-there
to_high-walk-requires-clause-there c =
    let next = next_step c.loop-step.ahead.items c.pop.new.self.items c.in-Some.step c.in-Some.ensures.items
    ∙ ap (λ (s : Ahead). step_of s ∷ steps_of c.pop.new.self.items) c.in-High.is in
    (may_turn c.args.b.now c.args.best.now (steps_of c.loop-step.ahead.items) (steps_of c.pop.new.self.items) c.loop-step.walk
    c.in-High.var c.in-High.at c.in-High.span c.loop-step.invariant.loading.may next).0

pub to_high-walk-requires-clause-below : goal.to_high-walk-requires-clause-below
to_high-walk-requires-clause-below c =
    let next = next_step c.loop-step.ahead.items c.pop.new.self.items c.in-Some.step c.in-Some.ensures.items
    ∙ ap (λ (s : Ahead). step_of s ∷ steps_of c.pop.new.self.items) c.in-High.is in
    let whole : to_z w64 (of_z w64 c.in-High.at) ≡ c.in-High.at = search rules in
    subst (λ (z : ℤ). z <ℤ c.in-High.span.hi) (sym whole)
    (may_turn c.args.b.now c.args.best.now (steps_of c.loop-step.ahead.items) (steps_of c.pop.new.self.items) c.loop-step.walk
    c.in-High.var c.in-High.at c.in-High.span c.loop-step.invariant.loading.may next).1

pub loop-step-preserved-in-High : goal.loop-step-preserved-in-High
loop-step-preserved-in-High c =
    let next = next_step c.loop-step.ahead.items c.pop.new.self.items c.in-Some.step c.in-Some.ensures.items
    ∙ ap (λ (s : Ahead). step_of s ∷ steps_of c.pop.new.self.items) c.in-High.is in
    let whole : to_z w64 (of_z w64 c.in-High.at) ≡ c.in-High.at = search rules in
    record {
      loading = turns_high c.args.b.now c.args.best.now (tree_of c.args.sketch.now) c.args.at c.loop-step.walk c.to_high-walk.result c.loop-step.nodes.items
          (steps_of c.loop-step.ahead.items) (steps_of c.pop.new.self.items) c.in-High.var c.in-High.at c.in-High.span c.loop-step.invariant.loading next
          (c.to_high-walk.ensures.zone ∙ ap (λ (z : ℤ). set c.loop-step.walk.zone c.in-High.var (record { lo = z +ℤ pos 1; hi = c.in-High.span.hi })) whole)
          c.to_high-walk.ensures.depth c.to_high-walk.ensures.line c.to_high-walk.ensures.deep;
      made_for = c.loop-step.invariant.made_for;
    }

pub back-walk-requires-clause-there : goal.back-walk-requires-clause-there
back-walk-requires-clause-there c =
    let next = next_step c.loop-step.ahead.items c.pop.new.self.items c.in-Some.step c.in-Some.ensures.items
    ∙ ap (λ (s : Ahead). step_of s ∷ steps_of c.pop.new.self.items) c.in-Back.is in
    (may_go_back c.args.b.now c.args.best.now (steps_of c.loop-step.ahead.items) (steps_of c.pop.new.self.items) c.loop-step.walk
    c.in-Back.var c.in-Back.span c.loop-step.invariant.loading.may next).0

pub back-walk-requires-clause-proper : goal.back-walk-requires-clause-proper
back-walk-requires-clause-proper c =
    let next = next_step c.loop-step.ahead.items c.pop.new.self.items c.in-Some.step c.in-Some.ensures.items
    ∙ ap (λ (s : Ahead). step_of s ∷ steps_of c.pop.new.self.items) c.in-Back.is in
    (may_go_back c.args.b.now c.args.best.now (steps_of c.loop-step.ahead.items) (steps_of c.pop.new.self.items) c.loop-step.walk
    c.in-Back.var c.in-Back.span c.loop-step.invariant.loading.may next).1

pub back-walk-requires-clause-below : goal.back-walk-requires-clause-below
back-walk-requires-clause-below c =
    let next = next_step c.loop-step.ahead.items c.pop.new.self.items c.in-Some.step c.in-Some.ensures.items
    ∙ ap (λ (s : Ahead). step_of s ∷ steps_of c.pop.new.self.items) c.in-Back.is in
    (may_go_back c.args.b.now c.args.best.now (steps_of c.loop-step.ahead.items) (steps_of c.pop.new.self.items) c.loop-step.walk
    c.in-Back.var c.in-Back.span c.loop-step.invariant.loading.may next).2

pub loop-step-preserved : goal.loop-step-preserved
loop-step-preserved c =
    let next = next_step c.loop-step.ahead.items c.pop.new.self.items c.in-Some.step c.in-Some.ensures.items
    ∙ ap (λ (s : Ahead). step_of s ∷ steps_of c.pop.new.self.items) c.in-Back.is in
    record {
      loading = goes_back c.args.b.now c.args.best.now (tree_of c.args.sketch.now) c.args.at c.loop-step.walk c.back-walk.result c.loop-step.nodes.items
          (steps_of c.loop-step.ahead.items) (steps_of c.pop.new.self.items) c.in-Back.var c.in-Back.span c.loop-step.invariant.loading next
          c.back-walk.ensures.zone c.back-walk.ensures.depth c.back-walk.ensures.line c.back-walk.ensures.deep;
      made_for = c.loop-step.invariant.made_for;
    }

pub grown-requires : goal.grown-requires
grown-requires c =
    let none = none_left c.loop-step.ahead.items (sym c.loop-step.ahead.ok.0 ∙ c.in_default.ensures.cases.0) in
    let all = all_loaded c.args.b.now c.args.best.now (tree_of c.args.sketch.now) c.args.at c.loop-step.walk c.loop-step.nodes.items (steps_of c.loop-step.ahead.items)
    c.loop-step.invariant.loading (no_step c.loop-step.ahead.items none) in
    (all.0, all.2)

pub returns-clause-loaded : goal.returns-clause-loaded
returns-clause-loaded c =
    let none = none_left c.loop-step.ahead.items (sym c.loop-step.ahead.ok.0 ∙ c.in_default.ensures.cases.0) in
    let all = all_loaded c.args.b.now c.args.best.now (tree_of c.args.sketch.now) c.args.at c.loop-step.walk c.loop-step.nodes.items (steps_of c.loop-step.ahead.items)
    c.loop-step.invariant.loading (no_step c.loop-step.ahead.items none) in
    subst (λ (t : GrowingTree). IsLoadedNode c.args.b.now.named.program.limits c.args.b.now.blocking c.args.best.now c.args.at (tree_of c.args.sketch.now) t c.loop-step.walk)
    (sym (ap growing.tree_of c.in_ok-new.ensures.ok ∙ c.in_ok-tree.ensures all.0 all.2)) all.1
