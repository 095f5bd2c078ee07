use Rattle.std.proofs.Common.{◌≡◌, ◌∙◌, ◌∷◌, refl, sym, ap, subst, rules, to_z, of_z, w64}
use Rattle.std.specs.Prelude.{ℤ}
use Rattle.open_nodes.specs.declared.nodes.GrowingNode.TheVariants.{Split}
use Rattle.tree_load.specs.Steps.{LoadsNode}
use Rattle.std.proofs.lemmas.Result.{IfOk-weaker}
use Rattle.bp_theory.specs.Trees.{split}
use Rattle.cert_format.specs.Sketch.{tree_of}
use Rattle.cert_format.specs.declared.sketch.Sketch.{Sketch}
use Rattle.cert_line_check.specs.Steps.{node, steps_of}
use Rattle.tree_load.proofs.Descent.{may_shut, may_open, as_shut, as_open}
use Rattle.tree_load.proofs.Loading.{leaf_loads, split_loads}
use Rattle.tree_load.proofs.nodes.load_line.Goals as goal

pub load_end-requires-clause-may : goal.load_end-requires-clause-may
load_end-requires-clause-may c = may_shut c.args.b.now c.args.best.now c.args.at (tree_of c.args.sketch.now) c.in-Leaf.proof (ap tree_of c.in-Leaf.is) c.requires.may.0

pub load_end-requires-in-Open-clause-may : goal.load_end-requires-in-Open-clause-may
load_end-requires-in-Open-clause-may c = may_open c.args.b.now c.args.best.now c.args.at (tree_of c.args.sketch.now) c.in-Open.proof (ap tree_of c.in-Open.is) c.requires.may.0

pub returns-in-Leaf-clause-loaded : goal.returns-in-Leaf-clause-loaded
returns-in-Leaf-clause-loaded c =
    IfOk-weaker c.load_end.result _ _
    (λ r loaded.
    leaf_loads c.args.b.now c.args.best.now (tree_of c.args.sketch.now) (steps_of c.args.ahead.now.items) (steps_of c.args.ahead.now.items) c.args.at r.1 loaded.0 r.0
    (as_shut c.args.b.now.named.program.limits c.args.b.now.blocking c.args.best.now c.args.at r.1 (tree_of c.args.sketch.now) c.in-Leaf.proof loaded.0 (ap tree_of c.in-Leaf.is) loaded.1)
    loaded.2 c.requires.may refl)
    c.load_end.ensures.loaded

pub returns-in-Open-clause-loaded : goal.returns-in-Open-clause-loaded
returns-in-Open-clause-loaded c =
    IfOk-weaker c.load_end-in-Open.result _ _
    (λ r loaded.
    leaf_loads c.args.b.now c.args.best.now (tree_of c.args.sketch.now) (steps_of c.args.ahead.now.items) (steps_of c.args.ahead.now.items) c.args.at r.1 loaded.0 r.0
    (as_open c.args.b.now.named.program.limits c.args.b.now.blocking c.args.best.now c.args.at r.1 (tree_of c.args.sketch.now) c.in-Open.proof loaded.0 (ap tree_of c.in-Open.is) loaded.1)
    loaded.2 c.requires.may refl)
    c.load_end-in-Open.ensures.loaded

pub returns-in_ok-push_parts-in-Fork-clause-loaded : goal.returns-in_ok-push_parts-in-Fork-clause-loaded
returns-in_ok-push_parts-in-Fork-clause-loaded c =
    let low : c.deref.result.now ≡ c.in-Fork.low.value = c.deref.ensures in
    let high : c.deref-in-Fork.result.now ≡ c.in-Fork.high.value = c.deref-in-Fork.ensures in
    let is : tree_of c.args.sketch.now ≡ split c.in-Fork.var c.in-Fork.split (tree_of c.deref.result.now) (tree_of c.deref-in-Fork.result.now) =
    ap tree_of c.in-Fork.is
    ∙ ap (λ (s : Sketch). split c.in-Fork.var c.in-Fork.split (tree_of s) (tree_of c.in-Fork.high.value)) (sym low)
    ∙ ap (λ (s : Sketch). split c.in-Fork.var c.in-Fork.split (tree_of c.deref.result.now) (tree_of s)) (sym high) in
    let whole : to_z w64 (of_z w64 c.in-Fork.split) ≡ c.in-Fork.split = search rules in
    subst (λ (z : ℤ). LoadsNode c.args.b.now c.args.best.now (node (tree_of c.args.sketch.now) ∷ steps_of c.args.ahead.now.items) c.args.at (Split c.in-Fork.var z)
    (steps_of c.push_parts.new.ahead.items) c.to_low.result) (sym whole)
    (split_loads c.args.b.now c.args.best.now (tree_of c.args.sketch.now) (tree_of c.deref.result.now) (tree_of c.deref-in-Fork.result.now)
    (steps_of c.args.ahead.now.items) (steps_of c.push_parts.new.ahead.items) c.args.at c.to_low.result c.in-Fork.var c.in-Fork.split c.span-span.result is
    c.in_ok-push_parts-in-Fork.ensures c.span-span.ensures c.requires.may c.to_low.ensures.zone c.to_low.ensures.depth c.to_low.ensures.line c.to_low.ensures.deep)
