use Rattle.std.proofs.Common.{◌≡◌, ◌∙◌, refl, sym, ap, Some}
use Rattle.std.proofs.lemmas.Result.{IfOk-weaker}
use Rattle.bp_theory.specs.Trees.{shut_leaf, open_leaf, split}
use Rattle.bp_theory.specs.declared.CheckKind.TheVariants.{Split}
use Rattle.cert_format.specs.Sketch.{tree_of}
use Rattle.cert_format.specs.declared.sketch.Sketch.{Sketch}
use Rattle.cert_line_check.specs.Steps.{steps_of}
use Rattle.cert_line_check.proofs.Walking.{leaf_judged, split_unsound, split_judged}
use Rattle.cert_line_check.proofs.tree.judge_node.Goals as goal

pub returns-in_default-clause-judged : goal.returns-in_default-clause-judged
returns-in_default-clause-judged c =
    split_unsound c.args.b.now.named.program c.args.b.now.blocking c.args.claim.now (tree_of c.args.tree.now) (tree_of c.in-Fork.low.value) (tree_of c.in-Fork.high.value)
    (steps_of c.args.ahead.now.items) (steps_of c.args.ahead.now.items) c.args.at c.in-Fork.var c.in-Fork.split (record { line = c.args.at.line; fault = Some Split })
    (ap tree_of c.in-Fork.is) c.in_default.ensures refl refl

pub returns-in-Leaf-clause-judged : goal.returns-in-Leaf-clause-judged
returns-in-Leaf-clause-judged c =
    IfOk-weaker c.judge_leaf.result _ _
    (λ found judged.
    leaf_judged c.args.b.now.named.program c.args.b.now.blocking c.args.claim.now (tree_of c.args.tree.now) (shut_leaf c.in-Leaf.proof)
    (steps_of c.args.ahead.now.items) (steps_of c.args.ahead.now.items) c.args.at found _ (ap tree_of c.in-Leaf.is) refl refl judged c.requires.may)
    c.judge_leaf.ensures.judged

pub returns-in-Open-clause-judged : goal.returns-in-Open-clause-judged
returns-in-Open-clause-judged c =
    IfOk-weaker c.judge_leaf-in-Open.result _ _
    (λ found judged.
    leaf_judged c.args.b.now.named.program c.args.b.now.blocking c.args.claim.now (tree_of c.args.tree.now) (open_leaf c.in-Open.proof)
    (steps_of c.args.ahead.now.items) (steps_of c.args.ahead.now.items) c.args.at found _ (ap tree_of c.in-Open.is) refl refl judged c.requires.may)
    c.judge_leaf-in-Open.ensures.judged

pub returns-in_ok-push_parts-in-Fork-clause-judged : goal.returns-in_ok-push_parts-in-Fork-clause-judged
returns-in_ok-push_parts-in-Fork-clause-judged c =
    let low : c.deref.result.now ≡ c.in-Fork.low.value = c.deref.ensures in
    let high : c.deref-in-Fork.result.now ≡ c.in-Fork.high.value = c.deref-in-Fork.ensures in
    let is : tree_of c.args.tree.now ≡ split c.in-Fork.var c.in-Fork.split (tree_of c.deref.result.now) (tree_of c.deref-in-Fork.result.now) =
    ap tree_of c.in-Fork.is
    ∙ ap (λ (s : Sketch). split c.in-Fork.var c.in-Fork.split (tree_of s) (tree_of c.in-Fork.high.value)) (sym low)
    ∙ ap (λ (s : Sketch). split c.in-Fork.var c.in-Fork.split (tree_of c.deref.result.now) (tree_of s)) (sym high) in
    split_judged c.args.b.now.named.program c.args.b.now.blocking c.args.claim.now (tree_of c.args.tree.now) (tree_of c.deref.result.now) (tree_of c.deref-in-Fork.result.now)
    (steps_of c.args.ahead.now.items) (steps_of c.push_parts.new.ahead.items) c.args.at c.to_low.result c.in-Fork.var c.in-Fork.split c.in-Some.span is
    c.in_ok-push_parts-in-Fork.ensures c.in-Some.ensures.2 c.in-Some.ensures.0 c.requires.may c.to_low.ensures.zone c.to_low.ensures.line c.to_low.ensures.left
