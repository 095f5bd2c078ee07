use Rattle.std.proofs.Common.{◌≡◌, ◌∙◌, ◌∷◌, sym, ap, subst, set, rules, to_z, of_z, w64}
use Rattle.std.specs.Prelude.{ℤ, pos, ◌+ℤ◌, ◌<ℤ◌}
use Rattle.bp_theory.specs.Judgement.{tree_lines}
use Rattle.cert_format.specs.Sketch.{tree_of}
use Rattle.cert_line_check.specs.Steps.{node, step_of, steps_of, MayJudge, JudgesNode, IsJudging}
use Rattle.cert_line_check.specs.declared.ahead.Ahead.{Ahead}
use Rattle.cert_line_check.proofs.Walking.{next_step, first_step, begins_judging, judged_on, judged_end, few_left, turns_high, goes_back, may_turn, may_go_back}
use Rattle.cert_line_check.proofs.tree.judge_tree.Goals as goal

pub loop-step-init : goal.loop-step-init
loop-step-init c = record {
  judged = begins_judging c.args.b.now.named.program c.args.b.now.blocking c.args.claim.now (tree_of c.args.tree.now) c.args.at (steps_of c.push.new.self.items)
      (first_step c.new-ahead.result.items c.push.new.self.items _ c.new-ahead.ensures.items c.in_ok-push.ensures.items) c.requires.zone c.requires.fits;
  made_for = c.requires.made_for;
}

pub judge_node-requires-clause-may : goal.judge_node-requires-clause-may
judge_node-requires-clause-may c =
    let next = next_step c.loop-step.ahead.items c.pop.new.self.items c.in-Some.step c.in-Some.ensures.items
    ∙ ap (λ (s : Ahead). step_of s ∷ steps_of c.pop.new.self.items) c.in-Node.is in
    subst (λ l. MayJudge c.args.b.now.named.program.spans c.args.b.now.blocking l c.loop-step.place.zone) next c.loop-step.invariant.judged.may

pub judge_node-requires-clause-few : goal.judge_node-requires-clause-few
judge_node-requires-clause-few c =
    let next = next_step c.loop-step.ahead.items c.pop.new.self.items c.in-Some.step c.in-Some.ensures.items
    ∙ ap (λ (s : Ahead). step_of s ∷ steps_of c.pop.new.self.items) c.in-Node.is in
    few_left c.args.b.now.named.program c.args.b.now.blocking c.args.claim.now (tree_lines (tree_of c.args.tree.now) c.args.at.zone) c.args.at.zone c.args.at c.loop-step.place
    (node (tree_of c.in-Node.node.now) ∷ steps_of c.pop.new.self.items)
    (subst (λ l. IsJudging c.args.b.now.named.program c.args.b.now.blocking c.args.claim.now (tree_lines (tree_of c.args.tree.now) c.args.at.zone) c.args.at.zone c.args.at l c.loop-step.place)
    next c.loop-step.invariant.judged)
    c.requires.few

pub returns-in-Err-clause-judged : goal.returns-in-Err-clause-judged
returns-in-Err-clause-judged c =
    let next = next_step c.loop-step.ahead.items c.pop.new.self.items c.in-Some.step c.in-Some.ensures.items
    ∙ ap (λ (s : Ahead). step_of s ∷ steps_of c.pop.new.self.items) c.in-Node.is in
    judged_end c.args.b.now.named.program c.args.b.now.blocking c.args.claim.now (tree_lines (tree_of c.args.tree.now) c.args.at.zone) c.args.at.zone c.args.at c.loop-step.place
    (node (tree_of c.in-Node.node.now) ∷ steps_of c.pop.new.self.items) c.in-Err.found.line c.in-Err.found.fault
    (subst (λ l. IsJudging c.args.b.now.named.program c.args.b.now.blocking c.args.claim.now (tree_lines (tree_of c.args.tree.now) c.args.at.zone) c.args.at.zone c.args.at l c.loop-step.place)
    next c.loop-step.invariant.judged)
    (subst (λ r. JudgesNode c.args.b.now.named.program c.args.b.now.blocking c.args.claim.now (node (tree_of c.in-Node.node.now) ∷ steps_of c.pop.new.self.items) c.loop-step.place
    (steps_of c.judge_node.new.ahead.items) r) c.in-Err.is c.in_ok-found-in-Node.ensures.judged)

pub loop-step-preserved-in-Ok : goal.loop-step-preserved-in-Ok
loop-step-preserved-in-Ok c =
    let next = next_step c.loop-step.ahead.items c.pop.new.self.items c.in-Some.step c.in-Some.ensures.items
    ∙ ap (λ (s : Ahead). step_of s ∷ steps_of c.pop.new.self.items) c.in-Node.is in
    let one = subst (λ r. JudgesNode c.args.b.now.named.program c.args.b.now.blocking c.args.claim.now (node (tree_of c.in-Node.node.now) ∷ steps_of c.pop.new.self.items) c.loop-step.place
    (steps_of c.judge_node.new.ahead.items) r) c.in-Ok.is c.in_ok-found-in-Node.ensures.judged in
    record {
      judged = judged_on c.args.b.now.named.program c.args.b.now.blocking c.args.claim.now (tree_lines (tree_of c.args.tree.now) c.args.at.zone) c.args.at.zone c.args.at c.loop-step.place
          c.in-Ok.next (node (tree_of c.in-Node.node.now) ∷ steps_of c.pop.new.self.items) (steps_of c.judge_node.new.ahead.items)
          (subst (λ l. IsJudging c.args.b.now.named.program c.args.b.now.blocking c.args.claim.now (tree_lines (tree_of c.args.tree.now) c.args.at.zone) c.args.at.zone c.args.at l c.loop-step.place)
          next c.loop-step.invariant.judged) one.0;
      made_for = c.in_ok-found-in-Node.ensures.made_for;
    }

pub to_high-place-requires-clause-there : goal.to_high-place-requires-clause-there
to_high-place-requires-clause-there c =
    let next = next_step c.loop-step.ahead.items c.pop.new.self.items c.in-Some.step c.in-Some.ensures.items
    ∙ ap (λ (s : Ahead). step_of s ∷ steps_of c.pop.new.self.items) c.in-High.is in
    (may_turn c.args.b.now.named.program c.args.b.now.blocking c.args.claim.now (steps_of c.loop-step.ahead.items) (steps_of c.pop.new.self.items) c.loop-step.place.zone
    c.in-High.var c.in-High.at c.in-High.span c.loop-step.invariant.judged.may next).0

pub to_high-place-requires-clause-below : goal.to_high-place-requires-clause-below
to_high-place-requires-clause-below c =
    let next = next_step c.loop-step.ahead.items c.pop.new.self.items c.in-Some.step c.in-Some.ensures.items
    ∙ ap (λ (s : Ahead). step_of s ∷ steps_of c.pop.new.self.items) c.in-High.is in
    let whole : to_z w64 (of_z w64 c.in-High.at) ≡ c.in-High.at = search rules in
    subst (λ (z : ℤ). z <ℤ c.in-High.span.hi) (sym whole)
    (may_turn c.args.b.now.named.program c.args.b.now.blocking c.args.claim.now (steps_of c.loop-step.ahead.items) (steps_of c.pop.new.self.items) c.loop-step.place.zone
    c.in-High.var c.in-High.at c.in-High.span c.loop-step.invariant.judged.may next).1

pub loop-step-preserved-in-High : goal.loop-step-preserved-in-High
loop-step-preserved-in-High c =
    let next = next_step c.loop-step.ahead.items c.pop.new.self.items c.in-Some.step c.in-Some.ensures.items
    ∙ ap (λ (s : Ahead). step_of s ∷ steps_of c.pop.new.self.items) c.in-High.is in
    let whole : to_z w64 (of_z w64 c.in-High.at) ≡ c.in-High.at = search rules in
    record {
      judged = turns_high c.args.b.now.named.program c.args.b.now.blocking c.args.claim.now (tree_lines (tree_of c.args.tree.now) c.args.at.zone) c.args.at.zone c.args.at c.loop-step.place
          c.to_high-place.result (steps_of c.loop-step.ahead.items) (steps_of c.pop.new.self.items) c.in-High.var c.in-High.at c.in-High.span c.loop-step.invariant.judged next
          (c.to_high-place.ensures.zone ∙ ap (λ (z : ℤ). set c.loop-step.place.zone c.in-High.var (record { lo = z +ℤ pos 1; hi = c.in-High.span.hi })) whole)
          c.to_high-place.ensures.line c.to_high-place.ensures.left;
      made_for = c.loop-step.invariant.made_for;
    }

pub back-place-requires-clause-there : goal.back-place-requires-clause-there
back-place-requires-clause-there c =
    let next = next_step c.loop-step.ahead.items c.pop.new.self.items c.in-Some.step c.in-Some.ensures.items
    ∙ ap (λ (s : Ahead). step_of s ∷ steps_of c.pop.new.self.items) c.in-Back.is in
    (may_go_back c.args.b.now.named.program c.args.b.now.blocking c.args.claim.now (steps_of c.loop-step.ahead.items) (steps_of c.pop.new.self.items) c.loop-step.place.zone
    c.in-Back.var c.in-Back.span c.loop-step.invariant.judged.may next).0

pub back-place-requires-clause-proper : goal.back-place-requires-clause-proper
back-place-requires-clause-proper c =
    let next = next_step c.loop-step.ahead.items c.pop.new.self.items c.in-Some.step c.in-Some.ensures.items
    ∙ ap (λ (s : Ahead). step_of s ∷ steps_of c.pop.new.self.items) c.in-Back.is in
    (may_go_back c.args.b.now.named.program c.args.b.now.blocking c.args.claim.now (steps_of c.loop-step.ahead.items) (steps_of c.pop.new.self.items) c.loop-step.place.zone
    c.in-Back.var c.in-Back.span c.loop-step.invariant.judged.may next).1

pub loop-step-preserved : goal.loop-step-preserved
loop-step-preserved c =
    let next = next_step c.loop-step.ahead.items c.pop.new.self.items c.in-Some.step c.in-Some.ensures.items
    ∙ ap (λ (s : Ahead). step_of s ∷ steps_of c.pop.new.self.items) c.in-Back.is in
    record {
      judged = goes_back c.args.b.now.named.program c.args.b.now.blocking c.args.claim.now (tree_lines (tree_of c.args.tree.now) c.args.at.zone) c.args.at.zone c.args.at c.loop-step.place
          c.back-place.result (steps_of c.loop-step.ahead.items) (steps_of c.pop.new.self.items) c.in-Back.var c.in-Back.span c.loop-step.invariant.judged next
          c.back-place.ensures.zone c.back-place.ensures.line c.back-place.ensures.left;
      made_for = c.loop-step.invariant.made_for;
    }
