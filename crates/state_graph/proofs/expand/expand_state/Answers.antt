use Rattle.std.proofs.Common.{◌≡◌, ◌∙◌, ◌+◌, ◌≤◌, ℕ, arith, sym, subst}
use Rattle.std.proofs.Math.IntN.{ℤ, pos, ◌+ℤ◌}
use Rattle.std.specs.Int.{w64}
use mir.Val.{of_z, to_z}
use Rattle.std.proofs.lemmas.Int.{ints}
use Rattle.bp_theory.specs.Program.{IsWithin}
use Rattle.pricing_problem.proofs.Passed.{passed_short}
use Rattle.state_graph.specs.Expansions.{IsBuilt}
use Rattle.state_graph.proofs.ExpandLaws.{built_state}
use Rattle.state_graph.proofs.expand.expand_state.Goals as goal

pub loop-step-preserved : goal.loop-step-preserved
loop-step-preserved c =
    let same : to_z w64 (of_z w64 c.number_at-number.result) ≡ c.args.layer.now.span.lo +ℤ pos c.loop-step.step =
    passed_short c.number_at-number.result c.number_at-number.type_inv ∙ c.number_at-number.ensures.value in
    let same_too : to_z w64 (of_z w64 c.number_at-number.result) ≡ c.number_at-number.result = passed_short c.number_at-number.result c.number_at-number.type_inv in
    record {
      room = omega (arith, c.in_ok-place.ensures.room, c.loop-step.invariant.room);
      arcs = omega (arith, c.in_ok-place.ensures.arcs, c.if-is_full.ensures.arcs);
      states = omega (arith, c.in_ok-place.ensures.states, c.if-is_full.ensures.states);
      many = omega (arith, c.in_ok-place.ensures.arcs, c.loop-step.invariant.many);
      fewer = λ before. c.in_ok-place.ensures.fewer (c.loop-step.invariant.fewer before);
      built = λ states at b.
          subst (λ y. IsBuilt c.args.layer.now states c.args.from y c.place.new.frontier.states.list.items c.place.new.frontier.arcs)
          (one_more (to_z w64 (of_z w64 c.number_at-number.result)) c.args.layer.now.span.lo c.loop-step.step same)
          (c.in_ok-place.ensures.built states at (subst (IsWithin c.args.layer.now.span) (sym same_too) c.number_at-number.ensures.within)
          (subst (λ y. IsBuilt c.args.layer.now states c.args.from y c.loop-step.frontier.states.list.items c.loop-step.frontier.arcs) (sym same)
          (c.loop-step.invariant.built states at b)));
    }
  where
    one_more : (y lo : ℤ) (step : ℕ) → y ≡ lo +ℤ pos step → y +ℤ pos 1 ≡ lo +ℤ pos (step + 1)
    one_more y lo step e = omega (arith, ints)

pub returns-clause-built : goal.returns-clause-built
returns-clause-built c = λ states at b.
    built_state c.args.layer.now states c.args.from c.loop-step.frontier.states.list.items c.loop-step.frontier.arcs
    (subst (λ n. IsBuilt c.args.layer.now states c.args.from (c.args.layer.now.span.lo +ℤ pos n) c.loop-step.frontier.states.list.items c.loop-step.frontier.arcs)
    (ended c.loop-step.step _ _ c.count_of-step-end.ensures c.loop-step-test.false c.loop-step.auto.step-end) (c.loop-step.invariant.built states at b))
  where
    ended : (step end w : ℕ) → end ≡ w → end ≤ step → step ≤ end → step ≡ w
    ended step end w e a b = omega (arith, e, a, b)
