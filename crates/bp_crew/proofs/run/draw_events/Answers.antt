use Rattle.std.proofs.Common.{◌≡◌, ◌∙◌, ◌<◌, ◌%◌, length, Some, sym, subst, refl, arith}
use Rattle.std.specs.Prelude.{slice_get}
use Rattle.crew_steps.specs.States.{CrewState, crew_of}
use Rattle.crew_steps.specs.Draws.{draw_of, drops_after, moment_of, choices_in}
use Rattle.bp_crew.specs.Runs.{IsDrawnTo}
use Rattle.bp_crew.proofs.Drawing.{drawn_allowed, drawn_low, hands_long, steps_within, drawn_on, falls, left_to_do}
use Rattle.bp_crew.proofs.run.draw_events.Goals as goal

pub act-requires-clause-may : goal.act-requires-clause-may
act-requires-clause-may c =
    drawn_allowed c.loop-alloc.crew c.loop-alloc.drops _ c.in_ok-choice.choice (c.args.b.now, c.loop-alloc.invariant.kept) c.in_ok-choice.ensures

pub drops_after-drops-requires : goal.drops_after-drops-requires
drops_after-drops-requires c =
    omega (
      arith,
      drawn_low c.loop-alloc.crew c.loop-alloc.drops _ c.in_ok-choice.choice c.loop-alloc.invariant.low c.in_ok-choice.ensures,
      c.loop-alloc.invariant.many,
      c.requires.not_many,
    )

pub loop-alloc-smaller : goal.loop-alloc-smaller
loop-alloc-smaller c =
    let now : CrewState = c.loop-alloc.crew in
    let next : CrewState = c.act.new.crew in
    subst (λ d. left_to_do (moment_of c.args.most d c.next_state-state.result (crew_of next)) < left_to_do (moment_of c.args.most c.loop-alloc.drops c.loop-alloc.state (crew_of now)))
    (sym c.drops_after-drops.ensures)
    (subst (λ s. left_to_do (moment_of c.args.most (drops_after c.in_ok-choice.choice.task c.loop-alloc.drops) s (crew_of next)) < left_to_do (moment_of c.args.most c.loop-alloc.drops c.loop-alloc.state (crew_of now)))
    (sym c.next_state-state.ensures)
    (falls c.args.b.now c.args.most c.loop-alloc.drops c.loop-alloc.state _ now next c.in_ok-choice.choice (c.loop-alloc-test.ensures.0 refl).1 c.in_ok-choice.ensures c.in_ok-act.ensures.done))

pub loop-alloc-preserved : goal.loop-alloc-preserved
loop-alloc-preserved c =
    let now : CrewState = c.loop-alloc.crew in
    let next : CrewState = c.act.new.crew in
    let done = c.in_ok-act.ensures.done in
    let on = c.loop-alloc-test.ensures.0 refl in
    let long = hands_long c.args.b.now now next done.event done.is in
    record {
      kept = done.is.kept;
      many = long ∙ c.loop-alloc.invariant.many;
      few = steps_within c.args.b.now now next done.event c.args.most done.is on.1;
      low = omega (
        arith,
        c.drops_after-drops.ensures,
        long,
        drawn_low now c.loop-alloc.drops _ c.in_ok-choice.choice c.loop-alloc.invariant.low c.in_ok-choice.ensures,
      );
      made_for = c.in_ok-act.ensures.made_for;
      drawn =
          subst (λ d. IsDrawnTo c.args.b.now c.args.most c.args.order c.args.crew.now next d c.next_state-state.result) (sym c.drops_after-drops.ensures)
          (subst (λ s. IsDrawnTo c.args.b.now c.args.most c.args.order c.args.crew.now next (drops_after c.in_ok-choice.choice.task c.loop-alloc.drops) s)
          (sym c.next_state-state.ensures)
          (drawn_on c.args.b.now c.args.most c.args.order c.loop-alloc.drops c.loop-alloc.state c.args.crew.now now next c.in_ok-choice.choice c.loop-alloc.invariant.drawn
          (omega (arith, c.loop-alloc.invariant.many, c.requires.some)) on.0 on.1
          (subst (λ s. slice_get (choices_in c.loop-alloc.drops now) (draw_of s % length (choices_in c.loop-alloc.drops now)) ≡ Some c.in_ok-choice.choice)
          c.next_state-state.ensures c.in_ok-choice.ensures) done));
    }
