use Rattle.std.proofs.Common.{arith}
use Rattle.open_nodes.specs.Queues.{LiesBelow}
use Rattle.bp_search.specs.Searches.{kept_cost}
use Rattle.bp_search.proofs.Extending.{extends_itself, extends_on, no_dearer_itself, no_dearer_on}
use Rattle.bp_search.proofs.Beside.{beside_itself, beside_more, taken_below}
use Rattle.bp_search.proofs.below.take_steps_below.Goals as goal

pub loop-alloc-init : goal.loop-alloc-init
loop-alloc-init c = record {
  running = c.requires.running;
  more = omega arith;
  few = c.requires.few;
  beside = beside_itself c.args.grove.now.tree c.args.below.now;
  made_for = c.in_ok-pools.ensures;
  extends = extends_itself c.args.grove.now.tree;
  cheaper = no_dearer_itself (kept_cost c.args.best.now);
}

pub loop-alloc-preserved-in_ok-step : goal.loop-alloc-preserved-in_ok-step
loop-alloc-preserved-in_ok-step c =
    let lies : LiesBelow c.args.below.now c.in-Some.turn.path =
    taken_below c.loop-alloc.grove c.args.below.now c.in_ok-turn.field-0 c.in-Some.turn c.in_ok-turn.ensures.next c.in-Some.is in
    record {
      running = c.in_ok-step.ensures.running;
      more = omega (arith, c.loop-alloc.invariant.more, c.in_ok-step.ensures.one);
      few = omega (arith, c.loop-alloc-test.true, c.count.ensures.count, c.in_ok-step.ensures.one);
      beside = beside_more c.args.grove.now.tree c.loop-alloc.grove.tree c.step.new.grove.tree c.args.below.now lies.0 c.in-Some.turn.path lies.1
          c.loop-alloc.invariant.beside c.in_ok-step.ensures.beside;
      made_for = c.step.ensures.made_for;
      extends = extends_on c.args.grove.now.tree c.loop-alloc.grove.tree c.step.new.grove.tree c.loop-alloc.invariant.extends c.in_ok-step.ensures.extends;
      cheaper = no_dearer_on (kept_cost c.step.new.best) (kept_cost c.loop-alloc.best) (kept_cost c.args.best.now) c.in_ok-step.ensures.cheaper c.loop-alloc.invariant.cheaper;
    }

pub loop-alloc-preserved : goal.loop-alloc-preserved
loop-alloc-preserved c =
    let lies : LiesBelow c.args.below.now c.in-Some.turn.path =
    taken_below c.loop-alloc.grove c.args.below.now c.in_ok-turn.field-0 c.in-Some.turn c.in_ok-turn.ensures.next c.in-Some.is in
    record {
      running = c.in_ok-step.ensures.running;
      more = omega (arith, c.loop-alloc.invariant.more, c.in_ok-step.ensures.one);
      few = omega (arith, c.loop-alloc-test.true, c.count.ensures.count, c.in_ok-step.ensures.one);
      beside = beside_more c.args.grove.now.tree c.loop-alloc.grove.tree c.step.new.grove.tree c.args.below.now lies.0 c.in-Some.turn.path lies.1
          c.loop-alloc.invariant.beside c.in_ok-step.ensures.beside;
      made_for = c.step.ensures.made_for;
      extends = extends_on c.args.grove.now.tree c.loop-alloc.grove.tree c.step.new.grove.tree c.loop-alloc.invariant.extends c.in_ok-step.ensures.extends;
      cheaper = no_dearer_on (kept_cost c.step.new.best) (kept_cost c.loop-alloc.best) (kept_cost c.args.best.now) c.in_ok-step.ensures.cheaper c.loop-alloc.invariant.cheaper;
    }
