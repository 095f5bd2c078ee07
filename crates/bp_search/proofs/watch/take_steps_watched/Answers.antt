use Rattle.std.proofs.Common.{arith}
use Rattle.bp_search.specs.Searches.{kept_cost}
use Rattle.bp_search.proofs.Extending.{extends_itself, extends_on, no_dearer_itself, no_dearer_on}
use Rattle.bp_search.proofs.watch.take_steps_watched.Goals as goal

pub loop-alloc-init : goal.loop-alloc-init
loop-alloc-init g c = record {
  running = c.requires.running;
  more = omega arith;
  few = c.requires.few;
  made_for = c.in_ok-pools.ensures;
  extends = extends_itself c.args.grove.now.tree;
  cheaper = no_dearer_itself (kept_cost c.args.best.now);
}

pub loop-alloc-preserved-in_ok-step : goal.loop-alloc-preserved-in_ok-step
loop-alloc-preserved-in_ok-step g c = record {
  running = c.in_ok-step.ensures.running;
  more = omega (arith, c.loop-alloc.invariant.more, c.in_ok-step.ensures.one);
  few = omega (arith, c.loop-alloc-test.true, c.count.ensures.count, c.in_ok-step.ensures.one);
  made_for = c.step.ensures.made_for;
  extends = extends_on c.args.grove.now.tree c.loop-alloc.grove.tree c.step.new.grove.tree c.loop-alloc.invariant.extends c.in_ok-step.ensures.extends;
  cheaper = no_dearer_on (kept_cost c.step.new.best) (kept_cost c.loop-alloc.best) (kept_cost c.args.best.now) c.in_ok-step.ensures.cheaper c.loop-alloc.invariant.cheaper;
}

pub loop-alloc-preserved : goal.loop-alloc-preserved
loop-alloc-preserved g c = record {
  running = c.in_ok-step.ensures.running;
  more = omega (arith, c.loop-alloc.invariant.more, c.in_ok-step.ensures.one);
  few = omega (arith, c.loop-alloc-test.true, c.count.ensures.count, c.in_ok-step.ensures.one);
  made_for = c.step.ensures.made_for;
  extends = extends_on c.args.grove.now.tree c.loop-alloc.grove.tree c.step.new.grove.tree c.loop-alloc.invariant.extends c.in_ok-step.ensures.extends;
  cheaper = no_dearer_on (kept_cost c.step.new.best) (kept_cost c.loop-alloc.best) (kept_cost c.args.best.now) c.in_ok-step.ensures.cheaper c.loop-alloc.invariant.cheaper;
}
