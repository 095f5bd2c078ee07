use Rattle.std.proofs.Common.{◌-◌, ◌≤◌}
use Rattle.bp_theory.specs.Trees.{steps}
use Rattle.search_laws.specs.Grove.{certificate_tree}
use Rattle.node_memory.specs.Pools.{AreMadeFor}
use Rattle.search_laws.specs.GroveFacts.{IsNoDearer}
use Rattle.bp_search.specs.Searches.{IsRunning, kept_cost}
use Rattle.bp_search.specs.Resumed.{Extends}
use Rattle.bp_search.proofs.watch.take_steps_watched.Given as goal

abbrev pub invariant-loop-alloc : goal.invariant-loop-alloc
invariant-loop-alloc g l = record {
  running : IsRunning l.b l.grove l.best;
  more : steps (certificate_tree l.initial.grove.tree) ≤ steps (certificate_tree l.grove.tree);
  few : steps (certificate_tree l.grove.tree) ≤ l.most;
  made_for : AreMadeFor l.b l.pools;
  extends : Extends l.initial.grove.tree l.grove.tree;
  cheaper : IsNoDearer (kept_cost l.best) (kept_cost l.initial.best);
}

abbrev pub decreases-loop-alloc : goal.decreases-loop-alloc
decreases-loop-alloc g l = l.most - steps (certificate_tree l.grove.tree)
