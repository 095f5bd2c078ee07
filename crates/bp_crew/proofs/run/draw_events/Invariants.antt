use Rattle.std.proofs.Common.{◌≡◌, ◌≤◌, length}
use Rattle.bp_theory.specs.Trees.{steps}
use Rattle.search_laws.specs.Grove.{certificate_tree}
use Rattle.node_memory.specs.Pools.{AreMadeFor}
use Rattle.crew_steps.specs.States.{IsCrewOf, crew_of}
use Rattle.crew_steps.specs.Draws.{moment_of}
use Rattle.bp_crew.specs.Runs.{IsDrawnTo}
use Rattle.bp_crew.proofs.Drawing.{left_to_do}
use Rattle.bp_crew.proofs.run.draw_events.Given as goal

abbrev pub invariant-loop-alloc : goal.invariant-loop-alloc
invariant-loop-alloc l = record {
  kept : IsCrewOf l.b l.crew;
  many : length l.crew.hands ≡ length l.fn.crew.hands;
  few : steps (certificate_tree l.crew.grove.tree) ≤ l.most;
  low : l.drops ≤ length l.crew.hands;
  made_for : AreMadeFor l.b l.pools;
  drawn : IsDrawnTo l.b l.most l.order l.fn.crew l.crew l.drops l.state;
}

abbrev pub decreases-loop-alloc : goal.decreases-loop-alloc
decreases-loop-alloc l = left_to_do (moment_of l.most l.drops l.state (crew_of l.crew))
