use Rattle.std.proofs.Common.{◌≡◌, length}
use Rattle.crew_steps.specs.States.{IsCrewOf}
use Rattle.bp_crew.proofs.Finishing.{IsLetGoTo}
use Rattle.bp_crew.proofs.run.let_go.Given as goal

abbrev pub invariant-loop-worker : goal.invariant-loop-worker
invariant-loop-worker l = record {
  kept : IsCrewOf l.b l.crew;
  many : length l.crew.hands ≡ l.workers;
  gone : IsLetGoTo l.b l.fn.crew l.worker l.crew;
}
