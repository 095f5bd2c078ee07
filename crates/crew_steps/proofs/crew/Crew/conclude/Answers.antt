use Rattle.std.proofs.Common.{sym, subst}
use Rattle.bp_search.specs.Ends.{HasStopped}
use Rattle.crew_steps.specs.States.{CrewState}
use Rattle.crew_steps.proofs.crew.Crew.conclude.Goals as goal

pub returns-clause-ends : goal.returns-clause-ends
returns-clause-ends c = λ most stop.
    c.conclude.ensures.ends most (subst (λ (s : CrewState). HasStopped most s.grove.tree) (sym c.self.view_is) stop)
