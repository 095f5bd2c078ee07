use Rattle.std.proofs.Common.{◌≡◌, arith, subst, ◌-◌}
use Rattle.search_laws.specs.Crew.{free_count}
use Rattle.crew_steps.specs.States.{CrewState, crew_of}
use Rattle.crew_steps.proofs.Events.{held_and_free}
use Rattle.crew_steps.proofs.crew.Crew.free.Goals as goal

pub overflow_sub-result : goal.overflow_sub-result
overflow_sub-result c = omega (arith, held_and_free _ c.self.invariant.0, c.self.invariant.1.count, c.live.ensures.live)

pub returns : goal.returns
returns c =
    subst (λ (s : CrewState). c.live.result - c.self.inside.holders ≡ free_count (crew_of s)) c.self.view_is
    (omega (arith, held_and_free _ c.self.invariant.0, c.self.invariant.1.count, c.live.ensures.live))
