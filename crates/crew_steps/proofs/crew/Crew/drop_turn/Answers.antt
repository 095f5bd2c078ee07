use Rattle.std.proofs.Common.{◌≡◌, Some, sym, subst, refl}
use Rattle.crew_steps.specs.States.{CrewState, hand_of}
use Rattle.crew_steps.proofs.Events.{drop_event, drop_whole, with_events, freed_room}
use Rattle.crew_steps.proofs.crew.Crew.drop_turn.Goals as goal

pub invariant_of-self : goal.invariant_of-self
invariant_of-self c =
    let held = subst (λ (s : CrewState). hand_of s c.args.worker ≡ Some c.requires.0) (sym c.self.view_is) c.requires.1 in (
      (
        c.self.invariant.0.0,
        with_events c.self.invariant.0.0 _ c.add.new.events.items
            (drop_event c.self.invariant.0.0 _ c.args.worker c.requires.0 c.self.invariant.0.1 held).kept,
      ),
      freed_room c.self.inside.hands.items c.args.worker c.requires.0 c.self.inside.holders _ _ _ _ _ c.self.invariant.1 held refl c.add.ensures.len c.add.ensures.capacity,
    )

pub returns-clause-event : goal.returns-clause-event
returns-clause-event c = λ b crew.
    drop_whole b _ c.args.self.now c.args.worker c.requires.0 c.add.new.events.items c.self.view_is crew c.requires.1 c.add.ensures.items
