use Rattle.std.proofs.Common.{◌≡◌, ◌∙◌, ◌+◌, ◌<◌, ◌++◌, ◌∷◌, [], List, length, Option, None, sym, subst, ap, refl, arith}
use Rattle.std.specs.Prelude.{is_some, count_by}
use Rattle.std.specs.Vec.{vec_len, vec_capacity}
use Rattle.search_laws.specs.declared.Event.{Event}
use Rattle.search_laws.specs.declared.Kind.TheVariants.{Take}
use Rattle.search_laws.specs.Crew.{free_count}
use Rattle.search_laws.specs.Grove.{live_count}
use Rattle.crew_steps.specs.declared.hand.Hand.{Hand}
use Rattle.crew_steps.specs.Hands.{IsFirstFree}
use Rattle.crew_steps.specs.States.{CrewState, hand_of, crew_of}
use Rattle.crew_steps.proofs.Events.{held_and_free, take_whole, take_event, taken_room, event_of}
use Rattle.crew_steps.proofs.crew.Crew.take.Goals as goal

pub first_free-requires : goal.first_free-requires
first_free-requires c =
    let some : 0 < free_count (crew_of (record { grove = c.self.inside.grove; best = c.self.inside.best; hands = c.self.inside.hands.items; events = c.self.inside.events.items })) =
    subst (λ (s : CrewState). 0 < free_count (crew_of s)) (sym c.self.view_is) c.requires.some_free in
    subst (λ (hands : List (Option Hand)). count_by is_some hands < live_count c.self.inside.grove.tree) (sym c.as_slice.ensures.value)
    (omega (arith, held_and_free _ c.self.invariant.0, some))

pub returns-clause-event : goal.returns-clause-event
returns-clause-event c = λ b crew.
    let first = subst (λ (hands : List (Option Hand)). IsFirstFree c.self.inside.grove hands c.in_ok-turn.turn) c.as_slice.ensures.value c.in_ok-turn.ensures in
    let taken = take_whole _ c.args.self.now c.args.worker c.in_ok-turn.turn c.cost_of-given.result c.add.new.events.items c.self.view_is first c.cost_of-given.ensures
    (c.add.ensures.items ∙ ap (λ (es : List Event). es ++ event_of c.args.worker Take ∷ []) c.in_ok-reserve.ensures.items) in
    (taken.hand.turn.path, take_event b c.args.self.now _ c.args.worker crew c.requires.known c.requires.idle taken)

pub invariant_of-self-2 : goal.invariant_of-self-2
invariant_of-self-2 c =
    let first = subst (λ (hands : List (Option Hand)). IsFirstFree c.self.inside.grove hands c.in_ok-turn.turn) c.as_slice.ensures.value c.in_ok-turn.ensures in
    let known = subst (λ (s : CrewState). c.args.worker < length s.hands) (sym c.self.view_is) c.requires.known in
    let idle = subst (λ (s : CrewState). hand_of s c.args.worker ≡ None) (sym c.self.view_is) c.requires.idle in
    let event = take_event c.self.invariant.0.0 _ _ c.args.worker c.self.invariant.0.1 known idle
    (take_whole _ _ c.args.worker c.in_ok-turn.turn c.cost_of-given.result c.add.new.events.items refl first c.cost_of-given.ensures
    (c.add.ensures.items ∙ ap (λ (es : List Event). es ++ event_of c.args.worker Take ∷ []) c.in_ok-reserve.ensures.items)) in (
      (c.self.invariant.0.0, event.kept),
      taken_room c.self.inside.hands.items c.args.worker (record { turn = c.in_ok-turn.turn; given = c.cost_of-given.result }) c.self.inside.holders
          (c.self.inside.holders + 1) (vec_len c.self.inside.events) (vec_len c.add.new.events) (vec_capacity c.add.new.events) c.self.invariant.1.count known idle refl
          (omega (arith, c.add.ensures.len, c.in_ok-reserve.ensures.len))
          (omega (arith, c.add.ensures.capacity, c.in_ok-reserve.ensures.ok, c.in_ok-reserve.ensures.len, c.len.ensures, c.self.inside.hands.ok)),
    )
