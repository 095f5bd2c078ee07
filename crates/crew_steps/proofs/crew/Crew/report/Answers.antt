use Rattle.std.proofs.Common.{◌≡◌, ◌∙◌, ◌++◌, ◌∷◌, [], Option, Some, sym, subst, ap, refl}
use Rattle.search_laws.specs.declared.Kind.{Kind}
use Rattle.crew_steps.specs.declared.hand.Hand.{Hand}
use Rattle.crew_steps.specs.Hands.{CanGrowHeld, IsGrown}
use Rattle.crew_steps.specs.States.{CrewState, IsCrewOf, IsRight}
use Rattle.crew_steps.proofs.HandLemmas.{read_there}
use Rattle.crew_steps.proofs.Events.{can_grow_held, report_whole, freed_room, event_of}
use Rattle.crew_steps.proofs.crew.Crew.report.Goals as goal

pub grow_held-requires-clause-held : goal.grow_held-requires-clause-held
grow_held-requires-clause-held c =
    let crew = subst (IsCrewOf c.args.b.now) (sym c.self.view_is) c.requires.kept in
    let right = subst (λ (s : CrewState). IsRight c.args.b.now s c.args.worker c.args.verdict) (sym c.self.view_is) c.requires.right in
    let here : c.index.result.now ≡ Some right.hand = read_there c.self.inside.hands.items c.args.worker right.hand c.index.result.now right.holds c.index.ensures in
    subst (λ (o : Option Hand). CanGrowHeld c.args.b.now.blocking c.self.inside.grove o c.args.verdict.next) (right.holds ∙ sym here)
    (can_grow_held c.args.b.now _ c.args.worker c.args.verdict crew right)

pub returns-clause-event : goal.returns-clause-event
returns-clause-event c =
    let right = subst (λ (s : CrewState). IsRight c.args.b.now s c.args.worker c.args.verdict) (sym c.self.view_is) c.requires.right in
    let here : c.index.result.now ≡ Some right.hand = read_there c.self.inside.hands.items c.args.worker right.hand c.index.result.now right.holds c.index.ensures in
    report_whole c.args.b.now _ c.args.self.now c.args.worker c.args.verdict c.grow_held.new.grove c.keep.new.best c.add.new.events.items c.self.view_is
    c.requires.kept c.requires.right
    (subst (λ (o : Option Hand). IsGrown c.self.inside.grove o c.args.verdict.next c.grow_held.new.grove) (here ∙ sym right.holds) c.in_ok-grow_held.ensures.grown)
    c.keep.ensures.point c.keep.ensures.costs
    (c.add.ensures.items ∙ ap (λ (k : Kind). c.self.inside.events.items ++ event_of c.args.worker k ∷ []) c.kind_of-kind.ensures)

pub invariant_of-self-2 : goal.invariant_of-self-2
invariant_of-self-2 c =
    let right = subst (λ (s : CrewState). IsRight c.args.b.now s c.args.worker c.args.verdict) (sym c.self.view_is) c.requires.right in (
      (c.args.b.now, (returns-clause-event c).kept),
      freed_room c.self.inside.hands.items c.args.worker right.hand c.self.inside.holders _ _ _ _ _ c.self.invariant.1 right.holds refl c.add.ensures.len c.add.ensures.capacity,
    )
