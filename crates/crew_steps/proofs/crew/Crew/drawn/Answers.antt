use Rattle.std.proofs.Common.{◌≡◌, ◌∙◌, ◌<◌, ◌%◌, nat_lt, List, length, Some, sym, subst, ap}
use Rattle.std.specs.Prelude.{is_some, map, IfOk, slice_get}
use Rattle.search_laws.specs.Crew.{free_count}
use Rattle.crew_steps.specs.declared.choice.Choice.{Choice}
use Rattle.crew_steps.specs.Draws.{choices_from, choices_in, draw_of}
use Rattle.crew_steps.specs.States.{CrewState, crew_of}
use Rattle.crew_steps.proofs.Choosing.{choices_are, drawn_some}
use Rattle.crew_steps.proofs.crew.Crew.drawn.Goals as goal

pub picked-requires-clause-some : goal.picked-requires-clause-some
picked-requires-clause-some c =
    let is : choices_from 0 c.as_slice-2.result.now (nat_lt 0 c.free-may_take.result) (nat_lt c.args.drops c.len.result) ≡ choices_in c.args.drops c.args.self.now =
    choices_are _ c.as_slice-2.result.now c.args.drops c.free-may_take.result c.len.result c.self.invariant.0
    (c.as_slice-2.ensures.value ∙ c.in_ok-holds.ensures ∙ ap (map is_some) c.as_slice.ensures.value)
    (c.free-may_take.ensures ∙ ap (λ (s : CrewState). free_count (crew_of s)) (sym c.self.view_is)) (c.len.ensures ∙ c.self.inside.hands.ok.0)
    ∙ ap (choices_in c.args.drops) c.self.view_is in
    subst (λ (l : List Choice). 0 < length l) (sym is) (drawn_some c.args.self.now c.args.drops c.requires.some c.requires.live)

pub returns : goal.returns
returns c =
    let is : choices_from 0 c.as_slice-2.result.now (nat_lt 0 c.free-may_take.result) (nat_lt c.args.drops c.len.result) ≡ choices_in c.args.drops c.args.self.now =
    choices_are _ c.as_slice-2.result.now c.args.drops c.free-may_take.result c.len.result c.self.invariant.0
    (c.as_slice-2.ensures.value ∙ c.in_ok-holds.ensures ∙ ap (map is_some) c.as_slice.ensures.value)
    (c.free-may_take.ensures ∙ ap (λ (s : CrewState). free_count (crew_of s)) (sym c.self.view_is)) (c.len.ensures ∙ c.self.inside.hands.ok.0)
    ∙ ap (choices_in c.args.drops) c.self.view_is in
    subst (λ (l : List Choice). IfOk c.picked.result (λ choice. slice_get l (draw_of c.args.state % length l) ≡ Some choice)) is c.picked.ensures
