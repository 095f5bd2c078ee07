use Rattle.std.proofs.Common.{◌≡◌, ◌≤◌, false, true, Option, subst, sym, refl, arith}
use Rattle.std.specs.Prelude.{MatchOption}
use Rattle.search_laws.specs.Grove.{live_count}
use Rattle.open_nodes.specs.declared.turn.Turn.{Turn}
use Rattle.branch_tree.specs.Groves.{IsTurnAt}
use Rattle.crew_steps.specs.Hands.{IsHeld}
use Rattle.crew_steps.proofs.HandLemmas.{is_first, held_more, too_many}
use Rattle.crew_steps.proofs.first.first_free.Goals as goal

pub returns-then-not-is_held : goal.returns-then-not-is_held
returns-then-not-is_held c =
    let at : IsTurnAt c.args.grove.now c.loop-place.place c.in-Some.turn =
    subst (λ (o : Option Turn). MatchOption o (live_count c.args.grove.now.tree ≤ c.loop-place.place) (IsTurnAt c.args.grove.now c.loop-place.place))
    c.in-Some.is c.in_ok-turn.ensures.next in
    is_first c.args.grove.now c.args.hands.now c.loop-place.place c.in-Some.turn at c.loop-place.invariant
    (λ held. let wrong : false ≡ true = c.if-not-is_held.ensures.1 (subst (IsHeld c.args.hands.now) (sym c.as_slice.ensures) held) in cc)

pub loop-place-preserved : goal.loop-place-preserved
loop-place-preserved c =
    let at : IsTurnAt c.args.grove.now c.loop-place.place c.in-Some.turn =
    subst (λ (o : Option Turn). MatchOption o (live_count c.args.grove.now.tree ≤ c.loop-place.place) (IsTurnAt c.args.grove.now c.loop-place.place))
    c.in-Some.is c.in_ok-turn.ensures.next in
    held_more c.args.grove.now c.args.hands.now c.loop-place.place c.in-Some.turn at
    (subst (IsHeld c.args.hands.now) c.as_slice.ensures (c.if-not-is_held.ensures.0 refl)) c.loop-place.invariant

pub unreachable-requires-2 : goal.unreachable-requires-2
unreachable-requires-2 c =
    omega (
      arith,
      c.requires,
      c.loop-place-test.false,
      c.live-place-end.ensures.live,
      too_many c.args.grove.now c.args.hands.now c.loop-place.place c.live-place-end.ensures.standing c.loop-place.invariant,
    )
