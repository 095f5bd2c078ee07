use Rattle.std.proofs.Common.{◌≡◌, ◌∙◌, ◌^◌, ◌-◌, refl, ap, arith, to_z, of_z, subst, sym, inl}
use Rattle.std.specs.Prelude.{ℤ, pos, ◌*ℤ◌, ◌≤ℤ◌}
use Rattle.std.specs.Int.{w64, w128, int_min}
use Rattle.std.proofs.lemmas.Int.{ints}
use Rattle.bp_theory.specs.Sums.{round_up}
use Rattle.bp_theory.specs.Bound.{IsBound}
use Rattle.node_bound.proofs.Leaves.{can_round, raise, raised_small, raised_no_less}
use Rattle.node_bound.proofs.Strong.{rounding_reaches, unexceeded}
use Rattle.node_bound.proofs.shown.raised_to.Goals as goal

pub round-bound-requires-clause-above : goal.round-bound-requires-clause-above
round-bound-requires-clause-above c =
    can_round c.args.proof.scale c.args.shown.bound (to_z w128 (of_z w128 c.args.whole)) c.requires.size (c.if-not-exceeds.ensures.0 refl)

pub returns-clause-shown : goal.returns-clause-shown
returns-clause-shown c least shown =
    let whole : ℤ = to_z w128 (of_z w128 c.args.whole) in
    let same : whole ≡ c.args.whole = omega (arith, ints) in
    let rounded : to_z w64 (of_z w64 c.round-bound.result) ≡ c.round-bound.result = omega (arith, ints) in
    raise c.args.b.now.blocking c.args.zone.now least c.args.shown.proof c.args.shown.bound c.args.proof whole (to_z w64 (of_z w64 c.round-bound.result)) shown
    c.requires.sound (omega (arith, c.requires.positive))
    (subst (IsBound c.args.b.now.blocking c.args.zone.now c.args.proof) (sym same) c.requires.whole)
    (c.if-not-exceeds.ensures.0 refl) (rounded ∙ c.round-bound.ensures) c.requires.size

pub returns-clause-size : goal.returns-clause-size
returns-clause-size c =
    let whole : ℤ = to_z w128 (of_z w128 c.args.whole) in
    let rounded : to_z w64 (of_z w64 c.round-bound.result) ≡ c.round-bound.result = omega (arith, ints) in
    raised_small c.args.proof.scale c.args.shown.bound whole (to_z w64 (of_z w64 c.round-bound.result)) (omega (arith, c.requires.positive))
    (c.if-not-exceeds.ensures.0 refl) (rounded ∙ c.round-bound.ensures) c.requires.size

pub returns-clause-no_less : goal.returns-clause-no_less
returns-clause-no_less c =
    let whole : ℤ = to_z w128 (of_z w128 c.args.whole) in
    let rounded : to_z w64 (of_z w64 c.round-bound.result) ≡ c.round-bound.result = omega (arith, ints) in
    raised_no_less c.args.proof.scale c.args.shown.bound whole (to_z w64 (of_z w64 c.round-bound.result)) (omega (arith, c.requires.positive))
    (c.if-not-exceeds.ensures.0 refl) (rounded ∙ c.round-bound.ensures) c.requires.size

pub returns-clause-reached : goal.returns-clause-reached
returns-clause-reached c =
    let whole : ℤ = to_z w128 (of_z w128 c.args.whole) in
    let same : whole ≡ c.args.whole = omega (arith, ints) in
    let rounded : to_z w64 (of_z w64 c.round-bound.result) ≡ c.round-bound.result = omega (arith, ints) in
    rounding_reaches c.args.proof.scale c.args.whole (to_z w64 (of_z w64 c.round-bound.result)) c.requires.positive
    (rounded ∙ c.round-bound.ensures ∙ ap (λ (z : ℤ). int_min (round_up z c.args.proof.scale) (pos (2 ^ 62 - 1))) same)

pub returns-then-not-exceeds-clause-reached : goal.returns-then-not-exceeds-clause-reached
returns-then-not-exceeds-clause-reached c =
    let whole : ℤ = to_z w128 (of_z w128 c.args.whole) in
    let same : whole ≡ c.args.whole = omega (arith, ints) in
    inl (subst (λ (z : ℤ). z ≤ℤ (pos c.args.proof.scale *ℤ c.args.shown.bound)) same
    (unexceeded c.args.proof.scale c.args.shown.bound whole c.if-not-exceeds.ensures.1))
